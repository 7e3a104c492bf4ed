-- What a host with a secret draws for the peer of a slot, so that only who sees its datagrams knows it.
use Rattle.std.specs.Prelude.{ℕ, ◌+◌, ◌*◌, ◌%◌, ◌^◌, ◌==◌, ◌&&◌, if◌then◌else◌, Option, Some, None}
use Rattle.rand_chacha.specs.ChaCha.{word_at, key_of}
use Rattle.enet_codec.specs.declared.config.Secret.{Secret}
use Rattle.enet_slot.specs.declared.drawing.Drawn.{Drawn}

-- word k of the key stream of ChaCha, with 20 rounds, whose number is slot i and the generation: each peer of a host has its own
abbrev pub drawn_word : Secret → (i generation k : ℕ) → ℕ
drawn_word secret i generation k = word_at 10 (key_of secret.key) (i * 2 ^ 32 + generation) k

abbrev pub drawn_by : Secret → (i generation : ℕ) → Drawn
drawn_by secret i generation = record {
  offsets = record { time = drawn_word secret i generation 0 % 65536; number = drawn_word secret i generation 1 % 65536 };
  incoming_session = drawn_word secret i generation 2 % 4;
  outgoing_session = drawn_word secret i generation 3 % 4;
}

-- where there is no secret nothing is added, and no session is drawn
abbrev pub nothing_drawn : Drawn
nothing_drawn = record { offsets = record { time = 0; number = 0 }; incoming_session = 0xFF; outgoing_session = 0xFF }

-- for the peer of this generation in slot i
abbrev pub drawn : Option Secret → (i generation : ℕ) → Drawn
drawn None i generation = nothing_drawn
drawn (Some secret) i generation = drawn_by secret i generation

-- the session that a slot had; where it had none and none came, the one that is drawn
abbrev pub session_or_drawn : (held came drawn : ℕ) → ℕ
session_or_drawn held came drawn = if held == 0xFF && came == 0xFF then drawn else held
