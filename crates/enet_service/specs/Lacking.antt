-- Which refused packets a peer lacks.
use Rattle.std.specs.Prelude.{ℕ, ◌%◌, ◌==◌, Bool, false}
use Rattle.enet_codec.specs.declared.refusal.Refusal.{Refusal}
use Rattle.enet_codec.specs.declared.refusal.Refusal.TheVariants.{Full}

-- a reliable one, refused because the peer is full
abbrev pub is_lacked : ℕ → Refusal → Bool
is_lacked flags Full = flags % 2 == 1
is_lacked flags _ = false
