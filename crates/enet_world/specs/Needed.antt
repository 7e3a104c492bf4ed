-- How many rounds without losses a world tells are enough for a connection.
use Rattle.std.specs.Prelude.{ℕ, zero, suc, ◌+◌, ◌*◌, ◌/◌, ◌^◌, ◌&&◌, min, Bool, true, false, if◌then◌else◌, nat_lt, List, [], ◌∷◌, length, Option, Some, None}
use Rattle.enet_codec.specs.declared.packet.Packet.{Packet}
use Rattle.enet_fragment.specs.Cutting.{piece_count}
use Rattle.enet_peer.specs.declared.parts.PeerState.{PeerState}
use Rattle.enet_peer.specs.declared.parts.PeerState.TheVariants as state
use Rattle.law_network.specs.declared.event.Side.{Side}
use Rattle.law_network.specs.declared.event.Side.TheVariants.{A, B}
use Rattle.law_network.specs.Headline.{end_at, submitted_at}
use Rattle.law_network.specs.World.{World}
use Rattle.enet_site.specs.Standing.{state_at}
use Rattle.enet_world.specs.Worlds.{Begun}

-- how many commands packets are cut into, in datagrams of 576 bytes, the least that there are
abbrev pub pieces_of : List Packet → ℕ
pieces_of [] = 0
pieces_of (p ∷ ps) = piece_count (length p.body) 576 + pieces_of ps

-- those of all that the user of a side submitted on the first channels of connection x
unfoldable pub pieces_below : World → ℕ → Side → ℕ → ℕ
pieces_below w x side zero = 0
pieces_below w x side (suc n) = pieces_below w x side n + pieces_of (submitted_at n (end_at w x side))

-- so many rounds, each of at most a minute, take longer than any timeout, of which none is over 60,000 ms
abbrev pub rounds_of_a_wait : ℕ → ℕ
rounds_of_a_wait ms = 60000 / min ms 60000 + 1

-- these, and two for each command of what both users submitted, on 255 channels
abbrev pub rounds_for : ℕ → World → ℕ → ℕ
rounds_for ms w x = rounds_of_a_wait ms + 2 * (pieces_below w x A 255 + pieces_below w x B 255)

abbrev pub is_connected : Option PeerState → Bool
is_connected (Some state.Connected) = true
is_connected _ = false

-- time passes in a round, and has passed for less than some 49 days: else the 32 bits of a clock may not tell a wait
abbrev pub is_timed : ℕ → ℕ → Bool
is_timed ms passed = nat_lt 0 ms && nat_lt passed 4294500000

-- a number of 64 bits
abbrev pub held : ℕ → Option ℕ
held n = if nat_lt n (2 ^ 64) then Some n else None

-- that number of rounds, where both peers are connected and so much time has passed, and 64 bits hold it
abbrev pub rounds_needed : ℕ → Begun → ℕ → Option ℕ
rounds_needed ms b x = if is_connected (state_at b.world.a x) && is_connected (state_at b.world.b x) && is_timed ms b.passed then held (rounds_for ms b.world x) else None
