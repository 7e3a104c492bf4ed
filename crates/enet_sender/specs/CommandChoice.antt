-- What is submitted on a channel, and how each packet goes.
use Rattle.std.specs.Prelude.{ℕ, Bool, ◌+◌, ◌/◌, ◌%◌, ◌&&◌, ◌||◌, not, nat_lt, ◌==◌, if◌then◌else◌, List, [], ◌∷◌, length}
use Rattle.enet_fragment.specs.Cutting.{piece_length, piece_count}

pub record Packet : Type 0 where
  pub flags : ℕ
  pub body : List ℕ

-- a packet with the choice how it goes: reliable or not, and in how many commands
pub record ChosenPacket : Type 0 where
  pub packet : Packet
  pub reliable : Bool
  pub pieces : ℕ

-- the flag RELIABLE, 1
abbrev pub is_flagged_reliable : Packet → Bool
is_flagged_reliable p = p.flags % 2 == 1

-- the flag UNRELIABLE_FRAGMENT, 8
abbrev pub is_flagged_unreliable_fragment : Packet → Bool
is_flagged_unreliable_fragment p = p.flags / 8 % 2 == 1

-- whether a packet is cut into pieces
abbrev pub is_long : ℕ → Packet → Bool
is_long mtu p = nat_lt (piece_length mtu) (length p.body)

-- whether a packet goes reliable, `count` unreliable packets having been submitted since the last reliable one: it asks for it,
-- or the unreliable numbers are used up, or it is long and doesn't ask for unreliable fragments
abbrev pub goes_reliable : ℕ → ℕ → Packet → Bool
goes_reliable mtu count p = is_flagged_reliable p || count == 65535 || (is_long mtu p && not (is_flagged_unreliable_fragment p))

-- a packet goes in at most so many pieces
abbrev pub fragment_limit : ℕ
fragment_limit = 16384

-- how a packet is carried
abbrev pub carried_as : ℕ → ℕ → Packet → ChosenPacket
carried_as mtu count p = record { packet = p; reliable = goes_reliable mtu count p; pieces = piece_count (length p.body) mtu }

-- how each packet of a list is carried
abbrev pub carried_from : ℕ → ℕ → List Packet → List ChosenPacket
carried_from mtu count [] = []
carried_from mtu count (p ∷ ps) = carried_as mtu count p ∷ carried_from mtu (if goes_reliable mtu count p then 0 else count + 1) ps

abbrev pub carried : ℕ → List Packet → List ChosenPacket
carried mtu ps = carried_from mtu 0 ps
