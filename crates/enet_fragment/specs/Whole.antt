-- A packet of which every piece has come.
use Rattle.std.specs.Prelude.{ℕ, Bool, true, List, Option, Some, replicate, is_some}
use Rattle.std.specs.List.{list_all}
use Rattle.enet_fragment.specs.PartialPacket.{PartialPacket}
use Rattle.enet_fragment.specs.Assembly.{making_of}

-- whether the piece of every number has come
abbrev pub is_whole : PartialPacket → Bool
is_whole m = list_all is_some m.pieces

-- the packet of these bytes in so many pieces, of which all but the last have the length of the cut
abbrev pub whole_of : List ℕ → ℕ → Option ℕ → PartialPacket
whole_of body count cut = making_of body (replicate count true) cut

-- a packet that is its only piece
abbrev pub single_of : List ℕ → PartialPacket
single_of body = whole_of body 1 (Some 0)
