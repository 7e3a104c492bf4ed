-- How much memory a packet may take of which pieces have come.
use Rattle.std.specs.Prelude.{ℕ, ◌+◌, ◌*◌, ◌/◌, List, [], ◌∷◌, Option, Some, None, length}
use Rattle.enet_fragment.specs.PartialPacket.{PartialPacket, count_of, joined}

-- how many bytes the pieces have that came
abbrev pub bytes_come : PartialPacket → ℕ
bytes_come m = length (joined m.pieces)

-- how many of these pieces came
unfoldable pub come_in : List (Option (List ℕ)) → ℕ
come_in [] = 0
come_in (None ∷ rest) = come_in rest
come_in (Some bytes ∷ rest) = 1 + come_in rest

abbrev pub pieces_come : PartialPacket → ℕ
pieces_come m = come_in m.pieces

-- how many words of 32 bits so many marks need
abbrev pub words_of : ℕ → ℕ
words_of count = (count + 31) / 32

-- at most so many bytes: twice those of the pieces that came, 64 for each of these, a bit for each piece of the packet (in words of
-- four bytes), and 512
abbrev pub memory_bound : PartialPacket → ℕ
memory_bound m = 2 * bytes_come m + 64 * pieces_come m + 4 * words_of (count_of m) + 512
