-- Marks in words of 64 bits, and in a row, seen as the set of the groups that are marked.
use Rattle.std.specs.Prelude.{ℕ, Bool, true, false, ◌+◌, ◌/◌, ◌%◌, ◌==◌, List, [], ◌∷◌, map, slice_index}
use Rattle.std.specs.List.{range_with_len}
use Rattle.std.specs.Int.{bit_at}
use Rattle.std.specs.Ordering.{nat_cmp}
use Rattle.std.specs.FinSet as set

-- mark i of these words: bit i % 64 of word i / 64
abbrev pub mark_in : List ℕ → ℕ → Bool
mark_in words i = bit_at (slice_index words (i / 64)) (i % 64) == 1

-- the first `count` marks of these words, in a row
unfoldable pub marks_in : ℕ → List ℕ → List Bool
marks_in count words = map (mark_in words) (range_with_len 0 count)

-- the first mark is for the group `first`, the next for the one after it
unfoldable pub marked_from : ℕ → List Bool → set.FinSet nat_cmp
marked_from first [] = set.empty
marked_from first (true ∷ marks) = set.insert (marked_from (first + 1) marks) first
marked_from first (false ∷ marks) = marked_from (first + 1) marks
