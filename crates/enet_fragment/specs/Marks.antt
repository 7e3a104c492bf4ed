-- Marks in words of 32 bits: mark i is bit i % 32 of word i / 32.
use Rattle.std.specs.Prelude.{◌≡◌, ℕ, ◌+◌, ◌/◌, ◌%◌, ◌^◌, ◌<◌, ◌≤◌, ◌==◌, Bool, false, List, length, map, slice_index}
use Rattle.std.specs.List.{range_with_len}
use Rattle.std.specs.Int.{bit_at}

-- mark i of these words
abbrev pub mark_in : List ℕ → ℕ → Bool
mark_in words i = bit_at (slice_index words (i / 32)) (i % 32) == 1

-- the first `count` marks of these words
abbrev pub marks_in : ℕ → List ℕ → List Bool
marks_in count words = map (mark_in words) (range_with_len 0 count)

-- there are as many words as marks need, and no mark is set past the last one
pub record AreMarks (count : ℕ) (words : List ℕ) : Type 0 where
  pub small : count < 2 ^ 32
  pub enough : length words ≡ (count + 31) / 32
  pub clear : (i : ℕ) → count ≤ i → mark_in words i ≡ false
