-- What places and sets of them keep: a tree of numbers over a row of numbers, and bits in words of 64 bits, of which bit i is bit i % 64 of
-- word i / 64.
use Rattle.std.specs.Prelude.{◌≡◌, ℕ, ◌+◌, ◌*◌, ◌/◌, ◌%◌, ◌^◌, ◌<◌, ◌≤◌, ◌==◌, min, Bool, false, Option, None, Some, List, length, map, drop, slice_index, if◌then◌else◌, nat_lt}
use Rattle.std.specs.List.{range_with_len}
use Rattle.std.specs.Int.{bit_at}

-- over n numbers, which stand from place n on, place k has the lesser of those at 2 * k and 2 * k + 1
pub record IsTree (n : ℕ) (tree : List ℕ) : Type 0 where
  pub count : length tree ≡ 2 * n
  pub least : (k : ℕ) → 0 < k → k < n → slice_index tree k ≡ min (slice_index tree (2 * k)) (slice_index tree (2 * k + 1))

-- the greatest number of 64 bits stands for no moment
abbrev pub moment_of : ℕ → Option ℕ
moment_of number = if nat_lt number 18446744073709551615 then Some number else None

-- the moments of n places
abbrev pub moments_of : ℕ → List ℕ → List (Option ℕ)
moments_of n tree = map moment_of (drop n tree)

-- bit i of these words
abbrev pub bit_in : List ℕ → ℕ → Bool
bit_in words i = bit_at (slice_index words (i / 64)) (i % 64) == 1

-- the first `count` bits of these words
abbrev pub bits_in : ℕ → List ℕ → List Bool
bits_in count words = map (bit_in words) (range_with_len 0 count)

-- There are as many words as the places need, and no bit is set past the last one. And a bit of the second row tells of each word whether a
-- bit of it is set.
pub record ArePlaces (count : ℕ) (words tops : List ℕ) : Type 0 where
  pub small : count < 2 ^ 32
  pub enough : length words ≡ (count + 63) / 64
  pub above : length tops ≡ (length words + 63) / 64
  pub clear : (i : ℕ) → count ≤ i → bit_in words i ≡ false
  pub told : (w : ℕ) → bit_in tops w ≡ nat_lt 0 (slice_index words w)
