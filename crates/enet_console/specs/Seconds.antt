-- The microseconds of a time in seconds.
use Rattle.std.specs.Prelude.{ℕ, ◌^◌, ◌+◌, ◌-◌, ◌*◌, ◌==◌, nat_lt, if◌then◌else◌, List, length, take, drop, position, Option, Some, None, option_map}
use Rattle.enet_text.specs.Words.{number_below, ◌>>=◌}

-- Of whole seconds.
abbrev pub whole_of : List ℕ → Option ℕ
whole_of word = option_map (λ seconds. seconds * 1000000) (number_below (2 ^ 32) word)

-- Of the digits behind the point, six at most.
abbrev pub parts_of : List ℕ → Option ℕ
parts_of digits =
    if nat_lt 6 (length digits) then None else option_map (λ number. number * 10 ^ (6 - length digits)) (number_below (2 ^ 32) digits)

abbrev pub with_parts : List ℕ → List ℕ → Option ℕ
with_parts word digits = do
  whole ← whole_of word
  parts ← parts_of digits
  Some (whole + parts)

-- A word without a point is whole seconds.
abbrev pub at_point : List ℕ → Option ℕ → Option ℕ
at_point word None = whole_of word
at_point word (Some point) = with_parts (take point word) (drop (point + 1) word)

abbrev pub microseconds_of : List ℕ → Option ℕ
microseconds_of word = at_point word (position (λ byte. byte == 46) word)
