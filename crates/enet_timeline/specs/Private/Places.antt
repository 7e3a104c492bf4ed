-- Where a datagram stands in the picture.
use Rattle.std.specs.Prelude.{ℕ, ◌+◌, ◌/◌, min}

-- How far below the one before it, by the microseconds between them: one for each 4 ms, beside 19, and 69 at most.
abbrev pub step_of : ℕ → ℕ
step_of gap = 19 + min (gap / 4000) 50
