-- Whether a round trip is above a bound.
use Rattle.std.specs.Prelude.{ℕ, nat_lt, if◌then◌else◌}

abbrev pub one_above : ℕ → ℕ → ℕ
one_above ms bound = if nat_lt bound ms then 1 else 0
