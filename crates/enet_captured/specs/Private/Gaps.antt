-- One of two times between datagrams.
use Rattle.std.specs.Prelude.{nat_lt, if◌then◌else◌, ℕ, Option, Some, None}

-- The longer of two, the first if they are as long.
abbrev pub longer : Option (ℕ × ℕ) → ℕ × ℕ → ℕ × ℕ
longer None gap = gap
longer (Some longest) gap = if nat_lt longest.0 gap.0 then gap else longest
