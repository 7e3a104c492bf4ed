-- What the fields of an assembly mean.
use Rattle.std.specs.Prelude.{ℕ, ◌++◌, ◌-◌, List, length, replicate}

-- so many bytes: these, and zeros past them
abbrev pub filled_up : ℕ → List ℕ → List ℕ
filled_up total bytes = bytes ++ replicate (total - length bytes) 0
