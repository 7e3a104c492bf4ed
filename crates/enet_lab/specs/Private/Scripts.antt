-- What a read gave.
use Rattle.std.specs.Prelude.{ℕ, List, [], take, Option, Some, None}

-- What a read gave of these bytes.
abbrev pub given : Option ℕ → List ℕ → List ℕ
given None bytes = []
given (Some len) bytes = take len bytes
