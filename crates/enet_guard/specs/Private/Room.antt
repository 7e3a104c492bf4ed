-- How much a guard notes.
use Rattle.std.specs.Prelude.{ℕ}

-- so many CONNECTs that passed are known again, and so many count
abbrev pub most_noted : ℕ
most_noted = 16384
