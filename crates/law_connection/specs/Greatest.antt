-- The greatest number sent on a channel, reckoned from the wire numbers of what went, in order.
use Rattle.std.specs.Prelude.{ℕ, ◌+◌, ◌%◌, nat_lt, if◌then◌else◌, List, [], ◌∷◌}
use Rattle.enet_seq.specs.Windows.{ahead}

-- the greatest number after a command of this wire number went: one less than 32,768 ahead of it goes for the first time
abbrev pub greatest_after : ℕ → ℕ → ℕ
greatest_after greatest number =
    if nat_lt (ahead (greatest % 65536) number) 32768 then greatest + ahead (greatest % 65536) number else greatest

-- the greatest number after commands of these wire numbers went, one after another
unfoldable pub greatest_over : ℕ → List ℕ → ℕ
greatest_over greatest [] = greatest
greatest_over greatest (n ∷ ns) = greatest_over (greatest_after greatest n) ns
