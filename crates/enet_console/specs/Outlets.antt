-- What an outlet counts: lines that weren't written, until it has told of them.
use Rattle.std.specs.Prelude.{◌≡◌, ◌⊎◌, ◌+◌, ℕ, min}
use Rattle.enet_console.specs.declared.outlet.Outlet.{Outlet}

-- So many lines more weren't written.
abbrev pub misses : ℕ → Outlet → Outlet
misses lines outlet = record outlet { missed = min (outlet.missed + lines) 18446744073709551615 }

-- All was told of.
abbrev pub is_settled : Outlet → Outlet
is_settled outlet = record outlet { missed = 0 }

-- What the count is where a line was written behind what was to be told of those before it; where it is missed, too; or where those were
-- told of, and it is missed.
abbrev pub TakesLine : Outlet → Outlet → Type 0
TakesLine before after = (after ≡ is_settled before) ⊎ (after ≡ misses 1 before) ⊎ (after ≡ misses 1 (is_settled before))

abbrev pub Settles : Outlet → Outlet → Type 0
Settles before after = (after ≡ is_settled before) ⊎ (after ≡ before)
