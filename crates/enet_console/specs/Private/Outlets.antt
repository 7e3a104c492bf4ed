-- What becomes of the count by what the system answers.
use Rattle.std.specs.Prelude.{ℤ, pos, Bool, true, false, ◌&&◌, int_lt}
use Rattle.std.specs.Ordering.{int_eq}
use Rattle.enet_console.specs.declared.outlet.Outlet.{Outlet}
use Rattle.enet_console.specs.Outlets.{misses, is_settled}

-- It was told how many lines weren't written, or not.
abbrev pub settled : Bool → Outlet → Outlet
settled false outlet = outlet
settled true outlet = is_settled outlet

-- And a line was written behind that, or not.
abbrev pub counted : Bool → Bool → Outlet → Outlet
counted is_told false outlet = misses 1 (settled is_told outlet)
counted is_told true outlet = settled is_told outlet

-- One stream has something to say, and that is that it takes bytes (4), and nothing besides.
abbrev pub takes_lines : ℤ → ℤ → Bool
takes_lines answer said = int_lt (pos 0) answer && int_eq said (pos 4)
