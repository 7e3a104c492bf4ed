-- Which of those that wait gives way to one who comes then. They are told by their addresses, in the order in which they came.
use Rattle.std.specs.Prelude.{ℕ, eqb, nat_le, Bool, List, Option, count_by}
use Rattle.std.specs.List.{list_all, position}

-- how many of them come from an address
abbrev pub from_there : List ℕ → ℕ → ℕ
from_there addresses address = count_by (λ other. eqb other address) addresses

-- from no other address more of them come
abbrev pub has_most : List ℕ → ℕ → Bool
has_most addresses address = list_all (λ other. nat_le (from_there addresses other) (from_there addresses address)) addresses

-- the first from such an address
abbrev pub gives_way : List ℕ → Option ℕ
gives_way addresses = position (has_most addresses) addresses
