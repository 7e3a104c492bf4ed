-- Which connection a datagram belongs to.
use Rattle.std.specs.Prelude.{◌≡◌, ◌<◌, ℕ, ◌==◌, ◌&&◌, Bool, true, false, if◌then◌else◌, List, slice_get, Option, Some, None, is_some, MatchOption}
use Rattle.enet_codec.specs.declared.address.Addr.{Addr}
use Rattle.enet_captured.specs.declared.timeline.Way.{Way}
use Rattle.enet_captured.specs.declared.timeline.Way.TheVariants.{Right, Left}
use Rattle.enet_captured.specs.declared.timeline.Connection.{Connection}

abbrev pub same_address : Addr → Addr → Bool
same_address a b = (a.ip == b.ip) && (a.port == b.port)

-- Whither a datagram between two addresses goes in a connection, where it is between its ends.
abbrev pub way_in : Connection → Addr → Addr → Option Way
way_in c from to = if same_address c.left from && same_address c.right to then Some Right
    else (if same_address c.left to && same_address c.right from then Some Left else None)

abbrev pub is_between : Connection → Addr → Addr → Bool
is_between c from to = is_some (way_in c from to)

-- A connection goes on where no CONNECT comes, or the one that began it again.
abbrev pub ids_go_on : Option ℕ → Option ℕ → Bool
ids_go_on None begun = true
ids_go_on (Some id) None = false
ids_go_on (Some id) (Some begun) = id == begun

abbrev pub goes_on : Connection → Option ℕ → Bool
goes_on c id = ids_go_on id c.id

abbrev pub holds_at : Option Connection → Addr → Addr → Bool
holds_at None from to = false
holds_at (Some c) from to = is_between c from to

-- The connection of this number is between two addresses.
abbrev pub is_between_at : List Connection → Addr → Addr → ℕ → Bool
is_between_at connections from to k = holds_at (slice_get connections k) from to

-- The last of so many places at which the test holds, where there is one.
abbrev pub IsLast : (ℕ → Bool) → ℕ → Option ℕ → Type 0
IsLast test n found = MatchOption found ((k : ℕ) → k < n → test k ≡ false)
    (λ last. (last < n) × (test last ≡ true) × ((k : ℕ) → last < k → k < n → test k ≡ false))
