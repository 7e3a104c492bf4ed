-- Which slot gives way where an offer finds no free one, or no more peers of its address may be there.
use Rattle.std.specs.Prelude.{ℕ, ◌+◌, ◌==◌, ◌&&◌, max, Bool, false, nat_le, nat_lt, if◌then◌else◌, Option, None, Some, List, [], ◌∷◌}
use Rattle.std.specs.List.{count_by, position}
use Rattle.enet_rtt.specs.Clock.{elapsed_time}
use Rattle.enet_peer.specs.Calls.{is_answering}
use Rattle.enet_peer.specs.Endings.{freed}
use Rattle.enet_peer.specs.Peering.{Peering}
use Rattle.enet_slot.specs.Slot.{SlotState, changed}

abbrev pub answers_in : Option Peering → Bool
answers_in None = false
answers_in (Some p) = is_answering p.state

-- whether a slot's peer waits for its client to confirm an answer, and the slot has another generation left of so many
abbrev pub yields : ℕ → SlotState → Bool
yields generations s = answers_in s.peer && nat_lt (s.generation + 1) generations

-- for how many milliseconds the peer of a slot has been there
abbrev pub age_in : ℕ → Option Peering → ℕ
age_in now None = 0
age_in now (Some p) = elapsed_time now p.made

abbrev pub age : ℕ → SlotState → ℕ
age now s = age_in now s.peer

-- the longest of those whose slots pass a test; 0 where none does
abbrev pub longest_of : (SlotState → Bool) → ℕ → List SlotState → ℕ
longest_of waits now [] = 0
longest_of waits now (s ∷ slots) = max (if waits s then age now s else 0) (longest_of waits now slots)

-- the first slot of those that pass it whose peer has been there as long
abbrev pub oldest_of : (SlotState → Bool) → ℕ → List SlotState → Option ℕ
oldest_of waits now slots = position (λ (s : SlotState). waits s && nat_le (longest_of waits now slots) (age now s)) slots

-- the same of those that yield
abbrev pub longest : ℕ → ℕ → List SlotState → ℕ
longest now generations slots = longest_of (yields generations) now slots

abbrev pub oldest : ℕ → ℕ → List SlotState → Option ℕ
oldest now generations slots = oldest_of (yields generations) now slots

-- whether a slot's peer is at this IP address, whatever its port, and began by a CONNECT
abbrev pub is_guest_in : ℕ → SlotState → Option Peering → Bool
is_guest_in ip s None = false
is_guest_in ip s (Some p) = p.is_server && s.address.ip == ip

abbrev pub is_guest_of : ℕ → SlotState → Bool
is_guest_of ip s = is_guest_in ip s s.peer

-- how many of them there are
abbrev pub guests_of : ℕ → List SlotState → ℕ
guests_of ip slots = count_by (is_guest_of ip) slots

-- whether a slot yields to another one of its address
abbrev pub yields_to : ℕ → ℕ → SlotState → Bool
yields_to ip generations s = is_guest_of ip s && yields generations s

-- a slot as it is given out: its peer, if it holds one, is let go, with no event
abbrev pub readied : SlotState → SlotState
readied s = changed freed s
