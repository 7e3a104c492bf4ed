-- A slot's share of its host's outgoing bandwidth.
use Rattle.std.specs.Prelude.{ℕ, ◌&&◌, Bool, false, if◌then◌else◌, Option, Some, None}
use Rattle.enet_throttle.specs.Bandwidth.{budget, throttle_limit}
use Rattle.enet_peer.specs.Peering.{Peering}
use Rattle.enet_peer.specs.Calls.{is_connected, has_controls, with_throttle_limit}
use Rattle.enet_slot.specs.Slot.{SlotState}

-- whether a slot's connection stands
abbrev pub stands : Option Peering → Bool
stands None = false
stands (Some p) = is_connected p.state

abbrev pub is_standing : SlotState → Bool
is_standing s = stands s.peer

-- whether memory may be wanted to tell the other end of a slot's connection something: it stands, and an earlier command of channel
-- 0xFF is queued or unacknowledged
abbrev pub wants_room_in : Option Peering → Bool
wants_room_in None = false
wants_room_in (Some p) = is_connected p.state && has_controls p

abbrev pub wants_room : SlotState → Bool
wants_room s = wants_room_in s.peer

-- a connected peer's throttle is limited by what it put out and what it may: its share of the host's bandwidth among so many
-- connected peers, and its own incoming bandwidth
abbrev pub limit_for : ℕ → ℕ → ℕ → Peering → ℕ
limit_for outgoing standing emitted p = throttle_limit emitted (budget outgoing standing p.other_incoming)

abbrev pub with_limit : ℕ → ℕ → ℕ → Option Peering → Option Peering
with_limit outgoing standing emitted None = None
with_limit outgoing standing emitted (Some p) =
    Some (if is_connected p.state then with_throttle_limit p (limit_for outgoing standing emitted p) else p)

abbrev pub shared : ℕ → ℕ → SlotState → SlotState
shared outgoing standing s = record s { emitted = 0; peer = with_limit outgoing standing s.emitted s.peer }
