-- How much a host holds of what others sent, and how much that is at most.
use Rattle.std.specs.Prelude.{◌≡◌, ℕ, ◌*◌, Option, Some, None, List, sum_by, slice_get}
use Rattle.enet_codec.specs.declared.config.Config.{Config}
use Rattle.enet_peer.specs.declared.held.Held.{Held}
use Rattle.enet_peer.specs.Held.{most_of, HasLimits}
use Rattle.enet_peer.specs.Peering.{Peering}
use Rattle.enet_slot.specs.Slot.{SlotState}
use Rattle.enet_slot.specs.Holding.{held_in}

-- what the peers of these slots hold together
abbrev pub held_by : List SlotState → Held
held_by slots = record {
  channels = sum_by (λ (s : SlotState). (held_in s.peer).channels) slots;
  senders = sum_by (λ (s : SlotState). (held_in s.peer).senders) slots;
  packets = sum_by (λ (s : SlotState). (held_in s.peer).packets) slots;
  undispatched = sum_by (λ (s : SlotState). (held_in s.peer).undispatched) slots;
  bytes = sum_by (λ (s : SlotState). (held_in s.peer).bytes) slots;
  acknowledgements = sum_by (λ (s : SlotState). (held_in s.peer).acknowledgements) slots;
}

abbrev pub times : ℕ → Held → Held
times n one = record {
  channels = n * one.channels;
  senders = n * one.senders;
  packets = n * one.packets;
  undispatched = n * one.undispatched;
  bytes = n * one.bytes;
  acknowledgements = n * one.acknowledgements;
}

-- the most that a host of these settings holds: for each slot what one peer holds at most
abbrev pub most_held : Config → Held
most_held c = times c.peers (most_of c.max_packet c.max_waiting)

-- each peer began with these limits
abbrev pub IsLimitedIn : ℕ → ℕ → Option Peering → Type 0
IsLimitedIn max_packet max_waiting None = Unit {0}
IsLimitedIn max_packet max_waiting (Some p) = HasLimits max_packet max_waiting p

abbrev pub AreLimited : ℕ → ℕ → List SlotState → Type 0
AreLimited max_packet max_waiting slots = (i : ℕ) (s : SlotState) → slice_get slots i ≡ Some s → IsLimitedIn max_packet max_waiting s.peer
