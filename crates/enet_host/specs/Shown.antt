-- What the fields of a host keep.
use Rattle.std.specs.Prelude.{◌≡◌, ◌≤◌, ◌<◌, length, ℕ, List}
use Rattle.enet_slot.specs.declared.slot.Slot.{Slot}
use Rattle.enet_slot.specs.Slot.{greatest}
use Rattle.enet_slot.specs.Slotted.{all_shown}
use Rattle.enet_sleepers.specs.Seating.{Seating, KeepsSeats}
use Rattle.enet_sleepers.specs.Sleeping.{Noted, KeepsSleepers}
use Rattle.enet_sleepers.specs.Unproved.{Waiting, KeepsUnproved}
use Rattle.enet_host.specs.Held.{AreLimited}
use Rattle.enet_host.specs.Host.{HoldsNoFree}

-- how many slots a host has, what its clock shows, how many generations of each, the limits of its peers, and which slot is asked first
-- for a datagram and for an event
pub record HostNumbers : Type 0 where
  pub peers : ℕ
  pub clock : ℕ
  pub generations : ℕ
  pub max_packet : ℕ
  pub max_waiting : ℕ
  pub service_from : ℕ
  pub event_from : ℕ

-- what the fields of a host keep
pub record KeepsHost (n : HostNumbers) (sleepers : Noted) (seats : Seating) (unproved : Waiting) (slots : List Slot) : Type 0 where
  pub count : length slots ≡ n.peers
  pub many : n.peers ≤ 4095
  pub service : n.service_from < n.peers
  pub event : n.event_from < n.peers
  pub few : n.generations ≤ greatest
  pub held : HoldsNoFree (all_shown slots)
  pub sleeping : KeepsSleepers n.clock sleepers (all_shown slots)
  pub seated : KeepsSeats seats (all_shown slots)
  pub waiting : KeepsUnproved n.clock n.generations unproved (all_shown slots)
  pub limited : AreLimited n.max_packet n.max_waiting (all_shown slots)
