-- A run whose relay shares its service's thread.
use Rattle.std.specs.Prelude.{◌≡◌, ℕ, List, ◌++◌}
use Rattle.std.specs.List.{All}
use Rattle.enet_host.specs.Host.{Host}
use Rattle.enet_wire.specs.declared.told.Told.{Told}
use Rattle.enet_wire.specs.Wires.{unless_spent}
use Rattle.enet_chat.specs.declared.lone.LoneRelay.{LoneRelay}
use Rattle.enet_chat.specs.Relaying.{AreBehind, AreFarBehind}
use Rattle.enet_turn.specs.declared.service.Service.{Service}
use Rattle.enet_turn.specs.Hosting.{host_calls}
use Rattle.enet_turn.specs.LoneTurn.{RoundsOf, lone}
use Rattle.enet_turn.specs.Turn.{Round}
use Rattle.enet_turn.specs.Run.{IsSound, AreCut, all_gave, all_told, all_puts}
use Rattle.enet_serve.specs.declared.threads.Carryover.{Carryover}
use Rattle.enet_serve.specs.Private.Passing.{Passes}

-- a service, the relay that shares its thread, what their wire told of its calls, and how often that failed
pub record Pair : Type 0 where
  pub service : Service Host
  pub relay : LoneRelay
  pub told : List Told
  pub faults : ℕ

abbrev pub pair : Service Host → LoneRelay → List Told → ℕ → Pair
pair service relay told faults = record { service = service; relay = relay; told = told; faults = faults }

-- what a relay begins with, or leaves
pub record IsOf (kept : Carryover) (relay : LoneRelay) : Type 0 where
  pub peers : relay.table ≡ kept.table
  pub events : relay.events ≡ kept.backlog.items
  pub orders_are : relay.orders ≡ kept.orders.items

-- Turns in which the wire did not fail. In them events were expanded and orders taken, as in a run of two threads
pub record Goes (old : Pair) (rounds : List Round) (new : Pair) : Type 0 where
  pub turns : RoundsOf lone host_calls old.service rounds new.service
  pub sound : All IsSound rounds
  pub passes : Passes old.relay (all_gave rounds) (all_puts rounds) new.relay
  pub behind : AreBehind new.relay.events new.relay.orders
  pub far_behind : AreFarBehind 256 new.relay.events new.relay.orders
  pub told : new.told ≡ old.told ++ unless_spent old.faults (all_told rounds)
  pub faults : new.faults ≡ old.faults

-- Turns that the wire cut off, and what passed the relay in them
pub record GoesOff (old : Pair) (rounds : List Round) (new : Pair) : Type 0 where
  pub turns : RoundsOf lone host_calls old.service rounds new.service
  pub cut : AreCut rounds
  pub passes : Passes old.relay (all_gave rounds) (all_puts rounds) new.relay
  pub told : new.told ≡ old.told ++ unless_spent old.faults (all_told rounds)
