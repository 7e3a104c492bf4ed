-- A receiver's front is a number of the wire.
use Rattle.std.proofs.Common.{ℕ, zero, suc, ◌<◌, Bool, Option, Some, None, arith}
use Rattle.std.specs.FinMap.{get}
use Rattle.enet_seq.specs.Numbering.{wire}
use Rattle.enet_seq.specs.Windows.{after}
use Rattle.enet_fragment.specs.PartialPacket.{count_of}
use Rattle.enet_fragment.specs.declared.data.DataCommand.{DataCommand}
use Rattle.enet_receiver.specs.declared.took.Took.{Took}
use Rattle.enet_receiver.specs.declared.took.Took.TheVariants.{Held, Again, Outside, Bad, Waiting, Memory}
use Rattle.enet_receiver.specs.Receiver.{Receiver, next_whole, with_dispatched, released_with, released}
use Rattle.enet_receiver.specs.DataOutcome.{outcome, place_read, added_at, received_with, received}

fits : (number count : ℕ) → after number count < 65536
fits number count = omega arith

front_released : (turns : ℕ) (r : Receiver) → r.front < 65536 → (released wire turns r).front < 65536
unfolding released
front_released zero r h = h
front_released (suc turns) r h =
    elim (next_whole (get r.held (after r.front 1))) as (λ o. (released_with (released wire turns) wire r o).front < 65536) [
      | None ↦ h
      | Some c ↦ front_released turns (with_dispatched wire r c) (fits r.front (count_of c.making))
    ]

front_added : (r : Receiver) (c : DataCommand) (o : Option ℕ) → r.front < 65536 → (added_at wire r c o).front < 65536
front_added r c None h = h
front_added r c (Some place) h = front_released _ _ h

front_with : (t : Took) (r : Receiver) (c : DataCommand) → r.front < 65536 → (received_with t wire r c).front < 65536
front_with Held r c h = front_added r c (place_read wire r c) h
front_with Again r c h = h
front_with Outside r c h = h
front_with Bad r c h = h
front_with Waiting r c h = h
front_with Memory r c h = h

-- it stays one, whatever is received
pub front_received : (most : ℕ) (r : Receiver) (c : DataCommand) (full : Bool) → r.front < 65536 → (received wire most r c full).front < 65536
front_received most r c full h = front_with (outcome wire most r c full) r c h
