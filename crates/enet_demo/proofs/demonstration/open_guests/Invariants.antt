use Rattle.std.proofs.Common.{◌≡◌, ℕ, ◌<◌, length, slice_index_or}
use Rattle.enet_demo.specs.declared.client.Guest.{Guest}
use Rattle.enet_demo.specs.Visits.{plan_of}
use Rattle.enet_demo.specs.Private.Playing.{IsGuest}
use Rattle.enet_demo.proofs.demonstration.open_guests.Given as goal

abbrev pub invariant-loop-number : goal.invariant-loop-number
invariant-loop-number g l =
    (length l.guests.items ≡ l.number) × ((k : ℕ) (d : Guest) → k < l.number → IsGuest (plan_of l.shown k) l.shown.turns (slice_index_or l.guests.items k d))
