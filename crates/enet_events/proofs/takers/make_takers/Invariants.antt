use Rattle.std.proofs.Common.{◌≡◌, [], ◌≤◌, length}
use Rattle.std.specs.Vec.{vec_capacity}
use Rattle.crossbeam_queue.specs.Passes.{view, IsPassOf}
use Rattle.enet_events.specs.Rule.{posting}
use Rattle.enet_events.specs.Words.{new_takers}
use Rattle.enet_events.proofs.takers.make_takers.Given as goal

abbrev pub invariant-loop-index : goal.invariant-loop-index
invariant-loop-index l =
    IsPassOf l.ring l.pass × (view l.pass ≡ posting l.takers l.index [] [])
    × (l.all.items ≡ new_takers (record { table = l.ring.table.shared.table_id; takers = l.takers }) l.index)
    × (length l.all.items ≡ l.index) × (l.takers ≤ vec_capacity l.all)
