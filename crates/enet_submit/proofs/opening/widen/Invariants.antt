use Rattle.std.proofs.Common.{◌≡◌, []}
use Rattle.crossbeam_queue.specs.Passes.{view, IsPassOf}
use Rattle.enet_submit.specs.Rule.{draining}
use Rattle.enet_submit.proofs.opening.widen.Given as goal

abbrev pub invariant-loop-seat : goal.invariant-loop-seat
invariant-loop-seat l = IsPassOf l.queue.ring l.pass × (view l.pass ≡ draining l._seat 0 [] [])
