use Rattle.std.proofs.Common.{◌≡◌, []}
use Rattle.crossbeam_queue.specs.Passes.{view, IsPassOf}
use Rattle.enet_events.specs.Rule.{posting}
use Rattle.enet_events.proofs.takers.widen.Given as goal

abbrev pub invariant-loop : goal.invariant-loop
invariant-loop l = IsPassOf l.ring l.pass × (view l.pass ≡ posting l.counter 0 [] [])
