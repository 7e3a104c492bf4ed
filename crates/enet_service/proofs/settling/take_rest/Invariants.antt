use Rattle.std.proofs.Common.{◌≡◌, List, ◌++◌}
use Rattle.enet_submit.specs.declared.order.Submission.{Submission}
use Rattle.enet_submit.specs.Words.{IsDrainOf, taken}
use Rattle.enet_bridge.specs.Ends.{orders}
use Rattle.enet_service.proofs.settling.take_rest.Given as goal

abbrev pub invariant-loop : goal.invariant-loop
invariant-loop g l = IsDrainOf l.queue l.drain × (held : List Submission) × (taken l.drain ≡ taken l.fn.drain ++ held) × (orders held ≡ l.rest.items)
