use Rattle.std.proofs.Common.{rules, Ok}
use Rattle.enet_wire.specs.Wires.{waited}
use Rattle.enet_guard.proofs.Rests.{rest_alike}
use Rattle.enet_guard.proofs.guarded.GuardedWire.wait.Goals as goal

pub invariant_of-self-then-not-spent : goal.invariant_of-self-then-not-spent
invariant_of-self-then-not-spent g c = rest_alike _ _ _ _ _ (waited (Ok c.in_ok-ms.ms)) c.self.invariant c.in_ok-ms.ensures.told (search rules)
