use Rattle.std.proofs.Common.{rules}
use Rattle.enet_guard.proofs.Rests.{rest_received, nothing_more}
use Rattle.enet_guard.proofs.guarded.GuardedWire.recv.Goals as goal

pub invariant_of-self : goal.invariant_of-self
invariant_of-self g c = rest_received _ _ _ _ _ _ _ _ _ c.self.invariant c.in_err-given.ensures.receives (nothing_more _ _)

pub invariant_of-self-2 : goal.invariant_of-self-2
invariant_of-self-2 g c = rest_received _ _ _ _ _ _ _ _ _ c.self.invariant c.in_ok-given.ensures.receives (search rules)
