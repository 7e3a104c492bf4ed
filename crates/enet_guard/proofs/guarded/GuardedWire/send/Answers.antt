use Rattle.std.proofs.Common.{rules, Ok}
use Rattle.enet_wire.specs.Wires.{went}
use Rattle.enet_guard.proofs.Rests.{rest_alike}
use Rattle.enet_guard.proofs.guarded.GuardedWire.send.Goals as goal

pub invariant_of-self-2 : goal.invariant_of-self-2
invariant_of-self-2 g c = rest_alike _ _ _ _ _ (went c.args.to c.args.bytes.now (Ok c.in_ok-became.became)) c.self.invariant c.in_ok-became.ensures.told (search rules)
