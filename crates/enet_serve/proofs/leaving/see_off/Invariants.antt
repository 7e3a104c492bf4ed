use Rattle.std.proofs.Common.{◌≡◌}
use Rattle.enet_serve.specs.Leaving.{over}
use Rattle.enet_serve.specs.Private.SeeingOff.{SeesOff}
use Rattle.enet_serve.proofs.leaving.see_off.Given as goal

abbrev pub invariant-loop : goal.invariant-loop
invariant-loop g l =
    SeesOff (over l.fn.bound.service (g.N.Wire.told l.fn.bound.wire) (g.N.Wire.faults l.fn.bound.wire)) (over l.bound.service (g.N.Wire.told l.bound.wire) (g.N.Wire.faults l.bound.wire))
    × (g.N.Wire.kept l.bound.wire ≡ g.N.Wire.kept l.fn.bound.wire)
