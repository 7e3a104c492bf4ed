use Rattle.std.proofs.Common.{◌≡◌, false, length}
use Rattle.enet_outbox.specs.Emission.{Filling, with_unsequenced}
use Rattle.enet_outbox.specs.Private.Packing.{Holds}
use Rattle.enet_outbox.proofs.Stages.{more_unsequenced}
use Rattle.enet_outbox.proofs.packing.pack_unsequenced.Given as goal

abbrev pub invariant-packets : goal.invariant-packets
invariant-packets l =
    (f : Filling) → Holds f l.initial.progress l.initial.buf → f.outbox.unsequenced ≡ l.initial.unsequenced → f.outbox.throttle ≡ l.initial.throttle → f.outbox.last ≡ l.initial.last →
    (g : Filling) × Holds g l.progress l.buf × (g.closed ≡ false) × (g.outbox ≡ record f.outbox { unsequenced = l.unsequenced; throttle = l.throttle; last = l.last })
    × (with_unsequenced f ≡ more_unsequenced l.unsequenced g)

abbrev pub decreases-packets : goal.decreases-packets
decreases-packets l = length l.unsequenced
