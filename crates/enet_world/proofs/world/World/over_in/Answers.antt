use Rattle.std.proofs.Common.{subst}
use Rattle.enet_world.specs.Worlds.{Begun}
use Rattle.enet_world.specs.Private.Enough.{AreOverIn}
use Rattle.enet_world.proofs.Ages.{over-wait}
use Rattle.enet_world.proofs.world.World.over_in.Goals as goal

pub returns-clause-over : goal.returns-clause-over
returns-clause-over c =
    let n = c.rounds_of_a_wait.result in
    subst (λ (w : Begun). AreOverIn n c.args.ms w.world) c.self.view_is
    (over-wait c.self.inside.joined c.self.inside.hosts c.self.inside.passed n c.args.ms c.self.invariant c.rounds_of_a_wait.ensures.long c.rounds_of_a_wait.ensures.brief c.if-self-ge-LATEST.false)
