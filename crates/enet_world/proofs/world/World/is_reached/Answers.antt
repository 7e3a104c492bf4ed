use Rattle.std.proofs.Common.{subst}
use Rattle.enet_world.specs.Worlds.{Begun}
use Rattle.enet_world.specs.Private.Worlds.{IsReachedIn}
use Rattle.enet_world.proofs.world.World.is_reached.Goals as goal

pub returns : goal.returns
returns c = subst (λ (w : Begun). IsReachedIn w.passed w.joined w.world) c.self.view_is c.self.invariant
