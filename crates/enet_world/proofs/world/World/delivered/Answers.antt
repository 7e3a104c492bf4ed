use Rattle.std.proofs.Common.{subst}
use Rattle.enet_world.specs.Delivered.{HasDelivered}
use Rattle.enet_world.specs.Worlds.{Begun}
use Rattle.enet_world.proofs.Delivering.{reached-delivered}
use Rattle.enet_world.proofs.world.World.delivered.Goals as goal

pub returns : goal.returns
returns c = subst (λ (w : Begun). HasDelivered w.world) c.self.view_is (reached-delivered c.self.inside.joined c.self.inside.hosts c.self.invariant.reached)
