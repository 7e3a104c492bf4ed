use Rattle.std.proofs.Common.{ap, ◌&&◌}
use Rattle.enet_codec.specs.Config.{is_in_range}
use Rattle.enet_world.specs.Worlds.{Begun}
use Rattle.enet_lab.specs.declared.stage.Stage.TheVariants.{InWorld}
use Rattle.enet_lab.proofs.Making.{fits}
use Rattle.enet_lab.proofs.stage.Stage.pair.Goals as goal

pub returns-in-Ok : goal.returns-in-Ok
returns-in-Ok c = (fits (is_in_range c.args.config && is_in_range c.args.config) c.in-Ok.world c.in-Ok.ensures.out_of_range, ap (λ (w : Begun). InWorld w) c.in-Ok.ensures.fresh)
