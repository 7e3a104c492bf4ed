use Rattle.std.proofs.Common.{ap, ◌&&◌, false}
use Rattle.enet_codec.specs.Config.{is_in_range}
use Rattle.enet_world.specs.Worlds.{Begun, begun}
use Rattle.enet_lab.specs.declared.stage.Stage.TheVariants.{InWorld}
use Rattle.enet_lab.proofs.Making.{fits, refuses}
use Rattle.enet_lab.proofs.stage.Stage.open.Goals as goal

pub returns-in-Ok : goal.returns-in-Ok
returns-in-Ok c = (fits (is_in_range c.args.cfg_a && is_in_range c.args.cfg_b) c.in-Ok.world c.in-Ok.ensures.out_of_range, ap (λ (w : Begun). InWorld w) c.in-Ok.ensures.fresh)

pub returns-in-Err : goal.returns-in-Err
returns-in-Err c =
    refuses {X = Begun} (is_in_range c.args.cfg_a && is_in_range c.args.cfg_b) (InWorld (begun false c.args.cfg_a c.args.cfg_b)) c.in-Err.why c.in-Err.ensures.out_of_range c.in-Err.ensures.in_range
