use Rattle.std.proofs.Common.{ap, ◌&&◌}
use Rattle.enet_codec.specs.Config.{is_in_range}
use Rattle.enet_world.specs.Worlds.{Begun}
use Rattle.enet_world.proofs.Playing.{answered, fitted, stepped}
use Rattle.enet_world.proofs.world.World.play.Goals as goal

pub returns-clause-headline : goal.returns-clause-headline
returns-clause-headline c =
    answered (λ v. v.items) c.args.cfg_a c.args.cfg_b c.args.events.now c.run-answers.result c.in_ok-world.world.world c.run-answers.new.self.world
    (fitted (is_in_range c.args.cfg_a && is_in_range c.args.cfg_b) c.open.result c.in_ok-world.world c.open.ensures.out_of_range c.in_ok-world.was)
    (ap (λ (b : Begun). b.world) c.in_ok-world.ensures.fresh) c.run-answers.ensures.steps

pub returns-clause-steps : goal.returns-clause-steps
returns-clause-steps c =
    stepped (λ v. v.items) c.args.cfg_a c.args.cfg_b c.args.events.now c.run-answers.result c.in_ok-world.world.world c.run-answers.new.self.world (ap (λ (b : Begun). b.world) c.in_ok-world.ensures.fresh)
    c.run-answers.ensures.steps
