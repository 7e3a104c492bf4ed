use Rattle.enet_world.proofs.Stepping.{ticked}
use Rattle.enet_world.proofs.happening.tick.Goals as goal

pub returns : goal.returns
returns c = ticked c.args.side c.args.ms c.args.here.now c.tick.new.self c.args.far.now c.args.count c.tick.ensures
