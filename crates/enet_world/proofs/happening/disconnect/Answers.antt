use Rattle.enet_world.proofs.Stepping.{left}
use Rattle.enet_world.proofs.happening.disconnect.Goals as goal

pub returns : goal.returns
returns c = left c.args.side c.args.peer c.args.how c.args.info c.args.here.now c.disconnect.new.self c.args.far.now c.args.count c.in_ok-disconnect.ensures.ends
