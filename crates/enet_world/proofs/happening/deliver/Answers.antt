use Rattle.enet_world.proofs.Stepping.{delivered}
use Rattle.enet_world.proofs.happening.deliver.Goals as goal

pub returns : goal.returns
returns c = delivered c.args.side c.args.k c.args.here.now c.deliver.new.self c.args.far.now c.args.count c.in_ok-received.received c.in_ok-received.ensures.delivers
