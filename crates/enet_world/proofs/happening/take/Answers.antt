use Rattle.enet_world.proofs.Stepping.{taken}
use Rattle.enet_world.proofs.happening.take.Goals as goal

pub returns : goal.returns
returns c = taken c.args.side c.args.here.now c.take.new.self c.args.far.now c.args.count c.in_ok-event.event c.in_ok-event.ensures.takes
