use Rattle.enet_world.proofs.Stepping.{submitted}
use Rattle.enet_world.proofs.happening.submit.Goals as goal

pub returns : goal.returns
returns c =
    submitted c.args.side c.args.peer c.args.channel c.args.flags c.args.body.now c.args.here.now c.submit.new.self c.args.far.now c.args.count c.in_ok-submit.ensures.submits
