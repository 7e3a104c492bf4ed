use Rattle.enet_world.proofs.Stepping.{admitted}
use Rattle.enet_world.proofs.happening.admit.Goals as goal

pub returns : goal.returns
returns c = admitted c.args.side c.args.what c.args.here.now c.admit.new.self c.args.far.now c.args.count c.in_ok-admit.ensures.admits
