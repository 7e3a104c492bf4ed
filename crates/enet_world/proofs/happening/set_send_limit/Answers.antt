use Rattle.enet_world.proofs.Stepping.{limited}
use Rattle.enet_world.proofs.happening.set_send_limit.Goals as goal

pub returns : goal.returns
returns c = limited c.args.side c.args.bytes c.args.commands c.args.here.now c.set_send_limit.new.self c.args.far.now c.args.count c.set_send_limit.ensures
