use Rattle.enet_world.proofs.Stepping.{rested, turned}
use Rattle.enet_world.proofs.happening.turn.Goals as goal

pub returns-in_default : goal.returns-in_default
returns-in_default c = rested c.args.side c.args.here.now c.turn.new.self c.args.far.now c.args.count (rw c.in_default.is at c.in_ok-turned.ensures.turns)

pub returns : goal.returns
returns c = turned c.args.side c.args.here.now c.turn.new.self c.args.far.now c.args.count c.in-Sent.k (rw (c.in-Some.is, c.in-Sent.is) at c.in_ok-turned.ensures.turns)
