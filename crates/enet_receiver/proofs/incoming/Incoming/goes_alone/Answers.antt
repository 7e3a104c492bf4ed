use Rattle.enet_receiver.proofs.InPlace.{nothing_there}
use Rattle.enet_receiver.proofs.incoming.Incoming.goes_alone.Goals as goal

pub returns-then-holds_nothing : goal.returns-then-holds_nothing
returns-then-holds_nothing c = λ _.
    nothing_there c.args.self.now.receiver c.args.reliable c.args.number (c.holds_nothing.ensures.held c.if-holds_nothing.true) (c.holds_nothing.ensures.waiting c.if-holds_nothing.true)
