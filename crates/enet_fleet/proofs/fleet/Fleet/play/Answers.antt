use Rattle.enet_fleet.proofs.Ends.{ended}
use Rattle.enet_fleet.proofs.Once.{taken-once-each}
use Rattle.enet_fleet.proofs.Playing.{answered, fitted, stepped}
use Rattle.enet_fleet.proofs.fleet.Fleet.play.Goals as goal

pub returns-clause-headline : goal.returns-clause-headline
returns-clause-headline c =
    answered (λ v. v.items) c.args.server c.args.clients.now c.args.events.now c.run-answers.result c.in_ok-fleet.fleet c.run-answers.new.self
    (fitted c.args.server c.args.clients.now c.open.result c.in_ok-fleet.fleet c.open.ensures.out_of_range c.in_ok-fleet.was)
    c.in_ok-fleet.ensures.fresh c.run-answers.ensures.steps

pub returns-clause-steps : goal.returns-clause-steps
returns-clause-steps c =
    stepped (λ v. v.items) c.args.server c.args.clients.now c.args.events.now c.run-answers.result c.in_ok-fleet.fleet c.run-answers.new.self c.in_ok-fleet.ensures.fresh c.run-answers.ensures.steps

pub returns-clause-ends : goal.returns-clause-ends
returns-clause-ends c =
    ended (λ v. v.items) c.args.server c.args.clients.now c.args.events.now c.run-answers.result c.in_ok-fleet.fleet c.run-answers.new.self
    (fitted c.args.server c.args.clients.now c.open.result c.in_ok-fleet.fleet c.open.ensures.out_of_range c.in_ok-fleet.was)
    c.in_ok-fleet.ensures.fresh c.run-answers.ensures.steps

pub returns-clause-once : goal.returns-clause-once
returns-clause-once c =
    taken-once-each (λ v. v.items) c.args.server c.args.clients.now c.args.events.now c.run-answers.result c.in_ok-fleet.fleet c.run-answers.new.self
    (fitted c.args.server c.args.clients.now c.open.result c.in_ok-fleet.fleet c.open.ensures.out_of_range c.in_ok-fleet.was)
    c.in_ok-fleet.ensures.fresh c.run-answers.ensures.steps
