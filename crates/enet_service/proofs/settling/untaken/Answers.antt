use Rattle.enet_service.proofs.Settled.{left_over}
use Rattle.enet_service.proofs.settling.untaken.Goals as goal

pub returns-clause-history : goal.returns-clause-history
returns-clause-history g c =
    let rest = c.in_ok-drain.ensures.rest in
    left_over c.args.drain c.in_ok-drain.drain c.args.seat rest.0 _ rest.1 rest.2 c.in_ok-settle_orders.ensures.history c.in_ok-settle_orders.ensures.taken
