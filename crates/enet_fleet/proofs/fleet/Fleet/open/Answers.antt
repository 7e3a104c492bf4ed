use Rattle.std.proofs.Common.{◌≡◌, true, [], rules}
use Rattle.enet_fleet.specs.Reached.{fit}
use Rattle.enet_fleet.proofs.fleet.Fleet.open.Goals as goal

pub invariant_of-result : goal.invariant_of-result
invariant_of-result c =
    let fits : fit c.args.server c.args.clients.now ≡ true = search rules in
    record { server = c.args.server; clients = c.args.clients.now; fit = fits; events = []; answers = []; runs = c.in_ok-open.ensures.fresh }
