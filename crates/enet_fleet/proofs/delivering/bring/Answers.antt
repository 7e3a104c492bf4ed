use Rattle.std.proofs.Common.{◌≡◌, Some, sym, ap, ◌∙◌}
use Rattle.law_network.specs.Places.{Place}
use Rattle.enet_fleet.specs.Fleets.{logged_to}
use Rattle.enet_fleet.proofs.Stepping.{brings-it}
use Rattle.enet_fleet.proofs.delivering.bring.Goals as goal

pub returns-clause-brings : goal.returns-clause-brings
returns-clause-brings c =
    let found : logged_to c.args.address c.args.from.now c.args.k ≡ Some c.in-Some.n = sym c.logged_to.ensures ∙ c.in-Some.is in
    brings-it c.deliver.result c.args.address c.args.from.now c.args.k c.in-Some.n c.from.inside.site c.args.here.now c.deliver.new.self found (ap (λ (p : Place). p.site) c.from.view_is) c.deliver.ensures.delivers
