use Rattle.std.proofs.Common.{◌≡◌, Some, sym, ap, ◌∙◌}
use Rattle.law_network.specs.Places.{Place}
use Rattle.enet_fleet.specs.Fleets.{Fleet, place_of}
use Rattle.enet_fleet.proofs.Stepping.{ticked}
use Rattle.enet_fleet.proofs.happening.tick.Goals as goal

pub returns : goal.returns
returns c =
    let f : Fleet = c.args.hosts.now in
    let was : Place = record { site = c.here.inside.site; sent = c.here.inside.sent.items } in
    let there : place_of f c.args.node ≡ Some was = sym c.in-Some.ensures.there ∙ ap (λ (p : Place). Some p) (sym c.here.view_is) in
    ticked f c.args.node was c.tick.new.self c.args.ms there c.tick.ensures
