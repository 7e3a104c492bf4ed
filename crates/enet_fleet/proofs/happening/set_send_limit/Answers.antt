use Rattle.std.proofs.Common.{◌≡◌, Some, sym, ap, ◌∙◌}
use Rattle.law_network.specs.Places.{Place}
use Rattle.enet_fleet.specs.Fleets.{Fleet, place_of}
use Rattle.enet_fleet.proofs.Stepping.{limited}
use Rattle.enet_fleet.proofs.happening.set_send_limit.Goals as goal

pub returns : goal.returns
returns c =
    let f : Fleet = c.args.hosts.now in
    let was : Place = record { site = c.here.inside.site; sent = c.here.inside.sent.items } in
    let there : place_of f c.args.node ≡ Some was = sym c.in-Some.ensures.there ∙ ap (λ (p : Place). Some p) (sym c.here.view_is) in
    limited f c.args.node was c.set_send_limit.new.self c.args.bytes c.args.commands there c.set_send_limit.ensures
