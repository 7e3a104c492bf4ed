use Rattle.std.proofs.Common.{◌≡◌, Some, Err, sym, ap, ◌∙◌}
use Rattle.std.proofs.lemmas.Result.{err_from_is_err_and}
use Rattle.law_network.specs.Calls as call
use Rattle.law_network.specs.Places.{Place}
use Rattle.enet_fleet.specs.declared.event.FleetEvent.TheVariants as happen
use Rattle.enet_fleet.specs.Fleets.{Fleet, place_of}
use Rattle.enet_fleet.proofs.Stepping.{some-there, refuses-at, refused, admitted}
use Rattle.enet_fleet.proofs.happening.admit.Goals as goal

pub returns-in_err-admit : goal.returns-in_err-admit
returns-in_err-admit c =
    let f : Fleet = c.args.hosts.now in
    let was : Place = record { site = c.here.inside.site; sent = c.here.inside.sent.items } in
    let there : place_of f c.args.node ≡ Some was = sym c.in-Some.ensures.there ∙ ap (λ (p : Place). Some p) (sym c.here.view_is) in
    let p = err_from_is_err_and c.from_residual.result c.from_residual.ensures.1 in
    let why = c.in_err-admit.field-0.0 in
    rw (p.1, p.2)
    (refused f (happen.Admit c.args.node c.args.what) why c.args.node was c.admit.new.self
    (some-there (place_of f c.args.node) was there) (refuses-at f c.args.node was (call.Admit c.args.what (Err why)) there c.in_err-admit.ensures.refused) there c.in_err-admit.ensures.unchanged)

pub returns : goal.returns
returns c =
    let f : Fleet = c.args.hosts.now in
    let was : Place = record { site = c.here.inside.site; sent = c.here.inside.sent.items } in
    let there : place_of f c.args.node ≡ Some was = sym c.in-Some.ensures.there ∙ ap (λ (p : Place). Some p) (sym c.here.view_is) in
    admitted f c.args.node was c.admit.new.self c.args.what there c.in_ok-admit.ensures.admits
