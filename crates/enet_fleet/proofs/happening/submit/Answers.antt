use Rattle.std.proofs.Common.{◌≡◌, Some, Err, sym, ap, ◌∙◌}
use Rattle.std.proofs.lemmas.Result.{err_from_is_err_and}
use Rattle.law_network.specs.Calls as call
use Rattle.law_network.specs.Places.{Place}
use Rattle.enet_fleet.specs.declared.event.FleetEvent.TheVariants as happen
use Rattle.enet_fleet.specs.Fleets.{Fleet, place_of}
use Rattle.enet_fleet.proofs.Stepping.{some-there, refuses-at, refused, submitted}
use Rattle.enet_fleet.proofs.happening.submit.Goals as goal

pub returns-in_err-submit : goal.returns-in_err-submit
returns-in_err-submit c =
    let f : Fleet = c.args.hosts.now in
    let was : Place = record { site = c.here.inside.site; sent = c.here.inside.sent.items } in
    let there : place_of f c.args.node ≡ Some was = sym c.in-Some.ensures.there ∙ ap (λ (p : Place). Some p) (sym c.here.view_is) in
    let p = err_from_is_err_and c.from_residual.result c.from_residual.ensures.1 in
    let why = c.in_err-submit.field-0.0 in
    let refused-call = call.Submit c.args.peer c.args.channel (record { flags = c.args.flags; body = c.args.body.now }) (Err (why, c.args.body.now)) in
    rw (p.1, p.2)
    (refused f (happen.Submit c.args.node c.args.peer c.args.channel c.args.flags c.args.body.now) why c.args.node was c.submit.new.self
    (some-there (place_of f c.args.node) was there) (refuses-at f c.args.node was refused-call there c.in_err-submit.ensures.refused) there c.in_err-submit.ensures.unchanged)

pub returns : goal.returns
returns c =
    let f : Fleet = c.args.hosts.now in
    let was : Place = record { site = c.here.inside.site; sent = c.here.inside.sent.items } in
    let there : place_of f c.args.node ≡ Some was = sym c.in-Some.ensures.there ∙ ap (λ (p : Place). Some p) (sym c.here.view_is) in
    submitted f c.args.node was c.submit.new.self c.args.peer c.args.channel c.args.flags c.args.body.now there c.in_ok-submit.ensures.submits
