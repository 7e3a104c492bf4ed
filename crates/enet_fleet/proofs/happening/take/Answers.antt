use Rattle.std.proofs.Common.{◌≡◌, Option, Some, Ok, sym, ap, subst, ◌∙◌}
use Rattle.std.proofs.lemmas.Result.{err_from_is_err_and}
use Rattle.enet_codec.specs.declared.address.Addr.{Addr}
use Rattle.enet_codec.specs.declared.event.Event.{Event}
use Rattle.enet_fleet.specs.declared.answer.Answer.TheVariants as answers
use Rattle.law_network.specs.Places.{Place}
use Rattle.enet_fleet.specs.declared.event.FleetEvent.TheVariants as happen
use Rattle.enet_fleet.specs.Fleets.{Fleet, place_of, with_place, Steps}
use Rattle.enet_fleet.proofs.Stepping.{some-there, refuses-take, refused, taken}
use Rattle.enet_fleet.proofs.happening.take.Goals as goal

pub returns-in_err-event : goal.returns-in_err-event
returns-in_err-event c =
    let f : Fleet = c.args.hosts.now in
    let was : Place = record { site = c.here.inside.site; sent = c.here.inside.sent.items } in
    let there : place_of f c.args.node ≡ Some was = sym c.in-Some.ensures.there ∙ ap (λ (p : Place). Some p) (sym c.here.view_is) in
    let p = err_from_is_err_and c.from_residual.result c.from_residual.ensures.1 in
    rw (p.1, p.2)
    (refused f (happen.Take c.args.node) c.in_err-event.field-0.0 c.args.node was c.take.new.self (some-there (place_of f c.args.node) was there) (refuses-take f c.args.node was c.in_err-event.field-0.0 there c.in_err-event.ensures.refused) there c.in_err-event.ensures.unchanged)

pub returns : goal.returns
returns c =
    let f : Fleet = c.args.hosts.now in
    let was : Place = record { site = c.here.inside.site; sent = c.here.inside.sent.items } in
    let there : place_of f c.args.node ≡ Some was = sym c.in-Some.ensures.there ∙ ap (λ (p : Place). Some p) (sym c.here.view_is) in
    subst (λ (o : Option (Event × Addr)). Steps f (happen.Take c.args.node) (Ok (answers.Taken o)) (with_place f c.args.node (record was { site = c.take.new.self }))) (sym c.told.ensures)
    (taken f c.args.node was c.take.new.self c.in_ok-event.event c.next_event_from-from.result there c.in_ok-event.ensures.takes c.next_event_from-from.ensures)
