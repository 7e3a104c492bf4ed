use Rattle.std.proofs.Common.{◌≡◌, ℕ, List, length, Ok, Err, Some, refl, ap, subst, ◌∙◌, slice_get}
use Rattle.std.proofs.lemmas.Option.{slice_get_read}
use Rattle.std.proofs.lemmas.Result.{err_from_is_err_and}
use Rattle.enet_fleet.specs.declared.answer.Answer.TheVariants as answers
use Rattle.law_network.specs.Places.{Place}
use Rattle.enet_fleet.specs.contracts.hosts.Hosts.{the_view}
use Rattle.enet_fleet.specs.declared.event.FleetEvent.TheVariants as happen
use Rattle.law_headline.specs.declared.node.Node.TheVariants.{Server, Client}
use Rattle.enet_fleet.specs.Fleets.{Fleet}
use Rattle.enet_fleet.proofs.Stepping.{delivered, undelivered, at-client}
use Rattle.enet_fleet.proofs.delivering.deliver_to_server.Goals as goal

pub returns-in_err-received : goal.returns-in_err-received
returns-in_err-received c =
    let w : Fleet = record {
      server = record { site = c.hosts-inside.inside.0.0.site; sent = c.hosts-inside.inside.0.0.sent.items };
      clients = c.hosts-inside.inside.0.1.0.items;
      asked = c.hosts-inside.inside.0.1.1.0.items;
    } in
    let same : w ≡ c.args.hosts.now = ap the_view c.hosts-inside.view_is ∙ c.hosts.view_is in
    let there : slice_get w.clients c.from.result ≡ Some c.in-Some.from.now =
    subst (λ (ps : List Place). slice_get ps c.from.result ≡ Some c.in-Some.from.now) c.deref.ensures.value
    (slice_get_read c.deref.result.now (length c.deref.result.now) c.from.result c.in-Some.from.now refl c.in-Some.ensures.lookup.3.0 c.in-Some.ensures.lookup.1) in
    let p = err_from_is_err_and c.from_residual.result c.from_residual.ensures.1 in
    let e = c.in_err-received.ensures in
    rw (p.1, p.2)
    (at-client c.args.hosts.now w (λ (i : ℕ). happen.Deliver Server (Client i) c.args.k) (Err c.in_err-received.field-0.0) c.from.result c.args.client _ same c.from.ensures
    (undelivered w Server (Client c.from.result) c.args.k w.server c.in-Some.from.now c.bring.new.here c.in_err-received.field-0.0 refl there e.refused e.unchanged))

pub returns : goal.returns
returns c =
    let w : Fleet = record {
      server = record { site = c.hosts-inside.inside.0.0.site; sent = c.hosts-inside.inside.0.0.sent.items };
      clients = c.hosts-inside.inside.0.1.0.items;
      asked = c.hosts-inside.inside.0.1.1.0.items;
    } in
    let same : w ≡ c.args.hosts.now = ap the_view c.hosts-inside.view_is ∙ c.hosts.view_is in
    let there : slice_get w.clients c.from.result ≡ Some c.in-Some.from.now =
    subst (λ (ps : List Place). slice_get ps c.from.result ≡ Some c.in-Some.from.now) c.deref.ensures.value
    (slice_get_read c.deref.result.now (length c.deref.result.now) c.from.result c.in-Some.from.now refl c.in-Some.ensures.lookup.3.0 c.in-Some.ensures.lookup.1) in
    let e = c.in_ok-received.ensures.brings in
    at-client c.args.hosts.now w (λ (i : ℕ). happen.Deliver Server (Client i) c.args.k) (Ok (answers.Received c.in_ok-received.received)) c.from.result c.args.client _ same c.from.ensures
    (delivered w Server (Client c.from.result) c.args.k e.0 w.server c.in-Some.from.now c.bring.new.here c.in_ok-received.received refl there e.1 e.2)
