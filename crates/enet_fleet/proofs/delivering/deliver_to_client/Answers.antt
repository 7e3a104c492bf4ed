use Rattle.std.proofs.Common.{◌≡◌, ℕ, ◌≤◌, length, Ok, Err, Some, refl, sym, ap, subst, ◌∙◌, slice_get, arith}
use Rattle.std.proofs.lemmas.Option.{slice_get_read}
use Rattle.std.proofs.lemmas.Result.{err_from_is_err_and}
use Rattle.enet_codec.specs.declared.address.Addr.{Addr}
use Rattle.enet_fleet.specs.declared.answer.Answer.TheVariants as answers
use Rattle.law_network.specs.World.{IsRefusedFor}
use Rattle.law_network.specs.Places.{Place}
use Rattle.enet_fleet.specs.declared.event.FleetEvent.TheVariants as happen
use Rattle.law_headline.specs.declared.node.Node.TheVariants.{Server, Client}
use Rattle.enet_fleet.specs.Fleets.{Fleet, address_of, logged_to, refused_there}
use Rattle.enet_fleet.proofs.Reaching.{few-clients}
use Rattle.enet_fleet.proofs.Stepping.{delivered, undelivered, at-client}
use Rattle.enet_fleet.proofs.delivering.deliver_to_client.Goals as goal

pub client_address-address-requires : goal.client_address-address-requires
client_address-address-requires c =
    let few : length c.args.hosts.now.clients ≤ 4095 = few-clients c.args.hosts.now c.requires in
    let same = ap (λ (f : Fleet). length f.clients) c.hosts.view_is in
    omega arith

pub returns-in_err-received : goal.returns-in_err-received
returns-in_err-received c =
    let w : Fleet = record { server = c.hosts.inside.server; clients = c.hosts.inside.clients.items; asked = c.hosts.inside.asked.items } in
    let same : w ≡ c.args.hosts.now = c.hosts.view_is in
    let was : Place = record { site = c.behind-hosts.inside.site; sent = c.behind-hosts.inside.sent.items } in
    let long : c.len.result ≡ length w.clients = omega arith in
    let there : slice_get w.clients c.from-i.result ≡ Some was =
    slice_get_read w.clients c.len.result c.from-i.result c.index_mut.result.now long c.if-i-len.false c.index_mut.ensures.value ∙ ap (λ (p : Place). Some p) (sym c.behind-hosts.view_is) in
    let at : c.client_address-address.result ≡ address_of (Client c.from-i.result) = c.client_address-address.ensures ∙ ap (λ (i : ℕ). address_of (Client i)) (sym c.from-i.ensures) in
    let p = err_from_is_err_and c.from_residual.result c.from_residual.ensures.1 in
    let why = c.in_err-received.field-0.0 in
    let e = c.in_err-received.ensures in
    rw (p.1, p.2)
    (at-client c.args.hosts.now w (λ (i : ℕ). happen.Deliver (Client i) Server c.args.k) (Err why) c.from-i.result c.args.client _ same c.from-i.ensures
    (undelivered w (Client c.from-i.result) Server c.args.k was w.server c.bring.new.here why there refl
    (subst (λ (a : Addr). IsRefusedFor why (refused_there w.server.site was.site (logged_to a w.server c.args.k))) at e.refused) e.unchanged))

pub returns : goal.returns
returns c =
    let w : Fleet = record { server = c.hosts.inside.server; clients = c.hosts.inside.clients.items; asked = c.hosts.inside.asked.items } in
    let same : w ≡ c.args.hosts.now = c.hosts.view_is in
    let was : Place = record { site = c.behind-hosts.inside.site; sent = c.behind-hosts.inside.sent.items } in
    let long : c.len.result ≡ length w.clients = omega arith in
    let there : slice_get w.clients c.from-i.result ≡ Some was =
    slice_get_read w.clients c.len.result c.from-i.result c.index_mut.result.now long c.if-i-len.false c.index_mut.ensures.value ∙ ap (λ (p : Place). Some p) (sym c.behind-hosts.view_is) in
    let at : c.client_address-address.result ≡ address_of (Client c.from-i.result) = c.client_address-address.ensures ∙ ap (λ (i : ℕ). address_of (Client i)) (sym c.from-i.ensures) in
    let e = c.in_ok-received.ensures.brings in
    at-client c.args.hosts.now w (λ (i : ℕ). happen.Deliver (Client i) Server c.args.k) (Ok (answers.Received c.in_ok-received.received)) c.from-i.result c.args.client _ same c.from-i.ensures
    (delivered w (Client c.from-i.result) Server c.args.k e.0 was w.server c.bring.new.here c.in_ok-received.received there refl
    (subst (λ (a : Addr). logged_to a w.server c.args.k ≡ Some e.0) at e.1) e.2)
