use Rattle.std.proofs.Common.{◌≡◌, ℕ, length, Ok, Err, Some, sym, ap, subst, ◌∙◌, slice_get, arith}
use Rattle.std.proofs.lemmas.Option.{slice_get_read}
use Rattle.std.proofs.lemmas.Result.{err_from_is_err_and}
use Rattle.enet_fleet.specs.declared.answer.Answer.TheVariants as answers
use Rattle.law_network.specs.Headline.{AreEnds}
use Rattle.law_network.specs.Network.{numbers_of}
use Rattle.enet_fleet.specs.contracts.hosts.Hosts.{the_view}
use Rattle.enet_fleet.specs.declared.event.FleetEvent.TheVariants as happen
use Rattle.law_headline.specs.declared.node.Node.TheVariants.{Client}
use Rattle.enet_fleet.specs.Fleets.{Fleet, is_host}
use Rattle.enet_fleet.specs.Private.Reached.{IsReached}
use Rattle.enet_fleet.specs.Private.Turning.{PutsOutByTurn}
use Rattle.enet_fleet.proofs.Reaching.{owned-at}
use Rattle.enet_fleet.proofs.Stepping.{turned, not-turned, at-client}
use Rattle.enet_fleet.proofs.turning.turn_client.Goals as goal

pub put_out-requires : goal.put_out-requires
put_out-requires c =
    let w : Fleet = record {
      server = record { site = c.hosts-inside.inside.0.0.site; sent = c.hosts-inside.inside.0.0.sent.items };
      clients = c.hosts-inside.inside.0.1.0.items;
      asked = c.hosts-inside.inside.0.1.1.0.items;
    } in
    let same : w ≡ c.args.hosts.now = ap the_view c.hosts-inside.view_is ∙ c.hosts.view_is in
    let long : c.len-clients.result ≡ length w.clients = omega arith in
    let there : slice_get w.clients c.from-i.result ≡ Some c.index_mut.result.now =
    slice_get_read w.clients c.len-clients.result c.from-i.result c.index_mut.result.now long c.if-i-clients.false c.index_mut.ensures.value in
    let reached : IsReached w = subst IsReached (sym same) c.requires in
    subst (λ (n : ℕ). AreEnds (is_host n) c.index_mut.result.now.site) (sym long) (owned-at w (Client c.from-i.result) c.index_mut.result.now reached there)

pub returns-in_err-sent : goal.returns-in_err-sent
returns-in_err-sent c =
    let w : Fleet = record {
      server = record { site = c.hosts-inside.inside.0.0.site; sent = c.hosts-inside.inside.0.0.sent.items };
      clients = c.hosts-inside.inside.0.1.0.items;
      asked = c.hosts-inside.inside.0.1.1.0.items;
    } in
    let same : w ≡ c.args.hosts.now = ap the_view c.hosts-inside.view_is ∙ c.hosts.view_is in
    let long : c.len-clients.result ≡ length w.clients = omega arith in
    let there : slice_get w.clients c.from-i.result ≡ Some c.index_mut.result.now =
    slice_get_read w.clients c.len-clients.result c.from-i.result c.index_mut.result.now long c.if-i-clients.false c.index_mut.ensures.value in
    let p = err_from_is_err_and c.from_residual.result c.from_residual.ensures.1 in
    let e = c.in_err-sent.ensures in
    rw (p.1, p.2)
    (at-client c.args.hosts.now w (λ (i : ℕ). happen.Turn (Client i)) (Err c.in_err-sent.field-0.0) c.from-i.result c.args.client _ same c.from-i.ensures
    (not-turned w (Client c.from-i.result) c.in_err-sent.field-0.0 c.index_mut.result.now c.put_out.new.here there e.memory e.unchanged))

pub returns : goal.returns
returns c =
    let w : Fleet = record {
      server = record { site = c.hosts-inside.inside.0.0.site; sent = c.hosts-inside.inside.0.0.sent.items };
      clients = c.hosts-inside.inside.0.1.0.items;
      asked = c.hosts-inside.inside.0.1.1.0.items;
    } in
    let same : w ≡ c.args.hosts.now = ap the_view c.hosts-inside.view_is ∙ c.hosts.view_is in
    let long : c.len-clients.result ≡ length w.clients = omega arith in
    let there : slice_get w.clients c.from-i.result ≡ Some c.index_mut.result.now =
    slice_get_read w.clients c.len-clients.result c.from-i.result c.index_mut.result.now long c.if-i-clients.false c.index_mut.ensures.value in
    at-client c.args.hosts.now w (λ (i : ℕ). happen.Turn (Client i)) (Ok (answers.Sent c.in_ok-sent.sent)) c.from-i.result c.args.client _ same c.from-i.ensures
    (turned w (Client c.from-i.result) c.in_ok-sent.sent c.index_mut.result.now c.put_out.new.here there
    (subst (λ (n : ℕ). PutsOutByTurn (is_host n) (numbers_of w.server.site) c.in_ok-sent.sent c.index_mut.result.now c.put_out.new.here) long c.in_ok-sent.ensures.puts))
