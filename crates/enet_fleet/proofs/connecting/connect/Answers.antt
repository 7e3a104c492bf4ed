use Rattle.std.proofs.Common.{◌≡◌, ℕ, ◌++◌, ◌∷◌, [], length, Ok, Err, Some, refl, sym, ap, subst, ◌∙◌, slice_get, arith}
use Rattle.std.proofs.lemmas.Option.{slice_get_read}
use Rattle.std.proofs.lemmas.Result.{err_from_is_err_and}
use Rattle.enet_fleet.specs.declared.answer.Answer.TheVariants as answers
use Rattle.law_network.specs.Places.{Place}
use Rattle.enet_fleet.specs.contracts.hosts.Hosts.{the_view}
use Rattle.enet_fleet.specs.declared.event.FleetEvent.TheVariants as happen
use Rattle.law_headline.specs.declared.node.Node.TheVariants.{Server}
use Rattle.enet_fleet.specs.Fleets.{Fleet}
use Rattle.enet_fleet.specs.Private.Reached.{IsReached}
use Rattle.enet_fleet.proofs.Reaching.{at-its-address}
use Rattle.enet_fleet.proofs.Stepping.{asks, ask-refused, at-client}
use Rattle.enet_fleet.proofs.connecting.connect.Goals as goal

pub returns-in_err-name : goal.returns-in_err-name
returns-in_err-name c =
    let w : Fleet = record {
      server = record { site = c.hosts-inside.inside.0.0.site; sent = c.hosts-inside.inside.0.0.sent.items };
      clients = c.hosts-inside.inside.0.1.0.items;
      asked = c.hosts-inside.inside.0.1.1.0.items;
    } in
    let same : w ≡ c.args.hosts.now = ap the_view c.hosts-inside.view_is ∙ c.hosts.view_is in
    let reached : IsReached w = subst IsReached (sym same) c.requires in
    let was : Place = record { site = c.behind-hosts.inside.site; sent = c.behind-hosts.inside.sent.items } in
    let long : c.len.result ≡ length w.clients = omega arith in
    let there : slice_get w.clients c.from-i.result ≡ Some was =
    slice_get_read w.clients c.len.result c.from-i.result c.index_mut.result.now long c.if-i-len.false c.index_mut.ensures.value ∙ ap (λ (p : Place). Some p) (sym c.behind-hosts.view_is) in
    let p = err_from_is_err_and c.from_residual.result c.from_residual.ensures.1 in
    let e = c.in_err-name.ensures in
    rw (p.1, p.2)
    (at-client c.args.hosts.now w (λ (i : ℕ). happen.Connect i c.args.channels c.args.info c.args.word) (Err c.in_err-name.field-0.0) c.from-i.result c.args.client _ same c.from-i.ensures
    (ask-refused w c.from-i.result was c.ask.new.here c.ask.new.asked.items c.args.channels c.args.info c.args.word c.in_err-name.field-0.0 there (at-its-address w Server w.server reached refl) e.refused e.unchanged e.asked))

pub returns : goal.returns
returns c =
    let w : Fleet = record {
      server = record { site = c.hosts-inside.inside.0.0.site; sent = c.hosts-inside.inside.0.0.sent.items };
      clients = c.hosts-inside.inside.0.1.0.items;
      asked = c.hosts-inside.inside.0.1.1.0.items;
    } in
    let same : w ≡ c.args.hosts.now = ap the_view c.hosts-inside.view_is ∙ c.hosts.view_is in
    let reached : IsReached w = subst IsReached (sym same) c.requires in
    let was : Place = record { site = c.behind-hosts.inside.site; sent = c.behind-hosts.inside.sent.items } in
    let long : c.len.result ≡ length w.clients = omega arith in
    let there : slice_get w.clients c.from-i.result ≡ Some was =
    slice_get_read w.clients c.len.result c.from-i.result c.index_mut.result.now long c.if-i-len.false c.index_mut.ensures.value ∙ ap (λ (p : Place). Some p) (sym c.behind-hosts.view_is) in
    let e = c.in_ok-name.ensures in
    at-client c.args.hosts.now w (λ (i : ℕ). happen.Connect i c.args.channels c.args.info c.args.word) (Ok (answers.Peer c.in_ok-name.name)) c.from-i.result c.args.client _ same c.from-i.ensures
    (asks w c.from-i.result was c.ask.new.here c.ask.new.asked.items c.args.channels c.args.info c.args.word c.in_ok-name.name there (at-its-address w Server w.server reached refl) e.connects
    (e.noted ∙ ap (λ (i : ℕ). w.asked ++ i ∷ []) (sym c.from-i.ensures)))
