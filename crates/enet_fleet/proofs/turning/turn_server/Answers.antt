use Rattle.std.proofs.Common.{◌≡◌, ℕ, List, length, Ok, Err, refl, sym, subst, slice_get}
use Rattle.std.proofs.lemmas.Result.{err_from_is_err_and}
use Rattle.enet_fleet.specs.declared.answer.Answer.TheVariants as answers
use Rattle.law_network.specs.Headline.{AreEnds}
use Rattle.law_network.specs.Places.{Place}
use Rattle.enet_fleet.specs.declared.event.FleetEvent.TheVariants as happen
use Rattle.law_headline.specs.declared.node.Node.TheVariants.{Server}
use Rattle.enet_fleet.specs.Fleets.{Fleet, is_host, numbers_at, client_in, Steps}
use Rattle.enet_fleet.specs.Private.Reached.{IsReached}
use Rattle.enet_fleet.specs.Private.Turning.{PutsOutByTurn}
use Rattle.enet_fleet.proofs.Reaching.{owned-at}
use Rattle.enet_fleet.proofs.Stepping.{turned, not-turned}
use Rattle.enet_fleet.proofs.turning.turn_server.Goals as goal

pub put_out-requires : goal.put_out-requires
put_out-requires c =
    let w : Fleet = record { server = c.hosts.inside.server; clients = c.hosts.inside.clients.items; asked = c.hosts.inside.asked.items } in
    let same : w ≡ c.args.hosts.now = c.hosts.view_is in
    let reached : IsReached w = subst IsReached (sym same) c.requires in
    subst (λ (ps : List Place). AreEnds (is_host (length ps)) w.server.site) (sym c.deref.ensures.value) (owned-at w Server w.server reached refl)

pub returns-in_err-sent : goal.returns-in_err-sent
returns-in_err-sent c =
    let w : Fleet = record { server = c.hosts.inside.server; clients = c.hosts.inside.clients.items; asked = c.hosts.inside.asked.items } in
    let same : w ≡ c.args.hosts.now = c.hosts.view_is in
    let p = err_from_is_err_and c.from_residual.result c.from_residual.ensures.1 in
    let e = c.in_err-sent.ensures in
    rw (p.1, p.2)
    (subst (λ (f : Fleet). Steps f (happen.Turn Server) (Err c.in_err-sent.field-0.0) (record w { server = c.put_out.new.here })) same
    (not-turned w Server c.in_err-sent.field-0.0 w.server c.put_out.new.here refl e.memory e.unchanged))

pub returns : goal.returns
returns c =
    let w : Fleet = record { server = c.hosts.inside.server; clients = c.hosts.inside.clients.items; asked = c.hosts.inside.asked.items } in
    let same : w ≡ c.args.hosts.now = c.hosts.view_is in
    let puts : PutsOutByTurn (is_host (length w.clients)) (λ x. numbers_at x (client_in w.clients (slice_get w.asked x))) c.in_ok-sent.sent w.server c.put_out.new.here =
    subst (λ (asked : List ℕ). PutsOutByTurn (is_host (length w.clients)) (λ x. numbers_at x (client_in w.clients (slice_get asked x))) c.in_ok-sent.sent w.server c.put_out.new.here) c.deref-2.ensures.value
    (subst (λ (ps : List Place). PutsOutByTurn (is_host (length ps)) (λ x. numbers_at x (client_in ps (slice_get c.deref-2.result.now x))) c.in_ok-sent.sent w.server c.put_out.new.here) c.deref.ensures.value c.in_ok-sent.ensures.puts) in
    subst (λ (f : Fleet). Steps f (happen.Turn Server) (Ok (answers.Sent c.in_ok-sent.sent)) (record w { server = c.put_out.new.here })) same
    (turned w Server c.in_ok-sent.sent w.server c.put_out.new.here refl puts)
