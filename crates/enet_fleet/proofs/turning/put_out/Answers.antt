use Rattle.std.proofs.Common.{◌≡◌, [], ◌∷◌, ◌++◌, length, List, sym, ap, subst, ◌∙◌, arith}
use Rattle.law_network.specs.Headline.{AreEnds}
use Rattle.law_network.specs.declared.put_out.Sent.{Sent}
use Rattle.law_network.specs.Places.{Place}
use Rattle.enet_fleet.proofs.Stepping.{puts-none, puts-some}
use Rattle.enet_fleet.proofs.turning.put_out.Goals as goal

pub turn-requires : goal.turn-requires
turn-requires g c = record { owned = subst (λ (p : Place). AreEnds (g.A.Around.hosts c.args.around.now) p.site) (sym c.here.view_is) c.requires }

pub returns-in_default-clause-puts : goal.returns-in_default-clause-puts
returns-in_default-clause-puts g c =
    puts-none (g.A.Around.hosts c.args.around.now) (g.A.Around.numbers c.args.around.now) c.args.here.now (record { site = c.turn.new.self; sent = c.reserve.new.self.items }) c.here.inside.site
    (ap (λ (p : Place). p.site) c.here.view_is) (rw c.in_default.is at c.in_ok-turned.ensures.turns) (c.reserve.ensures.items ∙ ap (λ (p : Place). p.sent) c.here.view_is)

pub returns-clause-puts : goal.returns-clause-puts
returns-clause-puts g c =
    let kept : c.here.inside.sent.items ≡ c.args.here.now.sent = ap (λ (p : Place). p.sent) c.here.view_is in
    let before : c.reserve.new.self.items ≡ c.args.here.now.sent = c.reserve.ensures.items ∙ kept in
    let number : c.len-number.result ≡ length c.args.here.now.sent = (let long = ap (λ (l : List Sent). length l) before in omega arith) in
    puts-some (g.A.Around.hosts c.args.around.now) (g.A.Around.numbers c.args.around.now) c.args.here.now (record { site = c.turn.new.self; sent = c.push_reserved.new.self.items }) c.here.inside.site c.in-Some.turned c.len-number.result
    (ap (λ (p : Place). p.site) c.here.view_is) (rw c.in-Some.is at c.in_ok-turned.ensures.turns) number
    (c.push_reserved.ensures.items ∙ ap (λ (l : List Sent). l ++ c.sent_of.result ∷ []) before ∙ ap (λ (s : Sent). c.args.here.now.sent ++ s ∷ []) c.sent_of.ensures)
