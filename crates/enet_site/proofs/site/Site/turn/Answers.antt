use Rattle.std.proofs.Common.{sym, subst}
use Rattle.law_network.specs.Headline.{AreEnds}
use Rattle.enet_site.proofs.Noting.{whole-turned, site-turned}
use Rattle.enet_site.proofs.site.Site.turn.Goals as goal

pub turn-requires : goal.turn-requires
turn-requires g c = subst (AreEnds (g.A.Around.hosts c.args.around.now)) (sym c.self.view_is) c.requires.owned

pub invariant_of-self : goal.invariant_of-self
invariant_of-self g c =
    whole-turned c.turn.result (g.A.Around.hosts c.args.around.now) (g.A.Around.numbers c.args.around.now) c.self.inside.host c.turn.new.host c.self.inside.records c.turn.new.own c.turn.ensures.host c.turn.ensures.unchanged
    c.turn.ensures.turns c.self.invariant

pub returns-clause-turns : goal.returns-clause-turns
returns-clause-turns g c =
    site-turned c.turn.result (g.A.Around.hosts c.args.around.now) (g.A.Around.numbers c.args.around.now) c.self.inside.address c.self.inside.host c.turn.new.host c.self.inside.records c.turn.new.own c.turn.ensures.turns _ c.self.view_is
