use Rattle.enet_site.proofs.AtSite.{taken-at, taken-whole}
use Rattle.enet_site.proofs.site.Site.take.Goals as goal

pub invariant_of-self : goal.invariant_of-self
invariant_of-self c = taken-whole c.take.result c.self.inside.host c.take.new.host c.self.inside.records c.take.new.own c.take.ensures.host c.take.ensures.unchanged c.take.ensures.takes c.self.invariant

pub returns-clause-takes : goal.returns-clause-takes
returns-clause-takes c = taken-at c.take.result c.self.inside.address c.self.inside.host c.take.new.host c.self.inside.records c.take.new.own _ c.self.view_is c.take.ensures.takes
