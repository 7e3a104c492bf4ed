use Rattle.enet_site.proofs.AtSite.{brought-refused-at, brought-at, brought-whole}
use Rattle.enet_site.proofs.site.Site.deliver.Goals as goal

pub invariant_of-self : goal.invariant_of-self
invariant_of-self c =
    brought-whole c.deliver.result c.from.inside.address c.self.inside.host c.deliver.new.host c.self.inside.records c.deliver.new.own c.from.inside.records c.args.k c.deliver.ensures.host c.deliver.ensures.unchanged c.deliver.ensures.delivers
    c.self.invariant

pub returns-clause-refused : goal.returns-clause-refused
returns-clause-refused c =
    brought-refused-at c.deliver.result c.self.inside.address c.from.inside.address c.self.inside.host c.from.inside.host c.self.inside.records c.from.inside.records c.args.k _ _ c.self.view_is c.from.view_is c.deliver.ensures.refused

pub returns-clause-delivers : goal.returns-clause-delivers
returns-clause-delivers c =
    brought-at c.deliver.result c.self.inside.address c.from.inside.address c.self.inside.host c.deliver.new.host c.from.inside.host c.self.inside.records c.deliver.new.own c.from.inside.records c.args.k _ _ c.self.view_is c.from.view_is
    c.deliver.ensures.delivers
