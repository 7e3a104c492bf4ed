use Rattle.enet_site.proofs.AtSite.{asked-refused-at, asked-at, asked-whole}
use Rattle.enet_site.proofs.site.Site.connect.Goals as goal

pub invariant_of-self : goal.invariant_of-self
invariant_of-self c =
    asked-whole c.connect.result c.far.inside.address c.self.inside.host c.connect.new.host c.self.inside.records c.connect.new.own c.args.next c.args.channels c.args.info c.args.word c.connect.ensures.host c.connect.ensures.unchanged
    c.connect.ensures.connects c.self.invariant

pub returns-clause-refused : goal.returns-clause-refused
returns-clause-refused c =
    asked-refused-at c.connect.result c.self.inside.address c.far.inside.address c.self.inside.host c.far.inside.host c.self.inside.records c.far.inside.records c.args.channels c.args.info c.args.word _ _ c.self.view_is c.far.view_is
    c.connect.ensures.refused

pub returns-clause-connects : goal.returns-clause-connects
returns-clause-connects c =
    asked-at c.connect.result c.self.inside.address c.far.inside.address c.self.inside.host c.connect.new.host c.far.inside.host c.self.inside.records c.connect.new.own c.far.inside.records c.args.next c.args.channels c.args.info c.args.word _ _
    c.self.view_is c.far.view_is c.connect.ensures.connects
