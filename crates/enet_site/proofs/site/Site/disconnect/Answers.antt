use Rattle.enet_site.proofs.Left.{left-refused, left-unchanged, left-ends, left-whole}
use Rattle.enet_site.proofs.site.Site.disconnect.Goals as goal

pub invariant_of-self : goal.invariant_of-self
invariant_of-self c =
    left-whole c.args.how c.args.peer c.args.info c.disconnect.result c.self.inside.address c.self.inside.host c.disconnect.new.host c.self.inside.records c.disconnect.ensures c.self.invariant

pub returns-clause-refused : goal.returns-clause-refused
returns-clause-refused c =
    left-refused c.args.how c.args.peer c.args.info c.disconnect.result c.self.inside.address c.self.inside.host c.disconnect.new.host c.self.inside.records _ c.self.view_is c.disconnect.ensures

pub returns-clause-unchanged : goal.returns-clause-unchanged
returns-clause-unchanged c =
    left-unchanged c.args.how c.args.peer c.args.info c.disconnect.result c.self.inside.address c.self.inside.host c.disconnect.new.host c.self.inside.records _ c.self.view_is c.disconnect.ensures

pub returns-clause-ends : goal.returns-clause-ends
returns-clause-ends c =
    left-ends c.args.how c.args.peer c.args.info c.disconnect.result c.self.inside.address c.self.inside.host c.disconnect.new.host c.self.inside.records _ c.self.view_is c.disconnect.ensures
