use Rattle.enet_site.proofs.Left.{ticked-whole, ticked-at}
use Rattle.enet_site.proofs.site.Site.tick.Goals as goal

pub invariant_of-self : goal.invariant_of-self
invariant_of-self c = ticked-whole c.args.ms c.self.inside.address c.self.inside.host c.tick.new.self c.self.inside.records c.tick.ensures c.self.invariant

pub returns : goal.returns
returns c = ticked-at c.args.ms c.self.inside.address c.self.inside.host c.tick.new.self c.self.inside.records _ c.self.view_is c.tick.ensures
