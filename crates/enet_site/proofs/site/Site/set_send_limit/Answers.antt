use Rattle.enet_site.proofs.Limiting.{limited-whole, limited-at}
use Rattle.enet_site.proofs.site.Site.set_send_limit.Goals as goal

pub invariant_of-self : goal.invariant_of-self
invariant_of-self c = limited-whole c.args.bytes c.args.commands c.self.inside.address c.self.inside.host c.set_send_limit.new.self c.self.inside.records c.set_send_limit.ensures c.self.invariant

pub returns : goal.returns
returns c = limited-at c.args.bytes c.args.commands c.self.inside.address c.self.inside.host c.set_send_limit.new.self c.self.inside.records _ c.self.view_is c.set_send_limit.ensures
