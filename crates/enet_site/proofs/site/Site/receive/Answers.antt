use Rattle.enet_site.proofs.AtSite.{heard-whole, heard-at}
use Rattle.enet_site.proofs.site.Site.receive.Goals as goal

pub invariant_of-self : goal.invariant_of-self
invariant_of-self c =
    heard-whole c.args.from c.args.bytes.now c.receive.result c.self.inside.address c.self.inside.host c.receive.new.self c.self.inside.records c.receive.ensures c.self.invariant

pub returns : goal.returns
returns c = heard-at c.args.from c.args.bytes.now c.receive.result c.self.inside.address c.self.inside.host c.receive.new.self c.self.inside.records _ c.self.view_is c.receive.ensures
