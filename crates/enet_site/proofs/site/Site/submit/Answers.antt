use Rattle.std.proofs.Common.{Err}
use Rattle.law_network.specs.Calls as call
use Rattle.enet_site.proofs.AtSite.{refuses-at, submitted-at, submitted-whole}
use Rattle.enet_site.proofs.site.Site.submit.Goals as goal

pub invariant_of-self : goal.invariant_of-self
invariant_of-self c =
    submitted-whole c.submit.result c.self.inside.host c.submit.new.host c.self.inside.records c.submit.new.own c.args.peer c.args.channel (record { flags = c.args.flags; body = c.args.body.now }) c.submit.ensures.host c.submit.ensures.unchanged
    c.submit.ensures.submits c.self.invariant

pub returns-clause-refused : goal.returns-clause-refused
returns-clause-refused c =
    refuses-at c.submit.result (λ why. call.Submit c.args.peer c.args.channel (record { flags = c.args.flags; body = c.args.body.now }) (Err (why, c.args.body.now))) c.self.inside.address c.self.inside.host c.self.inside.records _
    c.self.view_is c.submit.ensures.refused

pub returns-clause-submits : goal.returns-clause-submits
returns-clause-submits c =
    submitted-at c.submit.result c.self.inside.address c.self.inside.host c.submit.new.host c.self.inside.records c.submit.new.own c.args.peer c.args.channel (record { flags = c.args.flags; body = c.args.body.now }) _ c.self.view_is
    c.submit.ensures.submits
