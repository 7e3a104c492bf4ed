use Rattle.std.proofs.Common.{sym, ◌∙◌}
use Rattle.enet_host.proofs.Broadcasting.{one-goes, one-stays}
use Rattle.enet_host.proofs.host.HostCore.submit_one.Goals as goal

pub returns-then-not-goes_to-clause-submits : goal.returns-then-not-goes_to-clause-submits
returns-then-not-goes_to-clause-submits c = one-stays c.args.self.now.send_limit c.args.packet.now c.args.peer _ (sym c.goes_to.ensures ∙ c.if-not-goes_to.true)

pub returns-clause-submits : goal.returns-clause-submits
returns-clause-submits c =
    one-goes c.args.self.now.send_limit c.args.packet.now c.args.peer c.submit_shared.result c.told_of.result _ _ (sym c.goes_to.ensures ∙ c.if-not-goes_to.false) c.submit_shared.ensures.submits c.told_of.ensures
