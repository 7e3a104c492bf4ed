use Rattle.std.proofs.Common.{sym, ◌∙◌}
use Rattle.std.proofs.lemmas.Bool.{le-ltb}
use Rattle.enet_peer.proofs.Submitting.{surely_few}
use Rattle.enet_peer.proofs.sending.is_cut_too_often.Goals as goal

pub returns-else-len-gt-SURELY_FEW : goal.returns-else-len-gt-SURELY_FEW
returns-else-len-gt-SURELY_FEW c =
    le-ltb 8978432 c.args.len c.if-len-gt-SURELY_FEW.false ∙ sym (surely_few c.args.len c.args.mtu c.if-len-gt-SURELY_FEW.false c.requires.0)
