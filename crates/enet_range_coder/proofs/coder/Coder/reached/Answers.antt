use Rattle.std.proofs.Common.{◌∙◌, sym, ap}
use Rattle.enet_range_coder.specs.Context.{Context, reach}
use Rattle.enet_range_coder.proofs.Sharing.{context_other}
use Rattle.enet_range_coder.proofs.coder.Coder.reached.Goals as goal

pub returns : goal.returns
returns c = c.reach.ensures ∙ sym (ap (λ (x : Context). reach x.bytes c.args.aim 0) (context_other c.args.self.now c.args.context c.at.result c.if-context-eq0.false c.at.ensures))
