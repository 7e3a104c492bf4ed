use Rattle.std.proofs.Common.{append_assoc}
use Rattle.enet_metrics.specs.Texts.{head_text}
use Rattle.enet_metrics.proofs.text.push_head.Goals as goal

pub returns : goal.returns
unfolding head_text
returns c = simp append_assoc c.write.ensures.bytes
