use Rattle.std.proofs.Common.{append_assoc}
use Rattle.enet_metrics.specs.Texts.{reason_text}
use Rattle.enet_metrics.proofs.text.push_reason.Goals as goal

pub returns : goal.returns
unfolding reason_text
returns c = simp append_assoc c.write.ensures.bytes
