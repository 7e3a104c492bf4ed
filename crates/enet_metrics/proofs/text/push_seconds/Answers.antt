use Rattle.std.proofs.Common.{append_assoc}
use Rattle.enet_metrics.specs.Texts.{seconds_text}
use Rattle.enet_metrics.proofs.text.push_seconds.Goals as goal

pub returns : goal.returns
unfolding seconds_text
returns c = simp append_assoc c.write.ensures.bytes
