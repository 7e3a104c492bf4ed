use Rattle.std.proofs.Common.{append_assoc}
use Rattle.enet_timeline.specs.Summaries.{resent_text}
use Rattle.enet_timeline.proofs.summary.push_resent.Goals as goal

pub returns : goal.returns
unfolding resent_text
returns c = simp append_assoc c.write.ensures.bytes
