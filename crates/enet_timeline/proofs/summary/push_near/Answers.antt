use Rattle.std.proofs.Common.{append_assoc}
use Rattle.enet_timeline.specs.Summaries.{near_text}
use Rattle.enet_timeline.proofs.summary.push_near.Goals as goal

pub returns : goal.returns
unfolding near_text
returns c = simp append_assoc c.write.ensures.bytes
