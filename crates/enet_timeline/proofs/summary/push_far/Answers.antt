use Rattle.std.proofs.Common.{append_assoc}
use Rattle.enet_timeline.specs.Summaries.{far_text}
use Rattle.enet_timeline.proofs.summary.push_far.Goals as goal

pub returns : goal.returns
unfolding far_text
returns c = simp append_assoc c.write.ensures.bytes
