use Rattle.std.proofs.Common.{append_assoc}
use Rattle.enet_timeline.specs.Summaries.{before_text}
use Rattle.enet_timeline.proofs.summary.push_before.Goals as goal

pub returns : goal.returns
unfolding before_text
returns c = simp append_assoc c.write.ensures.bytes
