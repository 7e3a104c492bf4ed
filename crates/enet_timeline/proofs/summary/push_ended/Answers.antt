use Rattle.std.proofs.Common.{append_assoc}
use Rattle.enet_timeline.specs.Summaries.{ended_text}
use Rattle.enet_timeline.proofs.summary.push_ended.Goals as goal

pub returns : goal.returns
unfolding ended_text
returns c = simp append_assoc c.write.ensures.bytes
