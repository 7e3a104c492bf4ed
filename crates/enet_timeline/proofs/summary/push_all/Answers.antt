use Rattle.std.proofs.Common.{append_assoc}
use Rattle.enet_timeline.specs.Summaries.{all_text}
use Rattle.enet_timeline.proofs.summary.push_all.Goals as goal

pub returns : goal.returns
unfolding all_text
returns c = simp append_assoc c.write.ensures.bytes
