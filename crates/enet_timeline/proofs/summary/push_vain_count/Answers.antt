use Rattle.std.proofs.Common.{append_assoc}
use Rattle.enet_timeline.specs.Summaries.{vain_line}
use Rattle.enet_timeline.proofs.summary.push_vain_count.Goals as goal

pub returns : goal.returns
unfolding vain_line
returns c = simp append_assoc c.write.ensures.bytes
