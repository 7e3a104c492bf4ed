use Rattle.std.proofs.Common.{append_assoc}
use Rattle.enet_timeline.specs.Summaries.{counts_text}
use Rattle.enet_timeline.proofs.summary.push_counts.Goals as goal

pub returns : goal.returns
unfolding counts_text
returns c = simp append_assoc (rw c.len-connections.ensures at c.write.ensures.bytes)
