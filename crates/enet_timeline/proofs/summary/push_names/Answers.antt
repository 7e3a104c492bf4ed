use Rattle.std.proofs.Common.{append_assoc}
use Rattle.enet_timeline.specs.Summaries.{names_text}
use Rattle.enet_timeline.proofs.summary.push_names.Goals as goal

pub returns : goal.returns
unfolding names_text
returns c = simp append_assoc c.write.ensures.bytes
