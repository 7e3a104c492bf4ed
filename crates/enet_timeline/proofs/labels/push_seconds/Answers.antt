use Rattle.std.proofs.Common.{append_assoc}
use Rattle.enet_timeline.specs.Summaries.{seconds_text}
use Rattle.enet_timeline.proofs.labels.push_seconds.Goals as goal

pub returns : goal.returns
unfolding seconds_text
returns c = simp append_assoc c.write.ensures.bytes
