use Rattle.std.proofs.Common.{append_assoc}
use Rattle.enet_timeline.specs.Summaries.{ways_text}
use Rattle.enet_timeline.proofs.summary.push_ways.Goals as goal

pub returns : goal.returns
unfolding ways_text
returns c = simp append_assoc (rw (c.going-right.ensures, c.going-left.ensures) at c.write.ensures.bytes)
