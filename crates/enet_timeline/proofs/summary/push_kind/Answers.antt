use Rattle.enet_timeline.specs.Summaries.{kind_text}
use Rattle.enet_timeline.proofs.summary.push_kind.Goals as goal

pub returns : goal.returns
unfolding kind_text
returns c = rw (← c.name.ensures, ← c.count_of.ensures) c.push_counted.ensures
