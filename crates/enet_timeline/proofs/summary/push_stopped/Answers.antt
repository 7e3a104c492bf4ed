use Rattle.enet_timeline.specs.Summaries.{stopped_text}
use Rattle.enet_timeline.proofs.summary.push_stopped.Goals as goal

pub returns : goal.returns
unfolding stopped_text
returns c = rw (← c.label.ensures, ← c.stopped_by.ensures) c.push_unread.ensures
