use Rattle.std.proofs.Common.{refl}
use Rattle.enet_timeline.specs.Summaries.{outcomes_text}
use Rattle.enet_timeline.proofs.Joins.{join2}
use Rattle.enet_timeline.proofs.summary.push_outcomes.Goals as goal

pub returns : goal.returns
unfolding outcomes_text
returns c =
    rw (← c.ended-acknowledged.ensures, ← c.ended-unseen.ensures, ← c.ended-left_open.ensures, ← c.resent.ensures, ← c.early.ensures)
    (join2 _ _ _ _ _ _ c.in_ok-push_ended.ensures c.in_ok-push_resent.ensures refl)
