use Rattle.std.proofs.Common.{refl}
use Rattle.enet_timeline.specs.Summaries.{fates_text}
use Rattle.enet_timeline.proofs.Joins.{join6}
use Rattle.enet_timeline.proofs.summary.push_fates.Goals as goal

pub returns : goal.returns
unfolding fates_text
returns c =
    rw (← c.in_vain.ensures, ← c.in_vain-2.ensures, ← c.lost.ensures, ← c.lost-2.ensures)
    (join6 _ _ _ _ _ _ _ _ _ _ _ _ _ _ c.in_ok-push_outcomes.ensures c.in_ok-push_outcomes-2.ensures c.in_ok-push_vain.ensures
    c.in_ok-push_vain-2.ensures c.in_ok-push_lost.ensures c.in_ok-push_lost-2.ensures refl)
