use Rattle.std.proofs.Common.{refl}
use Rattle.enet_timeline.specs.Summaries.{made_text}
use Rattle.enet_timeline.proofs.Joins.{join5}
use Rattle.enet_timeline.proofs.summary.push_made.Goals as goal

pub returns : goal.returns
unfolding made_text
returns c =
    rw (← c.way_name.ensures, ← c.other.ensures, ← c.way_name-2.ensures)
    (join5 _ _ _ _ _ _ _ _ _ _ _ _ c.in_ok-push_near.ensures c.in_ok-push_seconds.ensures c.in_ok-push_str.ensures.bytes c.in_ok-push_seconds-2.ensures
    c.in_ok-push_far.ensures refl)
