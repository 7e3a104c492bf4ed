use Rattle.std.proofs.Common.{refl}
use Rattle.enet_timeline.specs.Summaries.{stops_text}
use Rattle.enet_timeline.proofs.Joins.{join3}
use Rattle.enet_timeline.proofs.summary.push_stops.Goals as goal

pub returns : goal.returns
unfolding stops_text
returns c =
    join3 _ _ _ _ _ _ _ _
    c.in_ok-push_stopped.ensures c.in_ok-push_stopped-2.ensures c.in_ok-push_stopped-3.ensures refl
