use Rattle.std.proofs.Common.{refl}
use Rattle.enet_timeline.specs.Summaries.{whole_text}
use Rattle.enet_timeline.proofs.Joins.{join5}
use Rattle.enet_timeline.proofs.summary.push_whole.Goals as goal

pub returns : goal.returns
unfolding whole_text
returns c =
    join5 _ _ _ _ _ _ _ _ _ _ _ _
    c.in_ok-push_counts.ensures c.in_ok-push_unkept.ensures c.in_ok-push_cut.ensures c.in_ok-push_asked.ensures c.in_ok-push_first_connections.ensures refl
