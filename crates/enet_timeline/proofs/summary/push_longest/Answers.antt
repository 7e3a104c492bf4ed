use Rattle.std.proofs.Common.{refl}
use Rattle.enet_timeline.specs.Summaries.{longest_text}
use Rattle.enet_timeline.proofs.Joins.{join3}
use Rattle.enet_timeline.proofs.summary.push_longest.Goals as goal

pub returns : goal.returns
unfolding longest_text
returns c =
    join3 _ _ _ _ _ _ _ _
    c.in_ok-push_str.ensures.bytes c.in_ok-push_seconds.ensures c.in_ok-push_before.ensures refl
