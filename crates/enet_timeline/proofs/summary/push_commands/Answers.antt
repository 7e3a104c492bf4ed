use Rattle.std.proofs.Common.{refl}
use Rattle.enet_timeline.specs.Summaries.{commands_text}
use Rattle.enet_timeline.proofs.Joins.{join5}
use Rattle.enet_timeline.proofs.summary.push_commands.Goals as goal

pub returns : goal.returns
unfolding commands_text
returns c =
    join5 _ _ _ _ _ _ _ _ _ _ _ _
    c.in_ok-push_all.ensures c.in_ok-push_kinds.ensures c.in_ok-push_str.ensures.bytes c.in_ok-push_kinds-2.ensures c.in_ok-push_str-2.ensures.bytes refl
