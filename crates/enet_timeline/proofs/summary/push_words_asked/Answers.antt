use Rattle.std.proofs.Common.{refl}
use Rattle.enet_timeline.specs.Summaries.{words_asked_text}
use Rattle.enet_timeline.proofs.Joins.{join6}
use Rattle.enet_timeline.proofs.summary.push_words_asked.Goals as goal

pub returns : goal.returns
unfolding words_asked_text
returns c =
    join6 _ _ _ _ _ _ _ _ _ _ _ _ _ _
    c.in_ok-push_str.ensures.bytes c.in_ok-push_number_asked.ensures (rw c.as_number.ensures at c.in_ok-push_number_asked-2.ensures) c.in_ok-push_time_asked.ensures
    c.in_ok-push_time_asked-2.ensures c.in_ok-push_str-2.ensures.bytes refl
