use Rattle.std.proofs.Common.{sym, append-nil}
use Rattle.enet_timeline.specs.Summaries.{cut_text}
use Rattle.enet_timeline.proofs.summary.push_cut.Goals as goal

pub returns-in_ok-push_str : goal.returns-in_ok-push_str
unfolding cut_text
returns-in_ok-push_str c = rw c.if-is_cut.true c.in_ok-push_str.ensures.bytes

pub returns-else-is_cut : goal.returns-else-is_cut
unfolding cut_text
returns-else-is_cut c = rw c.if-is_cut.false (sym (append-nil _))
