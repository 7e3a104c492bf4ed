use Rattle.std.proofs.Common.{sym, append_assoc, append-nil}
use Rattle.enet_timeline.specs.Summaries.{lost_text}
use Rattle.enet_timeline.proofs.Telling.{some_is}
use Rattle.enet_timeline.proofs.summary.push_lost.Goals as goal

pub returns-then-count-eq0 : goal.returns-then-count-eq0
unfolding lost_text
returns-then-count-eq0 c = rw c.if-count-eq0.true (sym (append-nil _))

pub returns : goal.returns
unfolding lost_text
returns c = rw (some_is c.args.count c.if-count-eq0.false) (simp append_assoc c.write.ensures.bytes)
