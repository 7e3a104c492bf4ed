use Rattle.std.proofs.Common.{sym, append-nil}
use Rattle.enet_timeline.specs.Summaries.{vain_text}
use Rattle.enet_timeline.proofs.Telling.{some_is}
use Rattle.enet_timeline.proofs.summary.push_vain.Goals as goal

pub returns-then-count-eq0 : goal.returns-then-count-eq0
unfolding vain_text
returns-then-count-eq0 c = rw c.if-count-eq0.true (sym (append-nil _))

pub returns : goal.returns
unfolding vain_text
returns c = rw (some_is c.args.count c.if-count-eq0.false, ← c.way_name.ensures, ← c.vain_words.ensures) c.push_vain_count.ensures
