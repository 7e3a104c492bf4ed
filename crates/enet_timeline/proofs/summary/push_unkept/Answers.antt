use Rattle.std.proofs.Common.{sym, append-nil}
use Rattle.enet_timeline.specs.Summaries.{unkept_text}
use Rattle.enet_timeline.proofs.Telling.{some_is}
use Rattle.enet_timeline.proofs.summary.push_unkept.Goals as goal

pub returns-then-unkept-eq0 : goal.returns-then-unkept-eq0
unfolding unkept_text
returns-then-unkept-eq0 c = rw c.if-unkept-eq0.true (sym (append-nil _))

pub returns : goal.returns
unfolding unkept_text
returns c = rw (some_is c.args.unkept c.if-unkept-eq0.false) c.write.ensures.bytes
