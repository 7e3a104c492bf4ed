use Rattle.std.proofs.Common.{sym, append-nil}
use Rattle.enet_timeline.specs.Summaries.{number_asked_text}
use Rattle.enet_timeline.proofs.summary.push_number_asked.Goals as goal

pub returns-in-None : goal.returns-in-None
unfolding number_asked_text
returns-in-None c = rw c.in-None.is (sym (append-nil _))

pub returns-in-Some : goal.returns-in-Some
unfolding number_asked_text
returns-in-Some c = rw c.in-Some.is c.write.ensures.bytes
