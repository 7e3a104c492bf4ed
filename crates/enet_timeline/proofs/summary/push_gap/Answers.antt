use Rattle.std.proofs.Common.{sym, append-nil}
use Rattle.enet_timeline.proofs.summary.push_gap.Goals as goal

pub returns-in-None : goal.returns-in-None
returns-in-None c = rw c.in-None.is (sym (append-nil _))

pub returns-in-Some : goal.returns-in-Some
returns-in-Some c = rw c.in-Some.is c.push_longest.ensures
