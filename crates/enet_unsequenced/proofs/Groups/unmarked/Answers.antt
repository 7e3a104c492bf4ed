use Rattle.std.proofs.Common.{ap}
use Rattle.enet_unsequenced.specs.Marks.{marks_in}
use Rattle.enet_unsequenced.proofs.Words.{marks_in-unmarked}
use Rattle.enet_unsequenced.proofs.MarksLemmas.{seen_of, marked_from-unmarked}
use Rattle.enet_unsequenced.proofs.Groups.unmarked.Goals as goal

pub returns : goal.returns
returns c = ap (λ m. seen_of c.args.base m) (marked_from-unmarked c.args.base (marks_in 1024 c.no_marks.result) (marks_in-unmarked 1024 c.no_marks.result c.no_marks.ensures))
