use Rattle.law_progress.proofs.Attempts.{Asks, Answers, Leaves, asking-ends, leaving-ends}
use Rattle.law_progress.proofs.Told.{told}
use Rattle.law_progress.proofs.PartingEnds.{parting-ends}
use Rattle.law_progress.proofs.Acknowledging.{acknowledging-ends}
use Rattle.law_progress.proofs.Tries.{asking-lasts, answering-ends, answering-lasts, unrefused-ends}
use Rattle.law_progress.proofs.every_attempt_ends.Goals as goal

pub returns-clause-connecting : goal.returns-clause-connecting
returns-clause-connecting c = asking-ends

pub returns-clause-answering : goal.returns-clause-answering
returns-clause-answering c = answering-ends

pub returns-clause-unrefused : goal.returns-clause-unrefused
returns-clause-unrefused c = unrefused-ends

pub returns-clause-disconnecting : goal.returns-clause-disconnecting
returns-clause-disconnecting c = leaving-ends

pub returns-clause-asked : goal.returns-clause-asked
returns-clause-asked c = asking-lasts

pub returns-clause-answered : goal.returns-clause-answered
returns-clause-answered c = answering-lasts

pub returns-clause-told : goal.returns-clause-told
returns-clause-told c = (told Asks, told Answers, told Leaves)

pub returns-clause-acknowledging : goal.returns-clause-acknowledging
returns-clause-acknowledging c = acknowledging-ends

pub returns-clause-parting : goal.returns-clause-parting
returns-clause-parting c = parting-ends
