use Rattle.law_progress.proofs.Waiting.{joined-waits, asking-waits, answering-waits}
use Rattle.law_progress.proofs.no_wait_is_endless.Goals as goal

pub returns-clause-joined : goal.returns-clause-joined
returns-clause-joined c = joined-waits

pub returns-clause-connecting : goal.returns-clause-connecting
returns-clause-connecting c = asking-waits

pub returns-clause-answering : goal.returns-clause-answering
returns-clause-answering c = answering-waits
