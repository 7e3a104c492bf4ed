use Rattle.law_progress.proofs.Fitting.{joined-fits, asking-fits, answering-fits, stays-fit}
use Rattle.law_progress.proofs.all_that_waits_fits.Goals as goal

pub returns-clause-joined : goal.returns-clause-joined
returns-clause-joined c = λ start terms limits low. stays-fit _ (joined-fits start terms limits low)

pub returns-clause-connecting : goal.returns-clause-connecting
returns-clause-connecting c = λ start offset offer limits low. stays-fit _ (asking-fits start offset offer limits low)

pub returns-clause-answering : goal.returns-clause-answering
returns-clause-answering c = λ start offsets offer server limits. stays-fit _ (answering-fits start offsets offer server limits)
