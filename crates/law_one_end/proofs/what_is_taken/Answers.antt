use Rattle.law_one_end.proofs.Laws.{answering-heard, asking-heard, joined-heard}
use Rattle.law_one_end.proofs.what_is_taken.Goals as goal

pub returns-clause-answering : goal.returns-clause-answering
returns-clause-answering c = answering-heard

pub returns-clause-asking : goal.returns-clause-asking
returns-clause-asking c = asking-heard

pub returns-clause-joined : goal.returns-clause-joined
returns-clause-joined c = joined-heard
