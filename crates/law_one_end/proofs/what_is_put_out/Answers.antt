use Rattle.law_one_end.proofs.SentRuns.{answering-sent, asking-sent, joined-sent}
use Rattle.law_one_end.proofs.what_is_put_out.Goals as goal

pub returns-clause-answering : goal.returns-clause-answering
returns-clause-answering c = answering-sent

pub returns-clause-asking : goal.returns-clause-asking
returns-clause-asking c = asking-sent

pub returns-clause-joined : goal.returns-clause-joined
returns-clause-joined c = joined-sent
