use Rattle.law_one_end.proofs.Lives.{answering-life, asking-life, joined-life}
use Rattle.law_one_end.proofs.events_are_one_life.Goals as goal

pub returns-clause-answering : goal.returns-clause-answering
returns-clause-answering c = answering-life

pub returns-clause-asking : goal.returns-clause-asking
returns-clause-asking c = asking-life

pub returns-clause-joined : goal.returns-clause-joined
returns-clause-joined c = joined-life
