use Rattle.law_connection.proofs.Laws.{joined-law, asking-law}
use Rattle.law_connection.proofs.one_connection.Goals as goal

pub returns-clause-joined : goal.returns-clause-joined
returns-clause-joined c = joined-law

pub returns-clause-asking : goal.returns-clause-asking
returns-clause-asking c = asking-law
