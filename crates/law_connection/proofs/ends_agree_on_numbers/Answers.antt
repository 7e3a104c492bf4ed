use Rattle.law_connection.proofs.Laws.{joined-agree, asking-agree}
use Rattle.law_connection.proofs.ends_agree_on_numbers.Goals as goal

pub returns-clause-joined : goal.returns-clause-joined
returns-clause-joined c = joined-agree

pub returns-clause-asking : goal.returns-clause-asking
returns-clause-asking c = asking-agree
