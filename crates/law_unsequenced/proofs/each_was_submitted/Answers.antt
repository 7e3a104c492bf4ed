use Rattle.law_unsequenced.proofs.Laws.{joined-law, asking-law}
use Rattle.law_unsequenced.proofs.each_was_submitted.Goals as goal

pub returns-clause-joined : goal.returns-clause-joined
returns-clause-joined c = joined-law

pub returns-clause-asking : goal.returns-clause-asking
returns-clause-asking c = asking-law
