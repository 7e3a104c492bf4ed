use Rattle.law_connection.proofs.Laws.{joined-kept, asking-kept, kept-at, lawful, agree, big-of}
use Rattle.law_connection.proofs.each_event_keeps.Goals as goal

pub returns-clause-joined : goal.returns-clause-joined
returns-clause-joined c = λ one two big1 big2 few1 few2. joined-kept one.now two.now one.terms two.terms one.limits two.limits (big-of one.terms.mtu big1) (big-of two.terms.mtu big2) few1 few2

pub returns-clause-asking : goal.returns-clause-asking
returns-clause-asking c = asking-kept

pub returns-clause-event : goal.returns-clause-event
returns-clause-event c = kept-at

pub returns-clause-lawful : goal.returns-clause-lawful
returns-clause-lawful c = lawful

pub returns-clause-agree : goal.returns-clause-agree
returns-clause-agree c = agree
