use Rattle.law_network.proofs.OneCall.{one-call}
use Rattle.law_network.proofs.IsolationKeeping.{each-keeps}
use Rattle.law_network.proofs.AllCalls as all
use Rattle.law_network.proofs.Alike.{one-answer, one-way, alike}
use Rattle.law_network.proofs.Own.{of-the-host}
use Rattle.law_network.proofs.Beginning.{each-beginning}
use Rattle.law_network.proofs.Matching.{matches}
use Rattle.law_network.proofs.apart.isolation.Goals as goal

pub returns-clause-one_call : goal.returns-clause-one_call
returns-clause-one_call c = one-call

pub returns-clause-keeps : goal.returns-clause-keeps
returns-clause-keeps c = each-keeps

pub returns-clause-one_answer : goal.returns-clause-one_answer
returns-clause-one_answer c = one-answer

pub returns-clause-one_way : goal.returns-clause-one_way
returns-clause-one_way c = one-way

pub returns-clause-alike : goal.returns-clause-alike
returns-clause-alike c = alike

pub returns-clause-of_the_host : goal.returns-clause-of_the_host
returns-clause-of_the_host c = of-the-host

pub returns-clause-calls : goal.returns-clause-calls
returns-clause-calls c = all.isolation

pub returns-clause-beginnings : goal.returns-clause-beginnings
returns-clause-beginnings c = each-beginning

pub returns-clause-events : goal.returns-clause-events
returns-clause-events c = matches
