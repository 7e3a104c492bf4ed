use Rattle.law_network.proofs.OneThing.{one-thing}
use Rattle.law_network.proofs.Beginnings as beginnings
use Rattle.law_network.proofs.each_thing_is_events.Goals as goal

pub returns-clause-goes_on : goal.returns-clause-goes_on
returns-clause-goes_on c = one-thing

pub returns-clause-asked : goal.returns-clause-asked
returns-clause-asked c = beginnings.asked

pub returns-clause-answered : goal.returns-clause-answered
returns-clause-answered c = beginnings.answered
