use Rattle.law_network.proofs.Telling as telling
use Rattle.law_network.proofs.which_events_these_are.Goals as goal

pub returns-clause-turns : goal.returns-clause-turns
returns-clause-turns c = telling.turns

pub returns-clause-rests : goal.returns-clause-rests
returns-clause-rests c = telling.rests

pub returns-clause-brings : goal.returns-clause-brings
returns-clause-brings c = telling.brings

pub returns-clause-passes_over : goal.returns-clause-passes_over
returns-clause-passes_over c = telling.passes-over

pub returns-clause-times : goal.returns-clause-times
returns-clause-times c = telling.times

pub returns-clause-takes_one : goal.returns-clause-takes_one
returns-clause-takes_one c = telling.takes-one
