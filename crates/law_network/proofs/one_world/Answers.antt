use Rattle.law_network.proofs.Runs.{each-run, each-joined, each-list, each-joined-list}
use Rattle.law_network.proofs.one_world.Goals as goal

pub returns-clause-opened : goal.returns-clause-opened
returns-clause-opened c = each-run

pub returns-clause-joined : goal.returns-clause-joined
returns-clause-joined c = each-joined

pub returns-clause-events_opened : goal.returns-clause-events_opened
returns-clause-events_opened c = each-list

pub returns-clause-events_joined : goal.returns-clause-events_joined
returns-clause-events_joined c = each-joined-list
