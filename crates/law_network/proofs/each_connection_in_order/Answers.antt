use Rattle.law_network.proofs.Headlines.{headline-run, headline-joined-run, headline-list, headline-joined-list}
use Rattle.law_network.proofs.each_connection_in_order.Goals as goal

pub returns-clause-opened : goal.returns-clause-opened
returns-clause-opened c = headline-run

pub returns-clause-joined : goal.returns-clause-joined
returns-clause-joined c = headline-joined-run

pub returns-clause-events_opened : goal.returns-clause-events_opened
returns-clause-events_opened c = headline-list

pub returns-clause-events_joined : goal.returns-clause-events_joined
returns-clause-events_joined c = headline-joined-list
