use Rattle.law_connection.proofs.WireReceiver.{Shows-nothing, Shows-received, Shows-acknowledged, Shows-dispatches, Shows-given_up, Shows-cleared}
use Rattle.law_connection.proofs.link.wire_receiver.Goals as goal

pub returns-clause-nothing : goal.returns-clause-nothing
returns-clause-nothing k = Shows-nothing

pub returns-clause-outcome : goal.returns-clause-outcome
returns-clause-outcome k = λ most v r c full small start s. (Shows-received most v r c full small start s).0

pub returns-clause-receiver : goal.returns-clause-receiver
returns-clause-receiver k = λ most v r c full small start s. (Shows-received most v r c full small start s).1

pub returns-clause-acknowledged : goal.returns-clause-acknowledged
returns-clause-acknowledged k = Shows-acknowledged

pub returns-clause-dispatches : goal.returns-clause-dispatches
returns-clause-dispatches k = Shows-dispatches

pub returns-clause-given_up : goal.returns-clause-given_up
returns-clause-given_up k = Shows-given_up

pub returns-clause-cleared : goal.returns-clause-cleared
returns-clause-cleared k = Shows-cleared
