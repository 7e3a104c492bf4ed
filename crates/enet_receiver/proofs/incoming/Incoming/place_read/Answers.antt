use Rattle.std.proofs.Common.{rules}
use Rattle.enet_receiver.proofs.incoming.Incoming.place_read.Goals as goal

pub returns-else-arriving-clause-inside : goal.returns-else-arriving-clause-inside
returns-else-arriving-clause-inside c = search rules

pub returns-else-arriving-clause-value : goal.returns-else-arriving-clause-value
returns-else-arriving-clause-value c = search rules

pub returns-then-arriving-clause-value : goal.returns-then-arriving-clause-value
returns-then-arriving-clause-value c = search rules
