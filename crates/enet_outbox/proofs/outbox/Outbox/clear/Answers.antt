use Rattle.std.proofs.Common.{rules}
use Rattle.enet_outbox.proofs.outbox.Outbox.clear.Goals as goal

pub returns-clause-acknowledgement_room : goal.returns-clause-acknowledgement_room
returns-clause-acknowledgement_room c = search rules

pub returns-clause-outbox : goal.returns-clause-outbox
returns-clause-outbox c = search rules
