use Rattle.std.proofs.Common.{rules}
use Rattle.enet_outbox.proofs.outbox.Outbox.reserve_acknowledgement.Goals as goal

pub returns-clause-room : goal.returns-clause-room
returns-clause-room c = search rules
