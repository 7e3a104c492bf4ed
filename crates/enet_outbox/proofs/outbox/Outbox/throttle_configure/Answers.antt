use Rattle.std.proofs.Common.{rules}
use Rattle.enet_outbox.proofs.outbox.Outbox.throttle_configure.Goals as goal

pub returns-clause-outbox : goal.returns-clause-outbox
returns-clause-outbox c = search rules
