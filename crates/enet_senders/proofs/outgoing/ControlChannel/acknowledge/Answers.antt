use Rattle.std.proofs.Common.{rules}
use Rattle.enet_senders.proofs.outgoing.ControlChannel.acknowledge.Goals as goal

pub returns-clause-removed : goal.returns-clause-removed
returns-clause-removed c = search rules
