use Rattle.std.proofs.Common.{rules}
use Rattle.enet_senders.proofs.outgoing.ControlChannel.queue.Goals as goal

pub returns-clause-commands : goal.returns-clause-commands
returns-clause-commands c = search rules
