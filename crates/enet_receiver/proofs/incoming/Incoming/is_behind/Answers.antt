use Rattle.std.proofs.Common.{rules}
use Rattle.enet_receiver.proofs.incoming.Incoming.is_behind.Goals as goal

pub returns-else-arriving : goal.returns-else-arriving
returns-else-arriving c = search rules
