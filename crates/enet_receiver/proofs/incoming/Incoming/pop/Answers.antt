use Rattle.std.proofs.Common.{rules}
use Rattle.enet_receiver.proofs.incoming.Incoming.pop.Goals as goal

pub returns : goal.returns
returns c = search rules
