use Rattle.std.proofs.Common.{rules}
use Rattle.enet_peer.proofs.peer.Peer.destination.Goals as goal

pub returns : goal.returns
returns c = search rules
