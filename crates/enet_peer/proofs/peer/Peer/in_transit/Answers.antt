use Rattle.std.proofs.Common.{rules}
use Rattle.enet_peer.proofs.peer.Peer.in_transit.Goals as goal

pub returns : goal.returns
returns c = search rules
