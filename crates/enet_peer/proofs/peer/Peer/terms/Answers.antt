use Rattle.std.proofs.Common.{rules}
use Rattle.enet_peer.proofs.peer.Peer.terms.Goals as goal

pub returns : goal.returns
returns c = search rules
