use Rattle.std.proofs.Common.{rules}
use Rattle.enet_peer.proofs.peer.Peer.answering.Goals as goal

pub returns-clause-peer : goal.returns-clause-peer
returns-clause-peer c = search rules
