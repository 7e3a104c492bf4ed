use Rattle.std.proofs.Common.{rules}
use Rattle.enet_peer.proofs.peer.Peer.disconnect_now.Goals as goal

pub returns-in-Answering : goal.returns-in-Answering
returns-in-Answering c = search rules
