use Rattle.std.proofs.Common.{rules}
use Rattle.enet_peer.proofs.peer.Peer.cut_off.Goals as goal

pub returns-in-Answering : goal.returns-in-Answering
returns-in-Answering c = search rules
