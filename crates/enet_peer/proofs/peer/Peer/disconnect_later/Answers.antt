use Rattle.std.proofs.Common.{rules}
use Rattle.enet_peer.proofs.peer.Peer.disconnect_later.Goals as goal

pub returns-in-Connected : goal.returns-in-Connected
returns-in-Connected c = search rules
