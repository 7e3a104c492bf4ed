use Rattle.std.proofs.Common.{rules}
use Rattle.enet_peer.proofs.peer.Peer.reserve.Goals as goal

pub returns-clause-idle : goal.returns-clause-idle
returns-clause-idle c = search rules

pub returns-clause-refused : goal.returns-clause-refused
returns-clause-refused c = search rules
