use Rattle.std.proofs.Common.{rules}
use Rattle.enet_peer.proofs.peer.Peer.round_trip.Goals as goal

pub returns-clause-mean : goal.returns-clause-mean
returns-clause-mean c = search rules
