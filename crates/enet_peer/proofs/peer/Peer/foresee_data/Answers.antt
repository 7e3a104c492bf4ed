use Rattle.std.proofs.Common.{rules}
use Rattle.enet_peer.proofs.peer.Peer.foresee_data.Goals as goal

pub returns-clause-answer : goal.returns-clause-answer
returns-clause-answer c = search rules

pub returns-clause-kept : goal.returns-clause-kept
returns-clause-kept c = search rules
