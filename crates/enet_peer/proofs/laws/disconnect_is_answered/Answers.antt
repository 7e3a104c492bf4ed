use Rattle.enet_peer.proofs.Answered.{answer-goes, obeys-waits, moved-waits, waits-after}
use Rattle.enet_peer.proofs.laws.disconnect_is_answered.Goals as goal

pub returns-clause-waits : goal.returns-clause-waits
returns-clause-waits c = waits-after

pub returns-clause-heeded : goal.returns-clause-heeded
returns-clause-heeded c = obeys-waits

pub returns-clause-moved : goal.returns-clause-moved
returns-clause-moved c = moved-waits

pub returns-clause-goes : goal.returns-clause-goes
returns-clause-goes c = answer-goes
