use Rattle.enet_receiver.proofs.Sequenced.{sequenced-nothing, sequenced-received, sequenced-cleared}
use Rattle.enet_receiver.proofs.laws.sequenced_has_other_flags.Goals as goal

pub returns-clause-nothing : goal.returns-clause-nothing
returns-clause-nothing c = sequenced-nothing

pub returns-clause-received : goal.returns-clause-received
returns-clause-received c = sequenced-received

pub returns-clause-cleared : goal.returns-clause-cleared
returns-clause-cleared c = sequenced-cleared
