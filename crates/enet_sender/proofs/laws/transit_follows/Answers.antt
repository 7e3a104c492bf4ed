use Rattle.enet_sender.proofs.Transit.{transit-next, transit-acknowledged, transit-marked}
use Rattle.enet_sender.proofs.laws.transit_follows.Goals as goal

pub returns-clause-next : goal.returns-clause-next
returns-clause-next c = transit-next

pub returns-clause-acknowledged : goal.returns-clause-acknowledged
returns-clause-acknowledged c = transit-acknowledged

pub returns-clause-marked : goal.returns-clause-marked
returns-clause-marked c = transit-marked
