use Rattle.enet_sender.proofs.Transit.{prices-next, prices-acknowledged, prices-marked, prices-lost}
use Rattle.enet_sender.proofs.laws.prices_follow.Goals as goal

pub returns-clause-next : goal.returns-clause-next
returns-clause-next c = prices-next

pub returns-clause-acknowledged : goal.returns-clause-acknowledged
returns-clause-acknowledged c = prices-acknowledged

pub returns-clause-marked : goal.returns-clause-marked
returns-clause-marked c = prices-marked

pub returns-clause-lost : goal.returns-clause-lost
returns-clause-lost c = prices-lost
