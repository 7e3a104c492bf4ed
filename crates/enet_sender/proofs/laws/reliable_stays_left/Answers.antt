use Rattle.enet_sender.proofs.Transit.{left-next, left-skipped, left-marked}
use Rattle.enet_sender.proofs.laws.reliable_stays_left.Goals as goal

pub returns-clause-next : goal.returns-clause-next
returns-clause-next c = left-next

pub returns-clause-skipped : goal.returns-clause-skipped
returns-clause-skipped c = left-skipped

pub returns-clause-marked : goal.returns-clause-marked
returns-clause-marked c = left-marked
