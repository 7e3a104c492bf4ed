use Rattle.enet_outbox.proofs.Rooms.{awaited-acknowledged, awaited-cleared, awaited-empty, awaited-filled, awaited-marked, awaited-narrowed, awaited-submitted}
use Rattle.enet_outbox.proofs.laws.room_is_kept_for_something.Goals as goal

pub returns-clause-opened : goal.returns-clause-opened
returns-clause-opened c = awaited-empty

pub returns-clause-submitted : goal.returns-clause-submitted
returns-clause-submitted c = awaited-submitted

pub returns-clause-acknowledged : goal.returns-clause-acknowledged
returns-clause-acknowledged c = awaited-acknowledged

pub returns-clause-marked : goal.returns-clause-marked
returns-clause-marked c = awaited-marked

pub returns-clause-filled : goal.returns-clause-filled
returns-clause-filled c = awaited-filled

pub returns-clause-cleared : goal.returns-clause-cleared
returns-clause-cleared c = awaited-cleared

pub returns-clause-narrowed : goal.returns-clause-narrowed
returns-clause-narrowed c = awaited-narrowed
