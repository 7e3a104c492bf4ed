use Rattle.law_progress.proofs.BothRounds.{round-progresses, round-acknowledges, all-get-through}
use Rattle.law_progress.proofs.Exchanges.{joint-swap}
use Rattle.law_progress.proofs.RoundOfAPair.{some-round}
use Rattle.law_progress.proofs.both_get_through.Goals as goal

pub returns-clause-progresses : goal.returns-clause-progresses
returns-clause-progresses c = round-progresses

pub returns-clause-through : goal.returns-clause-through
returns-clause-through c = all-get-through

pub returns-clause-happens : goal.returns-clause-happens
returns-clause-happens c = some-round

pub returns-clause-either : goal.returns-clause-either
returns-clause-either c = joint-swap

pub returns-clause-acknowledged : goal.returns-clause-acknowledged
returns-clause-acknowledged c = round-acknowledges
