use Rattle.law_progress.proofs.Settled.{settled-forth, settled-back}
use Rattle.law_progress.proofs.each_trip_takes_one_away.Goals as goal

pub returns-clause-forth : goal.returns-clause-forth
returns-clause-forth c = settled-forth

pub returns-clause-back : goal.returns-clause-back
returns-clause-back c = settled-back
