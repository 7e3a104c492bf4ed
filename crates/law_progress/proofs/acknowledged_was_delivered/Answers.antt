use Rattle.law_progress.proofs.Delivered.{delivered-forth, delivered-back}
use Rattle.law_progress.proofs.acknowledged_was_delivered.Goals as goal

pub returns-clause-forth : goal.returns-clause-forth
returns-clause-forth c = delivered-forth

pub returns-clause-back : goal.returns-clause-back
returns-clause-back c = delivered-back
