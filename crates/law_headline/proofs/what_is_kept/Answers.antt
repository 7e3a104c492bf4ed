use Rattle.law_headline.proofs.Kept.{stays-recorded}
use Rattle.law_headline.proofs.Covered.{stays-covered}
use Rattle.law_headline.proofs.what_is_kept.Goals as goal

pub returns-clause-recorded : goal.returns-clause-recorded
returns-clause-recorded c = stays-recorded

pub returns-clause-covered : goal.returns-clause-covered
returns-clause-covered c = stays-covered
