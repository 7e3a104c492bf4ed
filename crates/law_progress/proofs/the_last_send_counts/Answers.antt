use Rattle.law_progress.proofs.Counting.{first-counts, again-counts, held-counts}
use Rattle.law_progress.proofs.the_last_send_counts.Goals as goal

pub returns-clause-first : goal.returns-clause-first
returns-clause-first c = first-counts

pub returns-clause-again : goal.returns-clause-again
returns-clause-again c = again-counts

pub returns-clause-held : goal.returns-clause-held
returns-clause-held c = held-counts
