use Rattle.std.proofs.Common.{length}
use Rattle.check_outcome.proofs.life.+are_last_of.Given as goal

abbrev pub decreases-are_last_of : goal.decreases-are_last_of
decreases-are_last_of l = length l.events.now
