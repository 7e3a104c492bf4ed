use Rattle.std.proofs.Common.{length}
use Rattle.check_outcome.proofs.sound.+are_on.Given as goal

abbrev pub decreases-are_on : goal.decreases-are_on
decreases-are_on l = length l.packets.now
