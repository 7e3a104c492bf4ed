use Rattle.std.proofs.Common.{length}
use Rattle.check_outcome.proofs.page.+come_from.Given as goal

abbrev pub decreases-come_from : goal.decreases-come_from
decreases-come_from l = length l.packets.now
