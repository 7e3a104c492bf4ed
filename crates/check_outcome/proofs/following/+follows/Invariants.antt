use Rattle.std.proofs.Common.{◌+◌, length}
use Rattle.check_outcome.proofs.following.+follows.Given as goal

abbrev pub decreases-follows : goal.decreases-follows
decreases-follows l = length l.submitted.now + length l.taken.now
