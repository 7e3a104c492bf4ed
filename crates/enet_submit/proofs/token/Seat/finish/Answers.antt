use Rattle.std.proofs.Common.{rules}
use Rattle.enet_submit.proofs.token.Seat.finish.Goals as goal

pub invariant_of-result : goal.invariant_of-result
invariant_of-result c = search rules
