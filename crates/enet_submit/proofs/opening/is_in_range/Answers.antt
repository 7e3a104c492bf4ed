use Rattle.std.proofs.Common.{rules}
use Rattle.enet_submit.proofs.opening.is_in_range.Goals as goal

pub returns-then-seats-le-MAX_SEATS : goal.returns-then-seats-le-MAX_SEATS
returns-then-seats-le-MAX_SEATS c = search rules
