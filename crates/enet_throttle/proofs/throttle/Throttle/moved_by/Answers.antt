use Rattle.std.proofs.Common.{rules}
use Rattle.enet_throttle.proofs.throttle.Throttle.moved_by.Goals as goal

pub returns-then-measured-slow-clause-moved : goal.returns-then-measured-slow-clause-moved
returns-then-measured-slow-clause-moved c = search rules

pub returns-then-measured-slow-clause-within : goal.returns-then-measured-slow-clause-within
returns-then-measured-slow-clause-within c = search rules
