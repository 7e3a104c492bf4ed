use Rattle.std.proofs.Common.{rules}
use Rattle.enet_throttle.proofs.bandwidth.limit_of.Goals as goal

pub returns-in-Some-clause-least : goal.returns-in-Some-clause-least
returns-in-Some-clause-least c = search rules

pub returns-in-Some-clause-limit : goal.returns-in-Some-clause-limit
returns-in-Some-clause-limit c = search rules
