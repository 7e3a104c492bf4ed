use Rattle.std.proofs.Common.{rules}
use Rattle.enet_throttle.proofs.throttle.Throttle.admits.Goals as goal

pub returns-clause-answer : goal.returns-clause-answer
returns-clause-answer c = search rules
