use Rattle.std.proofs.Common.{rules}
use Rattle.enet_throttle.proofs.throttle.Throttle.configure.Goals as goal

pub returns : goal.returns
returns c = search rules
