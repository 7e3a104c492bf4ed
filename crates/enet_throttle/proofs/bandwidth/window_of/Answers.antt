use Rattle.std.proofs.Common.{rules}
use Rattle.enet_throttle.proofs.bandwidth.window_of.Goals as goal

pub returns-in_default-clause-size : goal.returns-in_default-clause-size
returns-in_default-clause-size c = search rules
