use Rattle.std.proofs.lemmas.Grind.{common_steps}
use Rattle.std.proofs.Common.{arith}
use Rattle.enet_codec.proofs.config.Config.is_in_range.Goals as goal

pub returns-then-is_limit_in_range : goal.returns-then-is_limit_in_range
returns-then-is_limit_in_range c = grind (arith, common_steps)

pub returns-else-is_limit_in_range : goal.returns-else-is_limit_in_range
returns-else-is_limit_in_range c = grind (arith, common_steps)
