use Rattle.std.proofs.Common.{rules}
use Rattle.enet_fragment.proofs.data.DataCommand.command.Goals as goal

pub returns-in-true-Some : goal.returns-in-true-Some
returns-in-true-Some c = search rules
