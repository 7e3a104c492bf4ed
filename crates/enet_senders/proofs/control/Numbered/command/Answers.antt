use Rattle.std.proofs.Common.{rules}
use Rattle.enet_senders.proofs.control.Numbered.command.Goals as goal

pub returns-in-Disconnect-clause-message : goal.returns-in-Disconnect-clause-message
returns-in-Disconnect-clause-message c = search rules
