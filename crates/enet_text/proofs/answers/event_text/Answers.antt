use Rattle.std.proofs.Common.{rules}
use Rattle.enet_text.proofs.answers.event_text.Goals as goal

pub returns-in-Disconnect : goal.returns-in-Disconnect
returns-in-Disconnect c = search rules
