use Rattle.std.proofs.Common.{rules}
use Rattle.enet_receiver.proofs.incoming.Incoming.answer.Goals as goal

pub returns-else-is_handled : goal.returns-else-is_handled
returns-else-is_handled c = search rules

pub returns-then-is_handled : goal.returns-then-is_handled
returns-then-is_handled c = search rules
