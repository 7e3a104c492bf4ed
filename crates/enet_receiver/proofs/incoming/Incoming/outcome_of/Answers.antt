use Rattle.std.proofs.Common.{rules}
use Rattle.enet_receiver.proofs.incoming.Incoming.outcome_of.Goals as goal

pub returns-then-is_behind-clause-value : goal.returns-then-is_behind-clause-value
returns-then-is_behind-clause-value c = search rules
