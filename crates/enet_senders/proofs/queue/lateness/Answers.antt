use Rattle.std.proofs.Common.{rules}
use Rattle.enet_senders.proofs.queue.lateness.Goals as goal

pub returns-then-is_some : goal.returns-then-is_some
returns-then-is_some c = search rules
