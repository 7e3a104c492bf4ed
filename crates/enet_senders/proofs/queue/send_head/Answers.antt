use Rattle.std.proofs.Common.{rules}
use Rattle.enet_senders.proofs.queue.send_head.Goals as goal

pub returns-then-is_reliable-clause-sent : goal.returns-then-is_reliable-clause-sent
returns-then-is_reliable-clause-sent c = search rules
