use Rattle.std.proofs.Common.{rules}
use Rattle.enet_senders.proofs.queue.make_room.Goals as goal

pub returns-else-not-is_queue_full-clause-full : goal.returns-else-not-is_queue_full-clause-full
returns-else-not-is_queue_full-clause-full c = search rules

pub returns-else-not-is_queue_full-clause-idle : goal.returns-else-not-is_queue_full-clause-idle
returns-else-not-is_queue_full-clause-idle c = search rules

pub returns-else-not-is_queue_full-clause-refused : goal.returns-else-not-is_queue_full-clause-refused
returns-else-not-is_queue_full-clause-refused c = search rules

pub returns-then-not-is_queue_full-clause-idle : goal.returns-then-not-is_queue_full-clause-idle
returns-then-not-is_queue_full-clause-idle c = search rules
