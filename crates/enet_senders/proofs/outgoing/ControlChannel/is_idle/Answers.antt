use Rattle.std.proofs.Common.{rules}
use Rattle.enet_senders.proofs.outgoing.ControlChannel.is_idle.Goals as goal

pub returns-else-is_empty-clause-idle : goal.returns-else-is_empty-clause-idle
returns-else-is_empty-clause-idle c = search rules

pub returns-else-is_empty-clause-room : goal.returns-else-is_empty-clause-room
returns-else-is_empty-clause-room c = search rules

pub returns-then-is_empty-clause-idle : goal.returns-then-is_empty-clause-idle
returns-then-is_empty-clause-idle c = search rules

pub returns-then-is_empty-clause-room : goal.returns-then-is_empty-clause-room
returns-then-is_empty-clause-room c = search rules
