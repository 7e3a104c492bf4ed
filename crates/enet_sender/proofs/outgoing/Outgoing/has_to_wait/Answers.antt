use Rattle.std.proofs.Common.{arith}
use Rattle.enet_sender.proofs.outgoing.Outgoing.has_to_wait.Goals as goal

pub head_has_to_wait-requires-clause-none : goal.head_has_to_wait-requires-clause-none
head_has_to_wait-requires-clause-none c = λ place from until. c.requires.sent.not_due place from (omega arith)
