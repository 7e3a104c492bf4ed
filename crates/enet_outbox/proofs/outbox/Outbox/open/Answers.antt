use Rattle.std.proofs.Common.{rules, arith}
use Rattle.enet_outbox.proofs.Senders.{keeps-open}
use Rattle.enet_outbox.proofs.outbox.Outbox.open.Goals as goal

pub invariant_of-result : goal.invariant_of-result
invariant_of-result c = (rw c.in_ok-senders.ensures.senders (keeps-open c.args.channels (omega (arith, c.ranges.channels.fits))), λ idle. absurd (cc), omega arith)

pub returns-clause-outbox : goal.returns-clause-outbox
returns-clause-outbox c = search rules
