use Rattle.std.proofs.Common.{◌-◌, arith}
use Rattle.enet_outbox.proofs.Senders.{Marks, marks}
use Rattle.enet_outbox.proofs.lists.mark.Goals.{After-mark-late}
use Rattle.enet_outbox.proofs.lists.mark.Goals as goal

marked : (c : After-mark-late) → Marks c.args.transit c.args.prices c.args.tick c.args.senders.now c.mark-late.result
marked c = marks c.args.transit c.args.prices c.args.tick c.args.senders.now c.mark-late.result (omega (arith, c.ranges.transit.fits)) (omega (arith, c.ranges.prices.fits)) c.requires c.mark-late.ensures.late

pub overflow_sub-bytes : goal.overflow_sub-bytes
overflow_sub-bytes c = (marked (goal.at.overflow_sub-bytes c).After-mark-late).bytes

pub overflow_sub-left : goal.overflow_sub-left
overflow_sub-left c = (marked (goal.at.overflow_sub-left c).After-mark-late).prices

pub returns-clause-lost : goal.returns-clause-lost
returns-clause-lost c = (marked (goal.at.returns-clause-lost c).After-mark-late).lost

pub returns-clause-kept : goal.returns-clause-kept
returns-clause-kept c =
    let m = marked (goal.at.returns-clause-kept c).After-mark-late in
    let bytes = m.bytes in
    let prices = m.prices in
    rw c.mark-late.ensures.marked (m.kept (c.args.transit - c.mark-late.result.bytes) (c.args.prices - c.mark-late.result.prices) (omega arith) (omega arith))
