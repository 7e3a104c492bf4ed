use Rattle.std.proofs.Common.{arith, ◌∙◌}
use Rattle.enet_sender.proofs.Trimming.{trims-one, trims-then}
use Rattle.enet_sender.proofs.ring.trim.Goals as goal

pub loop-sent-preserved : goal.loop-sent-preserved
loop-sent-preserved c = record {
  trims = λ at. trims-then at _ _ _ _ _ _ (c.loop-sent.invariant.trims at)
      (trims-one at c.loop-sent.sent.items _ c.loop-sent.due_from _ (c.begins_vacant.ensures.some c.loop-sent-test.true) c.pop_front.ensures.rest c.saturating_sub.ensures);
  len = omega (arith, c.pop_front.ensures.len, c.loop-sent.invariant.len);
  capacity = c.pop_front.ensures.capacity ∙ c.loop-sent.invariant.capacity;
}
