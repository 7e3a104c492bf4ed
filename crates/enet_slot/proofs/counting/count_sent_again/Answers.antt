use Rattle.std.proofs.Common.{ℕ, List, take, sym, ap, ◌∙◌}
use Rattle.std.proofs.lemmas.List.{take_all}
use Rattle.enet_sender.specs.Counting.{added}
use Rattle.enet_sender.proofs.Tallies.{added-more}
use Rattle.enet_slot.specs.declared.slot.Slot.{Slot}
use Rattle.enet_slot.specs.Counting.{count_at, count_sent_again}
use Rattle.enet_slot.specs.Slotted.{shown, all_shown}
use Rattle.enet_slot.proofs.Tallies.{sum-shown-more}
use Rattle.enet_slot.proofs.counting.count_sent_again.Goals as goal

pub loop-slot-preserved : goal.loop-slot-preserved
loop-slot-preserved c =
    let slots = c.args.slots.now in
    let here = count_at (shown c.slot-item.result) in
    let more = sum-shown-more count_at slots c.loop-slot.slot-index c.slot-item.result c.loop-slot-test.true c.slot-item.is in
    record {
      counted = c.count_sent_again-total.ensures
          ∙ ap (λ (n : ℕ). added n here) c.loop-slot.invariant.counted
          ∙ added-more 0 (count_sent_again (all_shown (take c.loop-slot.slot-index slots))) here
          ∙ ap (added 0) (sym more);
    }

pub returns : goal.returns
returns c = c.loop-slot.invariant.counted ∙ ap (λ (xs : List Slot). added 0 (count_sent_again (all_shown xs))) (take_all c.loop-slot.slot-index c.args.slots.now c.loop-slot-test.false)
