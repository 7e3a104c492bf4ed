use Rattle.std.proofs.Common.{◌≡◌, ◌<◌, ◌+◌, ◌%◌, ◌^◌, ◌≤◌, ◌⊎◌, ℕ, Option, None, Some, List, inl, inr, length, slice_get, slice_set, sym, ap, subst, ◌∙◌, arith}
use Rattle.std.proofs.lemmas.List.{length-set}
use Rattle.std.proofs.lemmas.Option.{slice_get_within, slice_get-get_or}
use Rattle.enet_peer.specs.Peering.{Peering}
use Rattle.enet_slot.specs.Giving.{unused_slot}
use Rattle.enet_slot.specs.Slot.{SlotState}
use Rattle.enet_slot.specs.Slotted.{all_shown}
use Rattle.enet_slot.proofs.Shown.{length-shown}
use Rattle.enet_sleepers.specs.Unproved.{Waiting}
use Rattle.enet_sleepers.proofs.Anew.{anew-kept, none-noted}
use Rattle.enet_sleepers.proofs.Making.{noted-more}
use Rattle.enet_sleepers.proofs.unproved.Unproved.note_all.Goals as goal

pub loop-number-preserved : goal.loop-number-preserved
loop-number-preserved c =
    let inv = c.loop-number.invariant in
    let slots = c.args.slots.now in
    let n = c.loop-number.number in
    let inside : n < length slots = omega (arith, c.loop-number-test.true, inv.end) in
    let more = noted-more c.args.now n c.loop-number.self c.note_made.new.self (all_shown slots) (omega (arith, inside, length-shown slots)) (omega (arith, inside, inv.count)) c.note_made.ensures.anew c.note_made.ensures.low inv.noted inv.low in
    record {
      count = more.count ∙ inv.count;
      clock = more.clock ∙ inv.clock;
      noted = more.noted;
      low = more.low;
      end = inv.end;
    }

pub returns : goal.returns
returns c = λ generations.
    let inv = c.loop-number.invariant in
    let slots = c.args.slots.now in
    let v = c.loop-number.self in
    let past : length slots ≤ c.loop-number.number = omega (arith, c.loop-number-test.false, inv.end) in
    let clock : v.clock ≡ 4294967296 + c.args.now = inv.clock in
    anew-kept c.args.now generations v (all_shown slots) (inv.count ∙ sym (length-shown slots)) (omega (arith, clock)) (omega (arith, clock))
    (λ i s low there. inv.noted i s (let h = length-shown slots in omega (arith, low, past, h)) there)
    (λ i s p there held. inv.low i s p (let w = slice_get_within (all_shown slots) i s there in let h = length-shown slots in omega (arith, w, past, h)) there held)
