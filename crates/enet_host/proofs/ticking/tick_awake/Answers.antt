use Rattle.std.proofs.Common.{◌≡◌, ◌<◌, ◌≤◌, Bool, length, ap, ◌∙◌, arith}
use Rattle.std.proofs.lemmas.List.{length-set}
use Rattle.enet_slot.specs.Slotted.{shown, all_shown}
use Rattle.enet_slot.proofs.Shown.{length-shown}
use Rattle.enet_host.specs.Crediting.{is_short_at}
use Rattle.enet_host.proofs.Bringing.{moved-past, keeps-moved}
use Rattle.enet_host.proofs.Moving.{slot_moved, moved-more, moved-done}
use Rattle.enet_host.proofs.Sleeping.{awake-inside}
use Rattle.enet_host.proofs.ticking.tick_awake.Goals as goal

pub loop-from-preserved : goal.loop-from-preserved
loop-from-preserved c =
    let now = c.args.now in
    let v = c.args.sleepers.now in
    let credits = c.args.credits.now in
    let slots = c.args.slots.now.items in
    let all = all_shown slots in
    let xs = c.loop-from.slots.items in
    let number = c.in-Some.number in
    let found = c.in-Some.ensures in
    let len = length-shown slots in
    let count = c.loop-from.invariant.count in
    let inside : number < length slots = omega (arith, awake-inside now number v all c.requires found.1, len) in
    let so_far = c.loop-from.invariant.items ∙ moved-past now credits c.loop-from.from number v all c.requires found.2 found.0 in
    let left : shown c.tick.new.self ≡ slot_moved now (is_short_at credits number) (shown c.index_mut.result.now) =
    c.tick.ensures ∙ ap (λ (short : Bool). slot_moved now short (shown c.index_mut.result.now)) c.is_short_at.ensures in
    record {
      items = moved-more now (is_short_at credits) slots xs number c.index_mut.result.now c.tick.new.self inside (omega (arith, inside, count)) so_far c.index_mut.ensures.value left;
      count = length-set xs number c.tick.new.self ∙ count;
    }

pub returns-in_default-clause-slots : goal.returns-in_default-clause-slots
returns-in_default-clause-slots c =
    let slots = c.args.slots.now.items in
    let all = all_shown slots in
    let n = length slots in
    let to : c.loop-from.from ≤ n = omega (arith, c.loop-from-test.true, c.len.ensures, c.loop-from.invariant.count) in
    let rest = moved-past c.args.now c.args.credits.now c.loop-from.from n c.args.sleepers.now all c.requires (λ i past less. c.in_default.ensures i past) to in
    moved-done c.args.now (is_short_at c.args.credits.now) slots c.loop-from.slots.items n (omega arith) (c.loop-from.invariant.items ∙ rest)

pub returns-in_default-clause-sleepers : goal.returns-in_default-clause-sleepers
returns-in_default-clause-sleepers c =
    keeps-moved c.args.now c.args.credits.now c.args.sleepers.now (all_shown c.args.slots.now.items) (all_shown c.loop-from.slots.items) c.requires (returns-in_default-clause-slots c)

pub returns-clause-sleepers : goal.returns-clause-sleepers
returns-clause-sleepers c =
    let slots = c.args.slots.now.items in
    let past : length slots ≤ c.loop-from.from = omega (arith, c.loop-from-test.false, c.len.ensures, c.loop-from.invariant.count) in
    keeps-moved c.args.now c.args.credits.now c.args.sleepers.now (all_shown slots) (all_shown c.loop-from.slots.items) c.requires
    (moved-done c.args.now (is_short_at c.args.credits.now) slots c.loop-from.slots.items c.loop-from.from past c.loop-from.invariant.items)
