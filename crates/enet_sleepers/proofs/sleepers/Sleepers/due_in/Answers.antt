use Rattle.std.proofs.Common.{◌+◌, ◌<◌, ◌⊎◌, ℕ, inl, inr, length, sym, subst, arith}
use Rattle.std.proofs.lemmas.Bool.{cases_lt}
use Rattle.enet_deadlines.specs.Sets.{IsOut}
use Rattle.enet_slot.specs.Slot.{is_due}
use Rattle.enet_slot.specs.Slotted.{shown, all_shown}
use Rattle.enet_slot.proofs.Shown.{get-shown, length-shown}
use Rattle.enet_sleepers.specs.Private.Soon.{KnowsDue}
use Rattle.enet_sleepers.proofs.Keeping.{in-inside}
use Rattle.enet_sleepers.proofs.Dueness.{knows-first, knows-more, knows-turn, knows-all}
use Rattle.enet_sleepers.proofs.sleepers.Sleepers.due_in.Goals as goal

pub loop-from-init : goal.loop-from-init
loop-from-init c =
    knows-first c.args.now c.sleepers_due_in-wait.result (all_shown c.args.slots.now) (λ i. IsOut c.args.self.now.awake i) (c.sleepers_due_in-wait.ensures c.args.now (all_shown c.args.slots.now) c.requires)

pub loop-from-preserved : goal.loop-from-preserved
loop-from-preserved c =
    let slots = c.args.slots.now in
    let awake = c.args.self.now.awake in
    let from = c.loop-from.from in
    let number = c.in-Some.number in
    let slot = c.index-slots-number.result in
    let found = c.in-Some.ensures in
    let within : number < length slots = omega (arith, in-inside awake number found.1, c.requires.count, length-shown slots) in
    let there = get-shown slots number slot within c.index-slots-number.is in
    subst (λ (n : ℕ). KnowsDue c.args.now (all_shown slots) (λ i. IsOut awake i ⊎ (i < number + 1)) n) (sym c.min-wait.ensures)
    (knows-more c.args.now (all_shown slots) (λ i. IsOut awake i ⊎ (i < from)) (λ i. IsOut awake i ⊎ (i < number + 1)) number c.loop-from.wait c.foretold.result (shown slot) there
    c.loop-from.invariant (c.foretold.ensures c.args.now (λ (later : ℕ). is_due later (shown slot)) c.due_in.ensures) (λ i inside h. knows-turn from number i awake found.2 h))

pub returns-in_default : goal.returns-in_default
returns-in_default c =
    let awake = c.args.self.now.awake in
    let from = c.loop-from.from in
    knows-all c.args.now c.loop-from.wait (all_shown c.args.slots.now) (λ i. IsOut awake i ⊎ (i < from)) c.loop-from.invariant
    (λ i inside. elim (cases_lt i from) [ inl less ↦ inr less | inr past ↦ inl (c.in_default.ensures i past) ])

pub returns : goal.returns
returns c =
    let awake = c.args.self.now.awake in
    let from = c.loop-from.from in
    knows-all c.args.now c.loop-from.wait (all_shown c.args.slots.now) (λ i. IsOut awake i ⊎ (i < from)) c.loop-from.invariant
    (λ i inside. inr (omega (arith, inside, c.loop-from-test.false, length-shown c.args.slots.now)))
