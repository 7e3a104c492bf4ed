use Rattle.std.proofs.Common.{◌≡◌, ◌+◌, ◌%◌, ◌^◌, ◌<◌, ℕ, Bool, false, Option, List, length, slice_get, slice_set, sym, subst, ◌∙◌, arith}
use Rattle.enet_deadlines.specs.Clock.{HappensAt}
use Rattle.enet_deadlines.specs.Sets.{IsIn}
use Rattle.enet_rtt.specs.Clock.{HappensIn}
use Rattle.enet_slot.specs.Slot.{SlotState, is_due}
use Rattle.enet_slot.specs.Slotted.{shown, all_shown}
use Rattle.enet_slot.specs.Waiting.{Waits}
use Rattle.enet_slot.proofs.Shown.{get-shown, length-shown}
use Rattle.enet_sleepers.specs.Sleeping.{Noted, KeepsSleepers}
use Rattle.enet_sleepers.specs.contracts.sleepers.Sleepers.{the_view}
use Rattle.enet_sleepers.proofs.Keeping.{some-same, in-inside, vacant-none, keeps-free, keeps-held}
use Rattle.enet_sleepers.proofs.sleepers.Sleepers.look_at.Goals as goal

pub returns-then-is_vacant : goal.returns-then-is_vacant
returns-then-is_vacant c =
    let now = c.args.now in
    let v = the_view c.self.inside in
    let n = c.args.number in
    let slots = c.args.slots.now in
    let all = all_shown slots in
    let slot = c.index-slots-number.result in
    let size = in-inside c.args.self.now.awake n c.requires.awake in
    let within : n < length slots = omega (arith, size, c.requires.kept.count, length-shown slots) in
    let there = get-shown slots n slot within c.index-slots-number.is in
    let inside : n < length v.awake = subst (λ (x : Noted). n < length x.awake) (sym c.self.view_is) size in
    let awake = subst (λ (x : Noted). IsIn x.awake n) (sym c.self.view_is) c.requires.awake in
    let kept = subst (λ (x : Noted). KeepsSleepers now x all) (sym c.self.view_is) c.requires.kept in
    let k = keeps-free now n v all (shown slot) inside c.self.invariant.free there (vacant-none (shown slot).peer (sym c.is_vacant.ensures ∙ c.if-is_vacant.true)) awake kept in
    subst (λ (a : List Bool). KeepsSleepers now (record v { awake = a; free = c.insert.new.self }) all) (sym c.remove.ensures)
    (subst (λ (f : List Bool). KeepsSleepers now (record v { awake = slice_set v.awake n false; free = f }) all) (sym c.insert.ensures) k)

pub returns-then-wait-lt4294967295 : goal.returns-then-wait-lt4294967295
returns-then-wait-lt4294967295 c =
    let now = c.args.now in
    let v = the_view c.self.inside in
    let n = c.args.number in
    let slots = c.args.slots.now in
    let all = all_shown slots in
    let wait = c.due_in-wait.result in
    let moment = v.clock + c.from.result in
    let size = in-inside c.args.self.now.awake n c.requires.awake in
    let within : n < length slots = omega (arith, size, c.requires.kept.count, length-shown slots) in
    let inside : n < length v.awake = subst (λ (x : Noted). n < length x.awake) (sym c.self.view_is) size in
    let awake = subst (λ (x : Noted). IsIn x.awake n) (sym c.self.view_is) c.requires.awake in
    let kept = subst (λ (x : Noted). KeepsSleepers now x all) (sym c.self.view_is) c.requires.kept in
    let s = shown c.index-slots-number.result in
    let there = get-shown slots n c.index-slots-number.result within c.index-slots-number.is in
    let second = some-same (slice_get all n) (shown c.index-slots-number-2.result) s (get-shown slots n c.index-slots-number-2.result within c.index-slots-number-2.is) there in
    let third = some-same (slice_get all n) (shown c.index-slots-number-3.result) s (get-shown slots n c.index-slots-number-3.result within c.index-slots-number-3.is) there in
    let waits : Waits s = subst Waits second (c.only_waits.ensures c.if-not-only_waits.false) in
    let due : HappensIn (λ (later : ℕ). is_due later s) (v.clock % 2 ^ 32) wait =
    subst (λ (t : ℕ). HappensIn (λ (later : ℕ). is_due later s) t wait) (sym kept.shown)
    (subst (λ (x : SlotState). HappensIn (λ (later : ℕ). is_due later x) now wait) third c.due_in-wait.ensures) in
    let low : wait < 2 ^ 32 = omega (arith, c.if-wait-lt4294967295.true) in
    let reach : v.clock + wait ≡ moment = omega (arith, c.from.ensures) in
    let happens = subst (λ (t : ℕ). HappensAt (λ (later : ℕ). is_due later s) v.clock t) reach (c.moments_are_right.ensures.noted (λ (later : ℕ). is_due later s) v.clock wait low due) in
    let k = keeps-held now n moment v all s inside c.self.invariant.due there waits (sym c.is_vacant.ensures ∙ c.if-is_vacant.false) awake
    (omega (arith, reach, c.if-wait-gt0.true)) (omega (arith, reach, c.if-wait-lt4294967295.true)) happens kept in
    subst (λ (a : List Bool). KeepsSleepers now (record v { awake = a; due = c.set.new.self }) all) (sym c.remove-then-wait-lt4294967295.ensures)
    (subst (λ (d : List (Option ℕ)). KeepsSleepers now (record v { awake = slice_set v.awake n false; due = d }) all) (sym c.set.ensures) k)
