use Rattle.std.proofs.Common.{◌≡◌, ◌+◌, ◌%◌, ◌^◌, ◌<◌, ℕ, Some, Option, List, length, slice_set, ap, sym, subst, ◌∙◌, arith}
use Rattle.enet_deadlines.specs.Clock.{HappensAt}
use Rattle.enet_deadlines.specs.Sets.{IsOut}
use Rattle.enet_rtt.specs.Clock.{HappensIn}
use Rattle.enet_slot.specs.Slot.{is_due}
use Rattle.enet_slot.specs.Slotted.{shown, all_shown}
use Rattle.enet_slot.proofs.Shown.{get-shown, length-shown}
use Rattle.enet_sleepers.specs.Sleeping.{Noted, KeepsSleepers}
use Rattle.enet_sleepers.specs.contracts.sleepers.Sleepers.{the_view}
use Rattle.enet_sleepers.proofs.Keeping.{keeps-on}
use Rattle.enet_sleepers.proofs.sleepers.Sleepers.sleeps_on.Goals as goal

pub returns-clause-slept : goal.returns-clause-slept
returns-clause-slept c is =
    let now = c.args.now in
    let v = c.args.self.now in
    let u = the_view c.self.inside in
    let n = c.args.number in
    let slots = c.args.slots.now in
    let all = all_shown slots in
    let s = shown c.index-slots-number.result in
    let there = get-shown slots n c.index-slots-number.result c.requires.within c.index-slots-number.is in
    let wait = c.due_in-wait.result in
    let moment = u.clock + c.from.result in
    let inside : n < length v.awake = omega (arith, c.requires.within, c.requires.others.count, length-shown slots) in
    let sizes : length v.due ≡ length v.awake = subst (λ (x : Noted). length x.due ≡ length x.awake) c.self.view_is c.self.invariant.due in
    let unlisted : IsOut v.free n = subst (λ (x : Noted). IsOut x.free n) c.self.view_is (sym c.contains.ensures ∙ c.if-contains.false) in
    let clock : u.clock ≡ v.clock = ap (λ (x : Noted). x.clock) c.self.view_is in
    let due : HappensIn (λ (later : ℕ). is_due later s) (v.clock % 2 ^ 32) wait = subst (λ (t : ℕ). HappensIn (λ (later : ℕ). is_due later s) t wait) (sym c.requires.others.shown) c.due_in-wait.ensures in
    let low : wait < 2 ^ 32 = c.due_in-wait.type_inv in
    let reach : v.clock + wait ≡ moment = omega (arith, clock, c.from.ensures) in
    let happens = subst (λ (t : ℕ). HappensAt (λ (later : ℕ). is_due later s) v.clock t) reach (c.moments_are_right.ensures.noted (λ (later : ℕ). is_due later s) v.clock wait low due) in
    let k = keeps-on now n moment v all s inside sizes there (c.only_waits.ensures c.if-not-only_waits.false) (sym c.is_vacant.ensures ∙ c.if-is_vacant.false) c.requires.asleep unlisted
    (omega (arith, reach, c.if-wait-eq0.false)) (omega (arith, reach, low, c.if-wait.false)) happens c.requires.others in
    let j = subst (λ (x : Noted). KeepsSleepers now (record x { due = slice_set x.due n (Some moment) }) all) (sym c.self.view_is) k in
    subst (λ (d : List (Option ℕ)). KeepsSleepers now (record u { due = d }) all) (sym c.set.ensures) j
