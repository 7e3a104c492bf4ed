use Rattle.std.proofs.Common.{◌≡◌, ◌-◌, ◌<◌, ◌≤◌, ℕ, None, length, ap, subst, arith}
use Rattle.enet_deadlines.specs.Moments.{IsAt}
use Rattle.enet_deadlines.specs.Sets.{IsOut}
use Rattle.std.proofs.Common.{get_or}
use Rattle.enet_sleepers.specs.Sleeping.{Noted}
use Rattle.enet_sleepers.specs.Private.Soon.{KnowsDue}
use Rattle.enet_sleepers.proofs.Dueness.{knows-none, knows-late, knows-least}
use Rattle.enet_sleepers.proofs.sleepers.Sleepers.sleepers_due_in.Goals as goal

pub returns-in_default : goal.returns-in_default
returns-in_default c = λ now slots k.
    knows-none now c.args.self.now slots (subst (λ (v : Noted). (j : ℕ) → get_or v.due j None ≡ None) c.self.view_is c.in_default.ensures) k

pub returns-then-wait-from : goal.returns-then-wait-from
returns-then-wait-from c = λ now slots k.
    let moment = c.in-Some.moment in
    let lowest = subst (λ (v : Noted). (j due : ℕ) → IsAt v.due j due → moment ≤ due) c.self.view_is c.in-Some.ensures.1 in
    let clock = ap (λ (v : Noted). v.clock) c.self.view_is in
    let late : 1000 < moment - c.args.self.now.clock = omega (arith, c.if-wait-from.true, c.from.ensures, c.saturating_sub-wait.ensures, clock) in
    knows-late now moment c.args.self.now slots c.moments_are_right.ensures.told lowest late k

pub returns-else-wait-from : goal.returns-else-wait-from
returns-else-wait-from c = λ now slots k.
    let v = c.args.self.now in
    let moment = c.in-Some.moment in
    let lowest = subst (λ (w : Noted). (j due : ℕ) → IsAt w.due j due → moment ≤ due) c.self.view_is c.in-Some.ensures.1 in
    let place = subst (λ (w : Noted). (j : ℕ) × IsAt w.due j moment) c.self.view_is c.in-Some.ensures.0 in
    let size : length v.due ≡ length v.awake = subst (λ (w : Noted). length w.due ≡ length w.awake) c.self.view_is c.self.invariant.due in
    let clock = ap (λ (w : Noted). w.clock) c.self.view_is in
    let is : moment - v.clock ≡ c.saturating_sub-wait.result = omega (arith, c.saturating_sub-wait.ensures, clock) in
    let soon : moment - v.clock ≤ 1000 = omega (arith, is, c.if-wait-from.false, c.from.ensures) in
    subst (λ (n : ℕ). KnowsDue now slots (λ i. IsOut v.awake i) n) is (knows-least now moment v slots c.moments_are_right.ensures.told size place lowest soon k)
