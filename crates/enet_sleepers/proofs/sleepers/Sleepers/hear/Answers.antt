use Rattle.std.proofs.Common.{◌≡◌, ◌<◌, length, ap, sym, subst, ◌∙◌, arith}
use Rattle.enet_slot.proofs.Shown.{length-shown}
use Rattle.enet_slot.specs.Slotted.{all_shown}
use Rattle.enet_sleepers.specs.Sleeping.{Noted, KeepsSleepers, woken}
use Rattle.enet_sleepers.proofs.Keeping.{keeps-risen}
use Rattle.enet_sleepers.proofs.sleepers.Sleepers.hear.Goals as goal

pub returns-then-not-sleeps_on : goal.returns-then-not-sleeps_on
returns-then-not-sleeps_on c =
    let v = c.args.self.now in
    let n = c.args.number in
    let slots = c.args.slots.now in
    let all = all_shown slots in
    let free : length v.free ≡ length v.awake = subst (λ (x : Noted). length x.free ≡ length x.awake) c.self.view_is c.self.invariant.free in
    let due : length v.due ≡ length v.awake = subst (λ (x : Noted). length x.due ≡ length x.awake) c.self.view_is c.self.invariant.due in
    let inside : n < length v.awake = omega (arith, c.requires.within, c.requires.others.count, length-shown slots) in
    subst (λ (x : Noted). KeepsSleepers c.args.now x all) (sym (c.rise.ensures ∙ ap (λ (x : Noted). woken x n) (c.sleeps_on.ensures.same c.if-not-sleeps_on.true)))
    (keeps-risen c.args.now n v all inside free due c.requires.others)
