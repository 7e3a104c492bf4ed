use Rattle.std.proofs.Common.{◌≡◌, ◌<◌, inr, length, ap, subst, arith}
use Rattle.enet_sleepers.specs.Sleeping.{Noted}
use Rattle.enet_sleepers.proofs.Keeping.{wakes-kept}
use Rattle.enet_sleepers.proofs.sleepers.Sleepers.wake.Goals as goal

pub returns-then-not-contains-clause-kept : goal.returns-then-not-contains-clause-kept
returns-then-not-contains-clause-kept c = λ now slots k.
    let v = c.args.self.now in
    let free : length v.free ≡ length v.awake = subst (λ (x : Noted). length x.free ≡ length x.awake) c.self.view_is c.self.invariant.free in
    let due : length v.due ≡ length v.awake = subst (λ (x : Noted). length x.due ≡ length x.awake) c.self.view_is c.self.invariant.due in
    let inside : c.args.number < length v.awake = omega (arith, c.if-number-len.true, c.len.ensures, ap (λ (x : Noted). length x.awake) c.self.view_is) in
    wakes-kept now c.args.number v c.rise.new.self slots free due (inr (inside, c.rise.ensures)) k
