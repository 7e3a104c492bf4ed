use Rattle.std.proofs.Common.{◌≡◌, ◌+◌, ◌<◌, ◌≤◌, ℕ, inr, length, ap, sym, subst, ◌∙◌, arith}
use Rattle.enet_deadlines.specs.Moments.{IsAt}
use Rattle.enet_sleepers.specs.Sleeping.{Noted}
use Rattle.enet_sleepers.proofs.Keeping.{wakes-kept, ahead-more}
use Rattle.enet_sleepers.proofs.sleepers.Sleepers.wake_due.Goals as goal

pub loop-from-preserved : goal.loop-from-preserved
loop-from-preserved c =
    let v = c.loop-from.self in
    let place = c.in-Some.place in
    let found = c.in-Some.ensures in
    let free : length v.free ≡ length v.awake = subst (λ (x : Noted). length x.free ≡ length x.awake) c.self.view_is c.self.invariant.free in
    let due : length v.due ≡ length v.awake = subst (λ (x : Noted). length x.due ≡ length x.awake) c.self.view_is c.self.invariant.due in
    let within : place < length v.due = subst (λ (x : Noted). place < length x.due) c.self.view_is found.1 in
    let inside : place < length v.awake = omega (arith, within, due) in
    let between = subst (λ (x : Noted). (i : ℕ) → c.loop-from.from ≤ i → i < place → (d : ℕ) → IsAt x.due i d → c.args.moment < d) c.self.view_is found.3 in
    record {
      kept = λ now slots k. wakes-kept now place v c.rise.new.self slots free due (inr (inside, c.rise.ensures)) (c.loop-from.invariant.kept now slots k);
      ahead = subst (λ (x : Noted). (i d : ℕ) → i < place + 1 → IsAt x.due i d → c.args.moment < d) (sym c.rise.ensures)
          (ahead-more place c.loop-from.from c.args.moment v within c.loop-from.invariant.ahead between);
      clock = ap (λ (x : Noted). x.clock) c.rise.ensures ∙ c.loop-from.invariant.clock;
    }
