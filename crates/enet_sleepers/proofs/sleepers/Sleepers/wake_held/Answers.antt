use Rattle.std.proofs.Common.{◌+◌, ◌<◌, ℕ, length, ap, sym, subst, ◌∙◌, arith}
use Rattle.enet_deadlines.specs.Sets.{IsIn, IsOut}
use Rattle.enet_sleepers.specs.Sleeping.{Noted, KeepsSleepers}
use Rattle.enet_sleepers.proofs.Keeping.{held-here, held-more, wakes-count}
use Rattle.enet_sleepers.proofs.sleepers.Sleepers.wake_held.Goals.{then-not-contains, else-not-contains}
use Rattle.enet_sleepers.proofs.sleepers.Sleepers.wake_held.Goals as goal

pub loop-number-preserved : goal.loop-number-preserved
loop-number-preserved c =
    let v = c.loop-number.self in
    let n = c.loop-number.number in
    let inv = c.loop-number.invariant in
    let inside : n < length v.awake = omega (arith, c.loop-number-test.true, inv.end, inv.count) in
    elim c.if-not-contains.branch [
      | then-not-contains w ↦
          record {
            kept = λ now slots k. subst (λ (x : Noted). KeepsSleepers now x slots) (sym w.self-is) (w.wake.ensures.kept now slots (inv.kept now slots k));
            free = subst (λ (x : Noted). (i : ℕ) → i < n + 1 → IsOut x.awake i → IsIn x.free i) (sym w.self-is) (held-more n v w.wake.new.self inside w.wake.ensures.wakes inv.free);
            count = ap (λ (x : Noted). length x.awake) w.self-is ∙ wakes-count n v w.wake.new.self w.wake.ensures.wakes ∙ inv.count;
            end = inv.end;
          }
      | else-not-contains w ↦
          let there : IsIn v.free n = subst (λ (x : Noted). IsIn x.free n) c.self-in-loop-number.view_is (sym c.contains.ensures ∙ w.if-not-contains.false) in
          record {
            kept = λ now slots k. subst (λ (x : Noted). KeepsSleepers now x slots) (sym w.self-is) (inv.kept now slots k);
            free = subst (λ (x : Noted). (i : ℕ) → i < n + 1 → IsOut x.awake i → IsIn x.free i) (sym w.self-is) (held-here n v there inv.free);
            count = ap (λ (x : Noted). length x.awake) w.self-is ∙ inv.count;
            end = inv.end;
          }
    ]
