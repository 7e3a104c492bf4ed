use Rattle.std.proofs.Common.{◌≡◌, ◌+◌, ◌%◌, ◌^◌, ◌<◌, ℕ, false, Some, Option, List, length, sym, ap, subst, ◌∙◌, arith}
use Rattle.std.proofs.lemmas.List.{length-set}
use Rattle.slab.specs.Slab.{get}
use Rattle.enet_deadlines.specs.Moments.{IsAt}
use Rattle.enet_sender.specs.declared.sent.Sent.{Sent}
use Rattle.enet_sender.specs.Foretold.{IsForetold}
use Rattle.enet_sender.proofs.Foretelling.{foretold-later, renewed-each, renewed-only, renewed-none}
use Rattle.enet_sender.proofs.lateness.advance.Goals.{in-Some, in_default}
use Rattle.enet_sender.proofs.lateness.advance.Goals as goal

pub returns-then-next-lt-FAR-clause-kept : goal.returns-then-next-lt-FAR-clause-kept
returns-then-next-lt-FAR-clause-kept c =
    let later = c.moment_at-next.ensures.later in
    record {
      begun = omega (arith, c.requires.begun);
      small = c.if-next-lt-FAR.true;
      few = c.requires.few;
      inside = c.requires.inside;
      foretold = foretold-later c.args.clock c.moment_at-next.result (get c.args.slab.now) c.args.deadlines.now later c.requires.foretold;
    }

pub loop-key-preserved : goal.loop-key-preserved
loop-key-preserved c =
    let at = get c.args.slab.now in
    let moments = c.loop-key.deadlines in
    let key = c.loop-key.key in
    let now = c.args.now in
    let anew = 4294967296 + c.from-anew.result in
    let inv = c.loop-key.invariant in
    let shown : anew % 2 ^ 32 ≡ now = omega (arith, c.from-anew.ensures, c.ranges.now.fits) in
    let inside : key < length moments = omega (arith, c.loop-key-test.true, inv.end, inv.len) in
    elim c.match-moment_under.branch [
      | in-Some w ↦
          let moment = w.in-Some.moment in
          let is = w.deadlines-is ∙ w.set.ensures in
          let l = w.in-Some.ensures.some in
          record {
            len = ap (λ (ms : List (Option ℕ)). length ms) is ∙ length-set moments key (Some moment) ∙ inv.len;
            end = inv.end;
            only = subst (λ (ms : List (Option ℕ)). (k m : ℕ) → IsAt ms k m → (p : Sent) × ((at k ≡ Some p) × (p.transmission.due ≡ false))) (sym is)
                (renewed-only anew now key moment at moments l inv.only);
            each = subst (λ (ms : List (Option ℕ)). (k : ℕ) (p : Sent) → k < key + 1 → at k ≡ Some p → p.transmission.due ≡ false → IsForetold anew ms k p) (sym is)
                (renewed-each anew now key moment at moments shown (omega arith) inside l inv.each);
          }
      | in_default w ↦ record {
        len = ap (λ (ms : List (Option ℕ)). length ms) w.deadlines-is ∙ inv.len;
        end = inv.end;
        only = subst (λ (ms : List (Option ℕ)). (k m : ℕ) → IsAt ms k m → (p : Sent) × ((at k ≡ Some p) × (p.transmission.due ≡ false))) (sym w.deadlines-is) inv.only;
        each = subst (λ (ms : List (Option ℕ)). (k : ℕ) (p : Sent) → k < key + 1 → at k ≡ Some p → p.transmission.due ≡ false → IsForetold anew ms k p) (sym w.deadlines-is)
            (renewed-none anew key at moments w.in_default.ensures.none inv.each);
      }
    ]
