-- Groups that come in order are all dispatched.
use Rattle.std.proofs.Common.{◌≡◌, ℕ, ◌+◌, ◌%◌, ◌<◌, ◌≤◌, true, false, ◌||◌, not, ◌==◌, List, [], ◌∷◌, length, get_or, suc, refl, sym, ap, subst, ◌∙◌, inl, inr, arith, eq-eqb, ne_eqb, lt-ltb}
use Rattle.std.specs.Prelude.{if◌then◌else◌}
use Rattle.std.proofs.lemmas.Bool.Decides.{nat_tests}
use Rattle.std.proofs.lemmas.Bool.{and_from, cases_eq}
use Rattle.std.specs.List.{AllAdjacentBelow}
use Rattle.std.specs.Ordering.{nat_cmp}
use Rattle.std.specs.FinSet.{contains, empty, contains-empty}
use Rattle.enet_unsequenced.specs.Groups.{Seen, nothing_seen, block_of, past_base, dispatches, mark, dispatched}
use Rattle.enet_unsequenced.proofs.MarksLemmas.{contains-inserted}

-- a receiver whose base counted without bound is `base`, after the group `last`: no group above it is marked
record Follows (base last : ℕ) (seen : Seen) : Type 0 where
  wire : seen.base ≡ base % 65536
  whole : base % 1024 ≡ 0
  low : base ≤ last
  high : last < base + 1024
  unmarked : (later : ℕ) → last < later → later < base + 65536 → contains seen.marks (later % 65536) ≡ false

near : (base next : ℕ) → base ≤ next → next < base + 32768 → past_base (base % 65536) (next % 65536) < 32768
near base next low high = grind (arith, nat_tests)

is_dispatched : (base last : ℕ) (seen : Seen) (next : ℕ) → Follows base last seen → last < next → next ≤ last + 31744 → dispatches seen (next % 65536) ≡ true
is_dispatched base last seen next f above reach =
    let low = f.low in
    let high = f.high in
    and_from _ _
    (lt-ltb _ _ (subst (λ b. past_base b (next % 65536) < 32768) (sym f.wire) (near base next (omega arith) (omega arith))))
    (ap not (f.unmarked next above (omega arith)))

moved : (base last : ℕ) (seen : Seen) (next : ℕ) → Follows base last seen → last < next → next ≤ last + 31744 → Follows (block_of next) next (mark seen (next % 65536))
moved base last seen next f above reach = record {
  wire = omega arith;
  whole = omega arith;
  low = omega arith;
  high = omega arith;
  unmarked = λ later past within.
      contains-inserted _ (next % 65536) (later % 65536)
      ∙ ap (λ b. b || contains (if block_of (next % 65536) == seen.base then seen.marks else empty) (later % 65536)) (ne_eqb (later % 65536) (next % 65536) (λ same. absurd (omega arith)))
      ∙ (elim (cases_eq (block_of (next % 65536)) seen.base) [
        | inl same ↦
            ap (λ b. contains (if b then seen.marks else empty) (later % 65536)) (eq-eqb _ _ same)
            ∙ (let wire = f.wire in let whole = f.whole in let low = f.low in let high = f.high in f.unmarked later (omega arith) (omega arith))
        | inr other ↦
            ap (λ b. contains (if b then seen.marks else empty) (later % 65536)) (ne_eqb _ _ other) ∙ contains-empty nat_cmp (later % 65536)
      ]);
}

all : (base last : ℕ) (seen : Seen) (groups : List ℕ) → Follows base last seen
    → AllAdjacentBelow (λ before next. (before < next) × (next ≤ before + 31744)) (last ∷ groups) (length groups + 1) → dispatched seen groups ≡ groups
all base last seen [] f steps = refl
all base last seen (next ∷ groups) f steps =
    let step = steps 0 0 (omega arith) in
    ap (λ b. if b then next ∷ dispatched (mark seen (next % 65536)) groups else dispatched seen groups) (is_dispatched base last seen next f step.0 step.1)
    ∙ ap (λ (gs : List ℕ). next ∷ gs)
    (all (block_of next) next (mark seen (next % 65536)) groups (moved base last seen next f step.0 step.1)
    (λ k d low.
    let e : suc k + 1 ≡ suc (k + 1) = omega arith in
    subst (λ n. (get_or (next ∷ groups) k d < get_or (last ∷ next ∷ groups) n d) × (get_or (last ∷ next ∷ groups) n d ≤ get_or (next ∷ groups) k d + 31744)) e (steps (suc k) d (omega arith))))

pub all_dispatched : (groups : List ℕ) → AllAdjacentBelow (λ before next. (before < next) × (next ≤ before + 31744)) (0 ∷ groups) (length groups + 1) → dispatched nothing_seen groups ≡ groups
all_dispatched groups steps = all 0 0 nothing_seen groups (record { wire = refl; whole = refl; low = omega arith; high = omega arith; unmarked = λ later past within. contains-empty nat_cmp (later % 65536) }) steps
