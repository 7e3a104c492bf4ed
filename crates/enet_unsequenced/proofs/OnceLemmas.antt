-- Each group is dispatched at most once.
use Rattle.std.proofs.Common.{◌≡◌, ◌≢◌, ℕ, ◌+◌, ◌%◌, ◌<◌, ◌≤◌, Bool, true, false, ◌||◌, not, ◌==◌, List, [], ◌∷◌, suc, refl, sym, ap, ◌∙◌, arith, eq-eqb}
use Rattle.std.specs.Prelude.{nat_lt, if◌then◌else◌}
use Rattle.std.proofs.lemmas.Bool.Decides.{nat_tests}
use Rattle.std.proofs.lemmas.Bool.{and_parts}
use Rattle.std.proofs.lemmas.List.Elements.{All-nil, All-cons}
use Rattle.std.proofs.lemmas.List.Kept.{AllPairs-cons}
use Rattle.std.specs.List.{All, AllPairs}
use Rattle.std.specs.FinSet.{contains, empty}
use Rattle.enet_unsequenced.specs.Groups.{Seen, nothing_seen, block_of, past_base, dispatches, mark, dispatched}
use Rattle.enet_unsequenced.proofs.MarksLemmas.{contains-inserted}

-- what a receiver remembers, where its base counted without bound is `base`, and the groups that are still to
-- come: none lies over 32,768 below the base, or below one that comes before it
record Stands (base : ℕ) (seen : Seen) (groups : List ℕ) : Type 0 where
  wire : seen.base ≡ base % 65536
  whole : base % 1024 ≡ 0
  above : All (λ later. base ≤ later + 32768) groups
  in_time : AllPairs (λ earlier later. earlier ≤ later + 32768) groups

-- a group that is dispatched isn't below the base
is_ahead : (base group : ℕ) → base ≤ group + 32768 → nat_lt (past_base (base % 65536) (group % 65536)) 32768 ≡ true → base ≤ group
is_ahead base group in_time near = grind (arith, nat_tests)

-- of a group that is dispatched: where it lies, and that it isn't marked
tested : (base : ℕ) (seen : Seen) (next : ℕ) (groups : List ℕ) → Stands base seen (next ∷ groups) → dispatches seen (next % 65536) ≡ true → (base ≤ next) × (contains seen.marks (next % 65536) ≡ false)
tested base seen next groups s hit =
    let both = and_parts (nat_lt (past_base seen.base (next % 65536)) 32768) (not (contains seen.marks (next % 65536))) hit in
    (is_ahead base next (s.above 0 0 (omega arith)) (ap (λ b. nat_lt (past_base b (next % 65536)) 32768) (sym s.wire) ∙ both.0), is_false (contains seen.marks (next % 65536)) both.1)
  where
    is_false : (b : Bool) → not b ≡ true → b ≡ false
    is_false true h = absurd (cc)
    is_false false h = refl

-- after a group that was dropped, and after one that was dispatched
dropped : (base : ℕ) (seen : Seen) (next : ℕ) (groups : List ℕ) → Stands base seen (next ∷ groups) → Stands base seen groups
dropped base seen next groups s = record {
  wire = s.wire;
  whole = s.whole;
  above = λ k d low. s.above (suc k) d (omega arith);
  in_time = λ i j d low within. s.in_time (suc i) (suc j) d (omega arith) (omega arith);
}

moved : (base : ℕ) (seen : Seen) (next : ℕ) (groups : List ℕ) → Stands base seen (next ∷ groups) → Stands (block_of next) (mark seen (next % 65536)) groups
moved base seen next groups s = record {
  wire = omega arith;
  whole = omega arith;
  above = λ k d low. (let below = s.in_time 0 (suc k) d (omega arith) (omega arith) in omega arith);
  in_time = λ i j d low within. s.in_time (suc i) (suc j) d (omega arith) (omega arith);
}

-- a group that was dispatched lies below the end of the base's block, and is marked where it isn't below the base
record IsPast (group base : ℕ) (seen : Seen) : Type 0 where
  low : group < base + 1024
  marked : base ≤ group → contains seen.marks (group % 65536) ≡ true

past_itself : (seen : Seen) (group : ℕ) → IsPast group (block_of group) (mark seen (group % 65536))
past_itself seen group = record {
  low = omega arith;
  marked = λ _. contains-inserted _ (group % 65536) (group % 65536) ∙ one _ _ (eq-eqb (group % 65536) (group % 65536) refl);
}
  where
    one : (a b : Bool) → a ≡ true → (a || b) ≡ true
    one true b h = refl
    one false b h = absurd (cc)

past_later : (group base : ℕ) (seen : Seen) (next : ℕ) (groups : List ℕ) → Stands base seen (next ∷ groups) → base ≤ next → IsPast group base seen → IsPast group (block_of next) (mark seen (next % 65536))
past_later group base seen next groups s ahead p = record {
  low = (let l = p.low in let w = s.whole in omega arith);
  marked = λ up.
      (let l = p.low in
      let w = s.whole in
      let wire = s.wire in
      let same : block_of (next % 65536) ≡ seen.base = omega arith in
      let there : contains (if block_of (next % 65536) == seen.base then seen.marks else empty) (group % 65536) ≡ true =
      ap (λ b. contains (if b then seen.marks else empty) (group % 65536)) (eq-eqb _ _ same) ∙ p.marked (omega arith) in
      contains-inserted _ (next % 65536) (group % 65536) ∙ ap (λ b. (group % 65536 == next % 65536) || b) there ∙ or-true (group % 65536 == next % 65536));
}
  where
    or-true : (b : Bool) → (b || true) ≡ true
    or-true true = refl
    or-true false = refl

-- it is never dispatched again
never_again : (group base : ℕ) (seen : Seen) (groups : List ℕ) → Stands base seen groups → IsPast group base seen → All (λ later. group ≢ later) (dispatched seen groups)
never_again group base seen [] s p = All-nil (λ later. group ≢ later)
never_again group base seen (next ∷ groups) s p =
    go (dispatches seen (next % 65536)) refl
    (λ ahead. never_again group (block_of next) (mark seen (next % 65536)) groups (moved base seen next groups s) (past_later group base seen next groups s ahead p))
    (never_again group base seen groups (dropped base seen next groups s) p)
  where
    go : (b : Bool) → dispatches seen (next % 65536) ≡ b
        → (base ≤ next → All (λ later. group ≢ later) (dispatched (mark seen (next % 65536)) groups))
        → All (λ later. group ≢ later) (dispatched seen groups)
        → All (λ later. group ≢ later) (if b then next ∷ dispatched (mark seen (next % 65536)) groups else dispatched seen groups)
    go true hit further rest =
        let t = tested base seen next groups s hit in
        All-cons (λ later. group ≢ later) next _
        (λ same. let up : base ≤ group = (let a = t.0 in omega arith) in let one = p.marked up in let none = t.1 in let e = ap (λ n. contains seen.marks (n % 65536)) same in absurd (cc))
        (further t.0)
    go false no' further rest = rest

once : (base : ℕ) (seen : Seen) (groups : List ℕ) → Stands base seen groups → AllPairs (λ earlier later. earlier ≢ later) (dispatched seen groups)
once base seen [] s = λ i j d low within. absurd (omega arith)
once base seen (next ∷ groups) s =
    go (dispatches seen (next % 65536)) (once (block_of next) (mark seen (next % 65536)) groups (moved base seen next groups s)) (once base seen groups (dropped base seen next groups s))
  where
    go : (b : Bool)
        → AllPairs (λ earlier later. earlier ≢ later) (dispatched (mark seen (next % 65536)) groups)
        → AllPairs (λ earlier later. earlier ≢ later) (dispatched seen groups)
        → AllPairs (λ earlier later. earlier ≢ later) (if b then next ∷ dispatched (mark seen (next % 65536)) groups else dispatched seen groups)
    go true further rest =
        AllPairs-cons (λ earlier later. earlier ≢ later) next _ (never_again next (block_of next) (mark seen (next % 65536)) groups (moved base seen next groups s) (past_itself seen next)) further
    go false further rest = rest

pub each_once : (groups : List ℕ) → AllPairs (λ earlier later. earlier ≤ later + 32768) groups → AllPairs (λ earlier later. earlier ≢ later) (dispatched nothing_seen groups)
each_once groups in_time = once 0 nothing_seen groups (record { wire = refl; whole = refl; above = λ k d low. omega arith; in_time = in_time })
