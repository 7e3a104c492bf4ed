-- Which groups a row of marks holds.
use Rattle.std.proofs.Common.{◌≡◌, ℕ, ◌+◌, ◌-◌, ◌%◌, ◌<◌, Bool, true, false, ◌||◌, ◌==◌, List, [], ◌∷◌, length, get_or, set, zero, suc, refl, sym, ap, ◌∙◌, inl, inr, arith, eq-eqb, ne_eqb, lt-ltb, not, ◌&&◌}
use Rattle.std.proofs.lemmas.Bool.{cases_lt, cases_eq}
use Rattle.std.proofs.lemmas.Bool.Decides.{nat_tests}
use Rattle.std.proofs.lemmas.List.{get_or-set_same, get_or-set_other}
use Rattle.std.proofs.Math.ListN.{get_or-eq_default}
use Rattle.std.specs.List.{All}
use Rattle.std.specs.Ordering.{nat_cmp}
use Rattle.std.specs.Cmp.{nat_cmp_total, unsigned_tied}
use Rattle.std.specs.FinSet.{FinSet, contains, insert, empty, contains-empty, contains-insert, same_set, nat_cmp-IsAntisymmetric}
use Rattle.enet_unsequenced.specs.Marks.{marked_from}
use Rattle.std.specs.Prelude.{if◌then◌else◌}
use Rattle.enet_unsequenced.specs.Groups.{Seen, past_base, block_of, dispatches, mark}

pub contains-inserted : (s : FinSet nat_cmp) (group other : ℕ) → contains (insert s group) other ≡ (other == group || contains s other)
contains-inserted s group other = contains-insert nat_cmp_total s group other ∙ ap (λ b. b || contains s other) (unsigned_tied other group)

-- no group below the first is held
none_below : (first : ℕ) (marks : List Bool) (group : ℕ) → group < first → contains (marked_from first marks) group ≡ false
unfolding marked_from
none_below first [] group low = contains-empty nat_cmp group
none_below first (true ∷ marks) group low =
    contains-inserted (marked_from (first + 1) marks) first group
    ∙ ap (λ b. b || contains (marked_from (first + 1) marks) group) (ne_eqb group first (λ same. absurd (omega arith)))
    ∙ none_below (first + 1) marks group (omega arith)
none_below first (false ∷ marks) group low = none_below (first + 1) marks group (omega arith)

-- the group at a place is held where its mark is set
held_at : (first : ℕ) (marks : List Bool) (place group : ℕ) → group ≡ first + place → contains (marked_from first marks) group ≡ get_or marks place false
unfolding marked_from
held_at first [] place group is = contains-empty nat_cmp group
held_at first (true ∷ marks) zero group is =
    contains-inserted (marked_from (first + 1) marks) first group
    ∙ ap (λ b. b || contains (marked_from (first + 1) marks) group) (eq-eqb group first (omega arith))
held_at first (true ∷ marks) (suc place) group is =
    contains-inserted (marked_from (first + 1) marks) first group
    ∙ ap (λ b. b || contains (marked_from (first + 1) marks) group) (ne_eqb group first (λ same. absurd (omega arith)))
    ∙ held_at (first + 1) marks place group (omega arith)
held_at first (false ∷ marks) zero group is = none_below (first + 1) marks group (omega arith)
held_at first (false ∷ marks) (suc place) group is = held_at (first + 1) marks place group (omega arith)

-- of a block's marks, the one at the distance past the base tells whether a group is held
pub contains-marked_from : (base : ℕ) (marks : List Bool) (group : ℕ) → base < 65536 → base % 1024 ≡ 0 → length marks ≡ 1024 → contains (marked_from base marks) group ≡ get_or marks (past_base base group) false
contains-marked_from base marks group fits whole long = elim (cases_lt group base) [
  | inl below ↦
      let far : past_base base group ≡ group + 65536 - base = grind (arith, nat_tests) in
      none_below base marks group below ∙ sym (get_or-eq_default marks false (omega arith))
  | inr up ↦
      let near : past_base base group ≡ group - base = grind (arith, nat_tests) in
      held_at base marks (past_base base group) group (omega arith)
]

-- where no mark is set, no group is held
pub marked_from-unmarked : (first : ℕ) (marks : List Bool) → All (λ mark. mark ≡ false) marks → marked_from first marks ≡ empty
unfolding marked_from
marked_from-unmarked first [] clear = refl
marked_from-unmarked first (true ∷ marks) clear = absurd (let e : true ≡ false = clear 0 false (omega arith) in cc)
marked_from-unmarked first (false ∷ marks) clear = marked_from-unmarked (first + 1) marks (λ k d low. clear (suc k) d (omega arith))

-- a further mark is a further group
pub marked_from-set : (first : ℕ) (marks : List Bool) (place : ℕ) → place < length marks → marked_from first (set marks place true) ≡ insert (marked_from first marks) (first + place)
marked_from-set first marks place within = same_set nat_cmp_total nat_cmp-IsAntisymmetric _ _ (λ group. elim (cases_lt group first) [
  | inl below ↦
      none_below first (set marks place true) group below
      ∙ sym (contains-inserted (marked_from first marks) (first + place) group
      ∙ ap (λ b. b || contains (marked_from first marks) group) (ne_eqb group (first + place) (λ same. absurd (omega arith)))
      ∙ none_below first marks group below)
  | inr up ↦ at group (group - first) (omega arith)
])
  where
    at : (group k : ℕ) → group ≡ first + k → contains (marked_from first (set marks place true)) group ≡ contains (insert (marked_from first marks) (first + place)) group
    at group k is = elim (cases_eq k place) [
      | inl same ↦
          held_at first (set marks place true) k group is
          ∙ ap (λ n. get_or (set marks place true) n false) same
          ∙ get_or-set_same marks place true false within
          ∙ sym (contains-inserted (marked_from first marks) (first + place) group
          ∙ ap (λ b. b || contains (marked_from first marks) group) (eq-eqb group (first + place) (omega arith)))
      | inr other ↦
          held_at first (set marks place true) k group is
          ∙ get_or-set_other marks place k true false other
          ∙ sym (contains-inserted (marked_from first marks) (first + place) group
          ∙ ap (λ b. b || contains (marked_from first marks) group) (ne_eqb group (first + place) (λ same. other (omega arith)))
          ∙ held_at first marks k group is)
    ]

abbrev pub seen_of : ℕ → FinSet nat_cmp → Seen
seen_of base marks = record { base = base; marks = marks }

distance : (base group : ℕ) → base < 65536 → group < 65536 → past_base base group ≡ (group + (65536 - base)) % 65536
distance base group base_fits group_fits = grind (arith, nat_tests)

-- the mark at a group's distance past the base answers whether the group is dispatched
pub check_is : (base group : ℕ) (marks : List Bool) (seen : Seen) (is_marked : Bool) → base < 65536 → group < 65536 → base % 1024 ≡ 0 → length marks ≡ 1024
    → seen_of base (marked_from base marks) ≡ seen → (group + (65536 - base)) % 65536 < 32768 → is_marked ≡ get_or marks ((group + (65536 - base)) % 65536) false
    → not is_marked ≡ dispatches seen group
check_is base group marks seen is_marked base_fits group_fits whole long view near is =
    let past = distance base group base_fits group_fits in
    let held : contains (marked_from base marks) group ≡ is_marked =
    contains-marked_from base marks group base_fits whole long ∙ ap (λ n. get_or marks n false) past ∙ sym is in
    sym (sym (ap (λ (s : Seen). dispatches s group) view)
    ∙ ap (λ b. b && not (contains (marked_from base marks) group)) (lt-ltb (past_base base group) 32768 (omega arith))
    ∙ ap not held)

-- once a mark is set at a group's place in its block, what is seen is what it was with the group marked
pub mark_is : (base group : ℕ) (marks : List Bool) (seen : Seen) → group % 1024 < length marks → base ≡ group - group % 1024
    → marked_from base marks ≡ (if block_of group == seen.base then seen.marks else empty)
    → seen_of base (marked_from base (set marks (group % 1024) true)) ≡ mark seen group
mark_is base group marks seen within at before =
    let first : base ≡ block_of group = omega arith in
    let one : base + group % 1024 ≡ group = omega arith in
    ap (λ m. seen_of base m) (marked_from-set base marks (group % 1024) within ∙ ap (λ n. insert (marked_from base marks) n) one ∙ ap (λ m. insert m group) before)
    ∙ ap (λ b. seen_of b (insert (if block_of group == seen.base then seen.marks else empty) group)) first
