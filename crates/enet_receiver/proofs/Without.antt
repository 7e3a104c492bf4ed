-- What is left of a map without the numbers from one on.
use Rattle.std.proofs.Common.{◌≡◌, ℕ, ◌+◌, ◌-◌, ◌%◌, ◌<◌, ◌≤◌, Bool, true, false, cond, refl, sym, ap, subst, ◌∙◌, inl, inr, ◌⊎◌, arith, Some, None, zero, suc, add-one}
use Rattle.std.specs.Ordering.{nat_cmp}
use Rattle.std.specs.Option.{is_some}
use Rattle.std.specs.Cmp.{nat_cmp_total}
use Rattle.std.specs.FinMap.{FinMap, get, insert, remove, contains_key, len, len-remove, empty_of_len, get-empty, same_map, nat_cmp-IsAntisymmetric}
use Rattle.enet_seq.specs.Numbering.{Numbering, wire, unbounded}
use Rattle.enet_receiver.specs.Receiver.{without}
use Rattle.enet_receiver.proofs.Maps.{get-insert_other, get-remove_other, get-remove_same, get_removed, two_numbers}

-- without bound: a number among them is gone
pub get-without_inside : {X : Type 0} (m : FinMap nat_cmp X) (n count q : ℕ) → n ≤ q → q < n + count → get (without unbounded m n count) q ≡ None
unfolding without
get-without_inside m n zero q low high = absurd (omega arith)
get-without_inside m n (suc count) q low high =
    elim (two_numbers q (n + count)) [
      | inl same ↦ ap (get (remove (without unbounded m n count) (n + count))) same ∙ get-remove_same (without unbounded m n count) (n + count)
      | inr apart ↦ get-remove_other (without unbounded m n count) (n + count) q apart ∙ get-without_inside m n count q low (grind arith)
    ]

-- and any other stays
pub get-without_outside : {X : Type 0} (m : FinMap nat_cmp X) (n count q : ℕ) → (q < n) ⊎ (n + count ≤ q) → get (without unbounded m n count) q ≡ get m q
unfolding without
get-without_outside m n zero q h = refl
get-without_outside m n (suc count) q h =
    get-remove_other (without unbounded m n count) (n + count) q (λ e. elim h [ inl a ↦ omega arith | inr b ↦ omega arith ])
    ∙ get-without_outside m n count q (elim h [ inl a ↦ inl a | inr b ↦ inr (omega arith) ])

-- on the wire, at so many numbers past the first
pub get-without_wire_inside : {X : Type 0} (m : FinMap nat_cmp X) (n count d : ℕ) → d < count → get (without wire m (n % 65536) count) ((n + d) % 65536) ≡ None
unfolding without
get-without_wire_inside m n zero d low = absurd (omega arith)
get-without_wire_inside m n (suc count) d low =
    elim (two_numbers ((n + d) % 65536) ((n % 65536 + count) % 65536)) [
      | inl same ↦ ap (get (remove (without wire m (n % 65536) count) ((n % 65536 + count) % 65536))) same ∙ get-remove_same (without wire m (n % 65536) count) ((n % 65536 + count) % 65536)
      | inr apart ↦ get-remove_other (without wire m (n % 65536) count) ((n % 65536 + count) % 65536) ((n + d) % 65536) apart
          ∙ get-without_wire_inside m n count d (elim (two_numbers d count) [ inl e ↦ absurd (apart (omega arith)) | inr k ↦ grind arith ])
    ]

pub get-without_wire_outside : {X : Type 0} (m : FinMap nat_cmp X) (n count d : ℕ) → count ≤ d → d < 65536 → get (without wire m (n % 65536) count) ((n + d) % 65536) ≡ get m ((n + d) % 65536)
unfolding without
get-without_wire_outside m n zero d low high = refl
get-without_wire_outside m n (suc count) d low high =
    get-remove_other (without wire m (n % 65536) count) ((n % 65536 + count) % 65536) ((n + d) % 65536) (λ e. grind arith)
    ∙ get-without_wire_outside m n count d (omega arith) high

-- nothing is added
pub len-without : {X : Type 0} (g : Numbering) (m : FinMap nat_cmp X) (n count : ℕ) → len (without g m n count) ≤ len m
unfolding without
len-without g m n zero = omega arith
len-without g m n (suc count) =
    let rest = len-without g m n count in
    let one = len-remove nat_cmp_total (without g m n count) (g.after n count) in
    subst (λ k. k ≤ len m) (sym one) (least (contains_key (without g m n count) (g.after n count)) (len (without g m n count)) rest)
  where
    least : (b : Bool) (k : ℕ) → k ≤ len m → cond b (k - 1) k ≤ len m
    least true k h = omega arith
    least false k h = h

-- the first number goes
pub len-without_first : {X : Type 0} (g : Numbering) (m : FinMap nat_cmp X) (n count : ℕ) (x : X) → g.after n 0 ≡ n → 0 < count → get m n ≡ Some x → len (without g m n count) < len m
unfolding without
len-without_first g m n zero x z h e = absurd (omega arith)
len-without_first g m n (suc zero) x z h e =
    let one = len-remove nat_cmp_total m (g.after n 0) in
    let there : contains_key m (g.after n 0) ≡ true = ap (contains_key m) z ∙ ap is_some e in
    let less : len (remove m (g.after n 0)) ≡ len m - 1 = one ∙ ap (λ b. cond b (len m - 1) (len m)) there in
    elim (two_numbers (len m) 0) [
      | inl none ↦ absurd (let f : get m n ≡ None = ap (λ y. get y n) (empty_of_len m none) ∙ get-empty nat_cmp n in cc)
      | inr some' ↦ grind arith
    ]
len-without_first g m n (suc (suc count)) x z h e =
    let rest = len-without_first g m n (suc count) x z (omega arith) e in
    let one = len-remove nat_cmp_total (without g m n (suc count)) (g.after n (suc count)) in
    subst (λ k. k < len m) (sym one) (least (contains_key (without g m n (suc count)) (g.after n (suc count))) (len (without g m n (suc count))) rest)
  where
    least : (b : Bool) (k : ℕ) → k < len m → cond b (k - 1) k < len m
    least true k h = omega arith
    least false k h = h

pub get_without : {X : Type 0} (g : Numbering) (m : FinMap nat_cmp X) (n count q : ℕ) (x : X) → get (without g m n count) q ≡ Some x → get m q ≡ Some x
unfolding without
get_without g m n zero q x e = e
get_without g m n (suc count) q x e = get_without g m n count q x (get_removed (without g m n count) (g.after n count) q x e).1

pub without-none : {X : Type 0} (g : Numbering) (m : FinMap nat_cmp X) (n : ℕ) → without g m n 0 ≡ m
unfolding without
without-none g m n = refl

pub without-more : {X : Type 0} (g : Numbering) (m : FinMap nat_cmp X) (n count : ℕ) → without g m n (count + 1) ≡ remove (without g m n count) (g.after n count)
unfolding without
without-more g m n count = ap (without g m n) (add-one count)

remove_again : {X : Type 0} (m : FinMap nat_cmp X) (k : ℕ) → remove (remove m k) k ≡ remove m k
remove_again m k = same_map nat_cmp_total nat_cmp-IsAntisymmetric _ _ (λ q. elim (two_numbers q k) [
  | inl same ↦ subst (λ x. get (remove (remove m k) k) x ≡ get (remove m k) x) (sym same) (get-remove_same (remove m k) k ∙ sym (get-remove_same m k))
  | inr apart ↦ get-remove_other (remove m k) k q apart
])

-- what was taken out before it would go goes as well
pub without-first : {X : Type 0} (g : Numbering) (m : FinMap nat_cmp X) (n count : ℕ) → g.after n 0 ≡ n → 1 ≤ count → without g (remove m n) n count ≡ without g m n count
unfolding without
without-first g m n zero z h = absurd (omega arith)
without-first g m n (suc zero) z h = ap (remove (remove m n)) z ∙ remove_again m n ∙ sym (ap (remove m) z)
without-first g m n (suc (suc count)) z h = ap (λ x. remove x (g.after n (suc count))) (without-first g m n (suc count) z (omega arith))

remove_added : {X : Type 0} (m : FinMap nat_cmp X) (k : ℕ) (v : X) → remove (insert m k v) k ≡ remove m k
remove_added m k v = same_map nat_cmp_total nat_cmp-IsAntisymmetric _ _ (λ q. elim (two_numbers q k) [
  | inl same ↦ subst (λ x. get (remove (insert m k v) k) x ≡ get (remove m k) x) (sym same) (get-remove_same (insert m k v) k ∙ sym (get-remove_same m k))
  | inr apart ↦ get-remove_other (insert m k v) k q apart ∙ get-insert_other m k q v apart ∙ sym (get-remove_other m k q apart)
])

-- what would go goes, too, where it was added just before
pub without-added : {X : Type 0} (g : Numbering) (m : FinMap nat_cmp X) (n count : ℕ) (v : X) → g.after n 0 ≡ n → 1 ≤ count → without g (insert m n v) n count ≡ without g m n count
unfolding without
without-added g m n zero v z h = absurd (omega arith)
without-added g m n (suc zero) v z h = ap (remove (insert m n v)) z ∙ remove_added m n v ∙ sym (ap (remove m) z)
without-added g m n (suc (suc count)) v z h = ap (λ x. remove x (g.after n (suc count))) (without-added g m n (suc count) v z (omega arith))
