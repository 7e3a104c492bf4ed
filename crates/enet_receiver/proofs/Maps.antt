-- What a look-up gives in a map of numbers after a change.
use Rattle.std.proofs.Common.{◌≡◌, ◌≢◌, ℕ, false, cond, List, [], ◌∷◌, refl, sym, ap, subst, ◌∙◌, inl, inr, ◌⊎◌, arith, Some, None, Ordering, Less, Equal, Greater}
use Rattle.std.specs.Ordering.{nat_cmp, eq_by_cmp, is_eq}
use Rattle.std.specs.FinMap.{FinMap, get, insert, remove, gets, get-insert, get-remove, nat_cmp-IsAntisymmetric, entries, empty, put, entries-insert, len-entries, len-empty}
use Rattle.std.specs.FinMap.Entries.{by_order}
use Rattle.std.proofs.lemmas.List.{nil_from_length}
use Rattle.enet_receiver.specs.Members.{Has}
use Rattle.std.specs.Cmp.{nat_cmp_total}

is_eq_apart : (r : Ordering) → (r ≡ Equal → ⊥) → is_eq r ≡ false
is_eq_apart Less n = refl
is_eq_apart Equal n = absurd (n refl)
is_eq_apart Greater n = refl

pub apart_numbers : (q k : ℕ) → q ≢ k → eq_by_cmp nat_cmp q k ≡ false
apart_numbers q k n = is_eq_apart (nat_cmp q k) (λ e. n (nat_cmp-IsAntisymmetric q k e))

pub two_numbers : (q k : ℕ) → (q ≡ k) ⊎ (q ≢ k)
two_numbers q k = grind arith

pub get-remove_other : {X : Type 0} (m : FinMap nat_cmp X) (k q : ℕ) → q ≢ k → get (remove m k) q ≡ get m q
get-remove_other m k q n = get-remove nat_cmp_total m k q ∙ ap (λ b. cond b None (get m q)) (apart_numbers q k n)

pub get-remove_same : {X : Type 0} (m : FinMap nat_cmp X) (k : ℕ) → get (remove m k) k ≡ None
get-remove_same m k = grind (arith, gets)

pub get-insert_other : {X : Type 0} (m : FinMap nat_cmp X) (k q : ℕ) (v : X) → q ≢ k → get (insert m k v) q ≡ get m q
get-insert_other m k q v n = get-insert nat_cmp_total m k v q ∙ ap (λ b. cond b (Some v) (get m q)) (apart_numbers q k n)

pub get-insert_same : {X : Type 0} (m : FinMap nat_cmp X) (k : ℕ) (v : X) → get (insert m k v) k ≡ Some v
get-insert_same m k v = grind (arith, gets)

pub get_removed : {X : Type 0} (m : FinMap nat_cmp X) (k q : ℕ) (b : X) → get (remove m k) q ≡ Some b → (q ≢ k) × (get m q ≡ Some b)
get_removed m k q b e = grind (arith, gets)

pub get_inserted : {X : Type 0} (m : FinMap nat_cmp X) (k q : ℕ) (v b : X) → get (insert m k v) q ≡ Some b → ((q ≡ k) × (v ≡ b)) ⊎ ((q ≢ k) × (get m q ≡ Some b))
get_inserted m k q v b e =
    elim (two_numbers q k) [
      | inl same ↦ inl (same, (let f : get (insert m k v) q ≡ Some v = subst (λ x. get (insert m k v) x ≡ Some v) (sym same) (get-insert_same m k v) in cc))
      | inr apart ↦ inr (apart, sym (get-insert_other m k q v apart) ∙ e)
    ]

Has-put : {X : Type 0} (k : ℕ) (v : X) (es : List (ℕ × X)) (e : ℕ × X) → Has (put nat_cmp k v es) e → (e ≡ (k, v)) ⊎ Has es e
Has-put k v [] e (inl h) = inl (sym h)
Has-put k v [] e (inr h) = absurd h
Has-put k v (x ∷ es) e h =
    elim (nat_cmp k x.0) as (λ o. nat_cmp k x.0 ≡ o → Has (by_order o ((k, v) ∷ x ∷ es) ((x.0, v) ∷ es) (x ∷ put nat_cmp k v es)) e → (e ≡ (k, v)) ⊎ Has (x ∷ es) e) [
      | Less ↦ λ t. elim [ inl f ↦ inl (sym f) | inr g ↦ inr g ]
      | Equal ↦ λ t. elim [ inl f ↦ inl (sym f ∙ ap (λ z. (z, v)) (sym (nat_cmp-IsAntisymmetric k x.0 t))) | inr g ↦ inr (inr g) ]
      | Greater ↦ λ t. elim [ inl f ↦ inr (inl f) | inr g ↦ elim (Has-put k v es e g) [ inl p ↦ inl p | inr q ↦ inr (inr q) ] ]
    ] refl h

-- an entry of a map after an insertion
pub Has-insert : {X : Type 0} (m : FinMap nat_cmp X) (k : ℕ) (v : X) (e : ℕ × X) → Has (entries (insert m k v)) e → (e ≡ (k, v)) ⊎ Has (entries m) e
Has-insert m k v e h = Has-put k v (entries m) e (subst (λ es. Has es e) (entries-insert nat_cmp_total m k v) h)

pub Has-empty : {X : Type 0} (e : ℕ × X) → Has (entries (empty {X = X} {R = nat_cmp})) e → ⊥
Has-empty {X = X} e h =
    let n : entries (empty {X = X} {R = nat_cmp}) ≡ [] = nil_from_length _ (sym (len-entries (empty {X = X} {R = nat_cmp})) ∙ len-empty nat_cmp X) in
    subst (λ es. Has es e) n h
