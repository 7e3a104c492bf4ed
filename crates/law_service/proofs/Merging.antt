-- Two lists that were put into one, each in its order.
use Rattle.std.proofs.Common.{◌≡◌, ◌⊎◌, inl, inr, Bool, true, false, cond, List, [], ◌∷◌, ◌++◌, refl, sym, ap, subst, ◌∙◌, append-nil}
use Rattle.std.specs.Prelude.{filter}
use Rattle.std.proofs.lemmas.List.Elements.{filter-append}

abbrev pub AreMerged : {A : Type 0} → List A → List A → List A → Type 0
AreMerged xs ys [] = (xs ≡ []) × (ys ≡ [])
AreMerged {A} xs ys (z ∷ zs) = ((rest : List A) × (xs ≡ z ∷ rest) × AreMerged rest ys zs) ⊎ ((rest : List A) × (ys ≡ z ∷ rest) × AreMerged xs rest zs)

pub merged-left : {A : Type 0} (xs : List A) → AreMerged xs [] xs
merged-left [] = (refl, refl)
merged-left (x ∷ xs) = inl (xs, refl, merged-left xs)

pub merged-right : {A : Type 0} (ys : List A) → AreMerged [] ys ys
merged-right [] = (refl, refl)
merged-right (y ∷ ys) = inr (ys, refl, merged-right ys)

pub merged-swapped : {A : Type 0} (xs ys zs : List A) → AreMerged xs ys zs → AreMerged ys xs zs
merged-swapped xs ys [] m = (m.1, m.0)
merged-swapped xs ys (z ∷ zs) (inl m) = inr (m.0, m.1, merged-swapped m.0 ys zs m.2)
merged-swapped xs ys (z ∷ zs) (inr m) = inl (m.0, m.1, merged-swapped xs m.0 zs m.2)

pub merged-append : {A : Type 0} (xs ys zs us vs ws : List A) → AreMerged xs ys zs → AreMerged us vs ws → AreMerged (xs ++ us) (ys ++ vs) (zs ++ ws)
merged-append {A} xs ys [] us vs ws m k = subst (λ (a : List A). AreMerged (a ++ us) (ys ++ vs) ws) (sym m.0) (subst (λ (b : List A). AreMerged us (b ++ vs) ws) (sym m.1) k)
merged-append {A} xs ys (z ∷ zs) us vs ws (inl m) k = inl (m.0 ++ us, ap (λ (l : List A). l ++ us) m.1, merged-append m.0 ys zs us vs ws m.2 k)
merged-append {A} xs ys (z ∷ zs) us vs ws (inr m) k = inr (m.0 ++ vs, ap (λ (l : List A). l ++ vs) m.1, merged-append xs m.0 zs us vs ws m.2 k)

-- what one of them has none of is the other's
some-is-none : {A : Type 0} {B : Type 0} (x : A) (xs : List A) → x ∷ xs ≡ [] → B
some-is-none x xs e = absurd (cc)

pub merged-filter : {A : Type 0} (q : A → Bool) (xs ys zs : List A) → AreMerged xs ys zs → filter q ys ≡ [] → filter q zs ≡ filter q xs
merged-filter q xs ys [] m none = ap (filter q) (sym m.0)
merged-filter {A} q xs ys (z ∷ zs) (inl m) none =
    ap (λ (l : List A). cond (q z) (z ∷ l) l) (merged-filter q m.0 ys zs m.2 none) ∙ ap (filter q) (sym m.1)
merged-filter {A} q xs ys (z ∷ zs) (inr m) none = by (q z) (ap (filter q) (sym m.1) ∙ none) (λ e. merged-filter q xs m.0 zs m.2 e)
  where
    by : (b : Bool) → cond b (z ∷ filter q m.0) (filter q m.0) ≡ [] → (filter q m.0 ≡ [] → filter q zs ≡ filter q xs) → cond b (z ∷ filter q zs) (filter q zs) ≡ filter q xs
    by true e more = some-is-none z (filter q m.0) e
    by false e more = more e

pub both-none : {A : Type 0} (xs ys : List A) → xs ++ ys ≡ [] → (xs ≡ []) × (ys ≡ [])
both-none [] ys e = (refl, e)
both-none (x ∷ xs) ys e = some-is-none x (xs ++ ys) e

-- of a merged list with what is left of both, that of the one, where the other has none
pub first-of : {A : Type 0} (q : A → Bool) (xs ys zs e r : List A) → AreMerged xs ys zs → filter q (ys ++ r) ≡ [] → filter q (zs ++ (r ++ e)) ≡ filter q (xs ++ e)
first-of {A} q xs ys zs e r m none =
    let b : (filter q ys ≡ []) × (filter q r ≡ []) = both-none (filter q ys) (filter q r) (sym (filter-append q ys r) ∙ none) in
    filter-append q zs (r ++ e) ∙ (λ i. merged-filter q xs ys zs m b.0 i ++ filter-append q r e i) ∙ ap (λ (l : List A). filter q xs ++ (l ++ filter q e)) b.1 ∙ sym (filter-append q xs e)

pub second-of : {A : Type 0} (q : A → Bool) (xs ys zs e r : List A) → AreMerged xs ys zs → filter q (xs ++ e) ≡ [] → filter q (zs ++ (r ++ e)) ≡ filter q (ys ++ r)
second-of {A} q xs ys zs e r m none =
    let b : (filter q xs ≡ []) × (filter q e ≡ []) = both-none (filter q xs) (filter q e) (sym (filter-append q xs e) ∙ none) in
    filter-append q zs (r ++ e) ∙ (λ i. merged-filter q ys xs zs (merged-swapped xs ys zs m) b.0 i ++ filter-append q r e i) ∙ ap (λ (l : List A). filter q ys ++ (filter q r ++ l)) b.1
    ∙ ap (λ (l : List A). filter q ys ++ l) (append-nil (filter q r)) ∙ sym (filter-append q ys r)
