-- Membership, by recursion on the list.
use Rattle.std.proofs.Common.{◌≡◌, ℕ, Bool, true, false, cond, List, [], ◌∷◌, ◌++◌, refl, sym, ap, ◌∙◌, inl, inr, ◌⊎◌, Some, zero, suc}
use Rattle.std.specs.List.{filter, slice_get}
pub use Rattle.law_connection.specs.LinkSteps.{Has}

pub Has-push_cases : {X : Type 0} (xs : List X) (y x : X) → Has (xs ++ y ∷ []) x → Has xs x ⊎ (y ≡ x)
Has-push_cases [] y x (inl e) = inr e
Has-push_cases [] y x (inr h) = absurd h
Has-push_cases (z ∷ xs) y x (inl e) = inl (inl e)
Has-push_cases (z ∷ xs) y x (inr h) =
    let back : Has xs x ⊎ (y ≡ x) → Has (z ∷ xs) x ⊎ (y ≡ x) = elim [ inl k ↦ inl (inr k) | inr e ↦ inr e ] in
    back (Has-push_cases xs y x h)

pub Has-push_left : {X : Type 0} (xs : List X) (y x : X) → Has xs x → Has (xs ++ y ∷ []) x
Has-push_left [] y x h = absurd h
Has-push_left (z ∷ xs) y x (inl e) = inl e
Has-push_left (z ∷ xs) y x (inr h) = inr (Has-push_left xs y x h)

pub Has-push : {X : Type 0} (xs : List X) (y : X) → Has (xs ++ y ∷ []) y
Has-push [] y = inl refl
Has-push (z ∷ xs) y = inr (Has-push xs y)

pub Has-append_cases : {X : Type 0} (a b : List X) (x : X) → Has (a ++ b) x → Has a x ⊎ Has b x
Has-append_cases [] b x h = inr h
Has-append_cases (y ∷ a) b x (inl e) = inl (inl e)
Has-append_cases (y ∷ a) b x (inr h) = elim (Has-append_cases a b x h) [ inl k ↦ inl (inr k) | inr k ↦ inr k ]

pub Has-filter : {X : Type 0} (p : X → Bool) (xs : List X) (x : X) → Has xs x → p x ≡ true → Has (filter p xs) x
Has-filter p [] x h t = absurd h
Has-filter p (y ∷ ys) x (inl e) t =
    rw (ap p e ∙ t) (inl e)
Has-filter p (y ∷ ys) x (inr h) t =
    let rest = Has-filter p ys x h t in
    elim (p y) as (λ b. Has (cond b (y ∷ filter p ys) (filter p ys)) x) [ true ↦ inr rest | false ↦ rest ]

pub Has-from_filter : {X : Type 0} (p : X → Bool) (xs : List X) (x : X) → Has (filter p xs) x → Has xs x
Has-from_filter p [] x h = absurd h
Has-from_filter p (y ∷ ys) x h =
    elim (p y) as (λ b. Has (cond b (y ∷ filter p ys) (filter p ys)) x → Has (y ∷ ys) x) [
      | true ↦ elim [ inl e ↦ inl e | inr k ↦ inr (Has-from_filter p ys x k) ]
      | false ↦ λ k. inr (Has-from_filter p ys x k)
    ] h

pub Has-slice_get : {X : Type 0} (xs : List X) (k : ℕ) (x : X) → slice_get xs k ≡ Some x → Has xs x
Has-slice_get [] k x e = absurd (cc)
Has-slice_get (y ∷ ys) zero x e = inl (cc)
Has-slice_get (y ∷ ys) (suc k) x e = inr (Has-slice_get ys k x e)

-- two ways to cut a list in two
abbrev pub Cuts : {X : Type 0} → List X → List X → List X → List X → Type 0
Cuts {X} a b c d = ((mid : List X) × (a ≡ c ++ mid) × (d ≡ mid ++ b)) ⊎ ((mid : List X) × (c ≡ a ++ mid) × (b ≡ mid ++ d))

pub two_cuts : {X : Type 0} (a b c d : List X) → a ++ b ≡ c ++ d → Cuts a b c d
two_cuts [] b c d e = inr (c, refl, e)
two_cuts (x ∷ a) b [] d e = inl (x ∷ a, refl, sym e)
two_cuts (x ∷ a) b (y ∷ c) d e =
    let same : x ≡ y = cc in
    let rest : a ++ b ≡ c ++ d = cc in
    let back : Cuts a b c d → Cuts (x ∷ a) b (y ∷ c) d = elim [
      | inl w ↦ inl (w.0, (let f : a ≡ c ++ w.0 = w.1 in cc), w.2)
      | inr w ↦ inr (w.0, (let f : c ≡ a ++ w.0 = w.1 in cc), w.2)
    ] in
    back (two_cuts a b c d rest)
