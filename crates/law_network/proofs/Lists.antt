-- Reading lists that a call changed at one place or everywhere.
use Rattle.std.proofs.Common.{◌≡◌, ◌≢◌, ℕ, zero, suc, ◌<◌, ◌⊎◌, inl, inr, List, [], ◌∷◌, length, map, refl, ap, arith, Some, slice_set}
use Rattle.std.specs.List.{slice_get}

pub get-set : {X : Type 0} (xs : List X) (i : ℕ) (x y : X) → slice_get xs i ≡ Some x → slice_get (slice_set xs i y) i ≡ Some y
get-set [] i x y e = absurd (cc)
get-set (z ∷ xs) zero x y e = refl
get-set (z ∷ xs) (suc i) x y e = get-set xs i x y e

pub get-set_other : {X : Type 0} (xs : List X) (i j : ℕ) (y : X) → i ≢ j → slice_get (slice_set xs i y) j ≡ slice_get xs j
get-set_other [] i j y n = refl
get-set_other (z ∷ xs) zero zero y n = absurd (n refl)
get-set_other (z ∷ xs) zero (suc j) y n = refl
get-set_other (z ∷ xs) (suc i) zero y n = refl
get-set_other (z ∷ xs) (suc i) (suc j) y n = get-set_other xs i j y (λ e. n (ap (λ (k : ℕ). suc k) e))

pub get-map : {X Y : Type 0} (f : X → Y) (xs : List X) (i : ℕ) (x : X) → slice_get xs i ≡ Some x → slice_get (map f xs) i ≡ Some (f x)
get-map f [] i x e = absurd (cc)
get-map f (z ∷ xs) zero x e = let s : z ≡ x = cc in ap (λ (y : _). Some (f y)) s
get-map f (z ∷ xs) (suc i) x e = get-map f xs i x e

pub get-within : {X : Type 0} (xs : List X) (i : ℕ) → i < length xs → (x : X) × (slice_get xs i ≡ Some x)
get-within [] i h = absurd (let n : i < 0 = h in omega arith)
get-within (x ∷ xs) zero h = (x, refl)
get-within (x ∷ xs) (suc i) h = get-within xs i (let low : suc i < suc (length xs) = h in omega arith)

pub same-or : (i j : ℕ) → (i ≡ j) ⊎ (i ≢ j)
same-or zero zero = inl refl
same-or zero (suc j) = inr (λ e. omega arith)
same-or (suc i) zero = inr (λ e. omega arith)
same-or (suc i) (suc j) = by (same-or i j)
  where
    by : (i ≡ j) ⊎ (i ≢ j) → (suc i ≡ suc j) ⊎ (suc i ≢ suc j)
    by (inl e) = inl (ap (λ (k : ℕ). suc k) e)
    by (inr n) = inr (λ e. n (omega arith))
