-- Elements of lists and their places.
use Rattle.std.proofs.Common.{◌≡◌, ◌<◌, ◌≤◌, ℕ, zero, suc, Bool, false, List, [], ◌∷◌, length, get_or, sym, ap, ◌∙◌, inl, inr, ◌⊎◌, arith, None, slice_set}
use Rattle.std.specs.List.{position, position_or_len}
use Rattle.std.proofs.lemmas.Grind.{common_steps}
use Rattle.std.proofs.lemmas.List.Sums.{fails_before_first}
use Rattle.law_connection.specs.LinkSteps.{Has}

-- the place of an element
pub has-at : {X : Type 0} (xs : List X) (x : X) → Has xs x → (i : ℕ) × (i < length xs) × (get_or xs i x ≡ x)
has-at [] x h = absurd h
has-at (y ∷ xs) x (inl e) = (zero, omega arith, e)
has-at (y ∷ xs) x (inr h) = (let p = has-at xs x h in (suc p.0, omega (arith, p.1), p.2))

-- where none is found that passes, none passes
pub none-passes : {X : Type 0} (p : X → Bool) (xs : List X) (x : X) → position p xs ≡ None → Has xs x → p x ≡ false
none-passes p xs x none h =
    let at = has-at xs x h in
    let far : length xs ≤ position_or_len p xs = grind (arith, common_steps) in
    ap p (sym at.2) ∙ fails_before_first p xs at.0 x (omega (arith, at.1, far))

-- an element after one was set is that one or was there
pub has-set : {X : Type 0} (xs : List X) (i : ℕ) (y x : X) → Has (slice_set xs i y) x → (y ≡ x) ⊎ Has xs x
has-set [] i y x h = absurd h
has-set (z ∷ xs) zero y x (inl e) = inl e
has-set (z ∷ xs) zero y x (inr h) = inr (inr h)
has-set (z ∷ xs) (suc i) y x (inl e) = inr (inl e)
has-set (z ∷ xs) (suc i) y x (inr h) = elim (has-set xs i y x h) [ inl e ↦ inl e | inr k ↦ inr (inr k) ]
