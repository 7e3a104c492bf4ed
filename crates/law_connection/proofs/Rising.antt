-- IsRising numbers.
use Rattle.std.proofs.Common.{ℕ, ◌<◌, Bool, true, false, cond, List, [], ◌∷◌, ◌++◌, subst, inl, inr, refl}
use Rattle.std.specs.List.{filter}
use Rattle.law_connection.specs.Image.{IsRising}
use Rattle.law_connection.proofs.Firsts.{drop_first, Has-from_drop}
use Rattle.law_connection.proofs.Lists.{Has, Has-push_cases, Has-from_filter}

pub IsRising-push : (ns : List ℕ) (n : ℕ) → IsRising ns → ((m : ℕ) → Has ns m → m < n) → IsRising (ns ++ n ∷ [])
IsRising-push [] n r h = ((λ m k. absurd k), tt)
IsRising-push (x ∷ ns) n r h = (
  (λ m k. elim (Has-push_cases ns n m k) [ inl j ↦ r.0 m j | inr is ↦ subst (λ z. x < z) is (h x (inl refl)) ]),
  IsRising-push ns n r.1 (λ m k. h m (inr k)),
)

pub IsRising-filter : (p : ℕ → Bool) (ns : List ℕ) → IsRising ns → IsRising (filter p ns)
IsRising-filter p [] r = tt
IsRising-filter p (n ∷ ns) r =
    elim (p n) as (λ b. IsRising (cond b (n ∷ filter p ns) (filter p ns))) [
      | true ↦ ((λ m k. r.0 m (Has-from_filter p ns m k)), IsRising-filter p ns r.1)
      | false ↦ IsRising-filter p ns r.1
    ]

pub IsRising-drop : (test : ℕ → Bool) (ns : List ℕ) → IsRising ns → IsRising (drop_first test ns)
IsRising-drop test [] r = tt
IsRising-drop test (n ∷ ns) r =
    elim (test n) as (λ b. IsRising (cond b ns (n ∷ drop_first test ns))) [
      | true ↦ r.1
      | false ↦ ((λ m k. r.0 m (Has-from_drop test ns m k)), IsRising-drop test ns r.1)
    ]
