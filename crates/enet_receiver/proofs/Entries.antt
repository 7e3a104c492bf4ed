-- The entries of a map of numbers, and its look-ups.
use Rattle.std.proofs.Common.{◌≡◌, ◌≢◌, ℕ, Bool, true, false, cond, T, List, [], ◌∷◌, sym, ap, subst, ◌∙◌, inl, inr, arith, Some, None}
use Rattle.std.specs.Prelude.{◌&&◌}
use Rattle.std.specs.Ordering.{nat_cmp, eq_by_cmp, is_lt}
use Rattle.std.specs.Cmp.{nat_cmp_total, tied_itself}
use Rattle.std.specs.FinMap.{FinMap, get, entries, entries_sorted, get-entries, find, is_sorted, retain_keys, get-retain_keys, nat_cmp-IsAntisymmetric}
use Rattle.std.specs.FinMap.Entries.{below_all}
use Rattle.enet_receiver.specs.Members.{Has}
use Rattle.enet_receiver.proofs.Maps.{apart_numbers}

same_number : (k : ℕ) → eq_by_cmp nat_cmp k k ≡ true
same_number k = grind (arith, nat_cmp_total, tied_itself)

pub T_left : (a b : Bool) → T (a && b) → T a
T_left true b h = tt
T_left false b h = absurd h

pub T_right : (a b : Bool) → T (a && b) → T b
T_right true b h = h
T_right false b h = absurd h

pub above_all : {X : Type 0} (k : ℕ) (es : List (ℕ × X)) (e : ℕ × X) → T (below_all nat_cmp k es) → Has es e → T (is_lt (nat_cmp k e.0))
above_all k [] e t h = absurd h
above_all {X = X} k (x ∷ es) e t (inl is) = subst (λ (y : ℕ × X). T (is_lt (nat_cmp k y.0))) is (T_left (is_lt (nat_cmp k x.0)) (below_all nat_cmp k es) t)
above_all k (x ∷ es) e t (inr h) = above_all k es e (T_right (is_lt (nat_cmp k x.0)) (below_all nat_cmp k es) t) h

not_below_itself : (k : ℕ) → T (is_lt (nat_cmp k k)) → ⊥
not_below_itself k t = grind (arith, nat_cmp_total, tied_itself)

find-has : {X : Type 0} (es : List (ℕ × X)) (e : ℕ × X) → T (is_sorted nat_cmp es) → Has es e → find nat_cmp e.0 es ≡ Some e.1
find-has [] e s h = absurd h
find-has {X = X} (x ∷ es) e s (inl is) = subst (λ (y : ℕ × X). find nat_cmp y.0 (x ∷ es) ≡ Some y.1) is (ap (λ b. cond b (Some x.1) (find nat_cmp x.0 es)) (same_number x.0))
find-has (x ∷ es) e s (inr h) =
    let up = above_all x.0 es e (T_left (below_all nat_cmp x.0 es) (is_sorted nat_cmp es) s) h in
    let apart : e.0 ≢ x.0 = λ k. not_below_itself x.0 (subst (λ n. T (is_lt (nat_cmp x.0 n))) k up) in
    ap (λ b. cond b (Some x.1) (find nat_cmp e.0 es)) (apart_numbers e.0 x.0 apart) ∙ find-has es e (T_right (below_all nat_cmp x.0 es) (is_sorted nat_cmp es) s) h

-- an entry is what is found at its key
pub get_entry : {X : Type 0} (m : FinMap nat_cmp X) (e : ℕ × X) → Has (entries m) e → get m e.0 ≡ Some e.1
get_entry m e h = get-entries m e.0 ∙ find-has (entries m) e (entries_sorted m) h

-- what is kept was there
pub get_retained : {X : Type 0} (m : FinMap nat_cmp X) (p : ℕ → Bool) (q : ℕ) (x : X) → get (retain_keys m p) q ≡ Some x → get m q ≡ Some x
get_retained m p q x e =
    let k : get (retain_keys m p) q ≡ cond (p q) (get m q) None = get-retain_keys m p q (λ y t. ap p (sym (nat_cmp-IsAntisymmetric q y t))) in
    elim (p q) as (λ b. cond b (get m q) None ≡ Some x → get m q ≡ Some x) [ true ↦ λ f. f | false ↦ λ f. absurd (cc) ] (sym k ∙ e)
