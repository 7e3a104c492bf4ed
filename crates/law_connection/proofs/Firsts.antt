-- The first element of a list that passes a test.
use Rattle.std.proofs.Common.{◌≡◌, ℕ, ◌+◌, Bool, true, false, not, cond, if◌then◌else◌, List, [], ◌∷◌, length, map, refl, ap, ◌∙◌, inl, inr, arith, Some, None, suc}
use Rattle.std.proofs.lemmas.Bool.Decides.{nat_tests}
use Rattle.std.proofs.lemmas.List.{length-map}
use Rattle.std.specs.Prelude.{nat_lt}
use Rattle.std.specs.List.{position, prefix_len}
use Rattle.enet_sender.specs.Sender.{without_place}
use Rattle.enet_sender.specs.declared.sent.Sent.{Sent}
use Rattle.law_connection.proofs.Lists.{Has}

abbrev pub drop_first : {X : Type 0} → (X → Bool) → List X → List X
drop_first test [] = []
drop_first test (x ∷ xs) = if test x then xs else x ∷ drop_first test xs

pub Has-from_drop : {X : Type 0} (test : X → Bool) (xs : List X) (x : X) → Has (drop_first test xs) x → Has xs x
Has-from_drop test [] x h = absurd h
Has-from_drop test (y ∷ ys) x h =
    elim (test y) as (λ b. Has (cond b ys (y ∷ drop_first test ys)) x → Has (y ∷ ys) x) [
      | true ↦ λ k. inr k
      | false ↦ elim [ inl e ↦ inl e | inr k ↦ inr (Has-from_drop test ys x k) ]
    ] h

-- it goes before or after a change of the elements that the test doesn't see
pub drop_first-map : {X Y : Type 0} (f : X → Y) (test : Y → Bool) (of : X → Bool) (xs : List X) → ((x : X) → Has xs x → test (f x) ≡ of x) → drop_first test (map f xs) ≡ map f (drop_first of xs)
drop_first-map f test of [] h = refl
drop_first-map f test of (x ∷ xs) h =
    let rest = drop_first-map f test of xs (λ y k. h y (inr k)) in
    ap (λ b. cond b (map f xs) (f x ∷ drop_first test (map f xs))) (h x (inl refl))
    ∙ elim (of x) as (λ b. cond b (map f xs) (f x ∷ drop_first test (map f xs)) ≡ map f (cond b xs (x ∷ drop_first of xs))) [
      | true ↦ refl
      | false ↦ ap (λ l. f x ∷ l) rest
    ]

-- and is found at the same place
pub position-map : {X Y : Type 0} (f : X → Y) (test : Y → Bool) (of : X → Bool) (xs : List X) → ((x : X) → Has xs x → test (f x) ≡ of x) → position test (map f xs) ≡ position of xs
position-map {X = X} f test of xs h =
    let place : prefix_len (λ y. not (test y)) (map f xs) ≡ prefix_len (λ x. not (of x)) xs = go xs h in
    let size : length (map f xs) ≡ length xs = length-map xs f in
    (λ i. cond (nat_lt (place i) (size i)) (Some (place i)) None)
  where
    go : (xs : List X) → ((x : X) → Has xs x → test (f x) ≡ of x) → prefix_len (λ y. not (test y)) (map f xs) ≡ prefix_len (λ x. not (of x)) xs
    go [] h = refl
    go (x ∷ xs) h = (λ i. cond (not (h x (inl refl) i)) (1 + go xs (λ y k. h y (inr k)) i) 0)

-- the place at which the first is found is that at which it goes
pub without-first : (test : Sent → Bool) (xs : List Sent) → without_place xs (position test xs) ≡ drop_first test xs
without-first test [] = refl
without-first test (x ∷ xs) =
    let rest = without-first test xs in
    let before : ℕ = prefix_len (λ (y : Sent). not (test y)) xs in
    elim (test x) as (λ b. let place : ℕ = cond (not b) (1 + before) 0 in without_place (x ∷ xs) (cond (nat_lt place (suc (length xs))) (Some place) None) ≡ cond b xs (x ∷ drop_first test xs)) [
      | true ↦ ap (λ c. without_place (x ∷ xs) (cond c (Some 0) None)) (some_place (length xs))
      | false ↦ further before (drop_first test xs) rest
    ]
  where
    some_place : (n : ℕ) → nat_lt 0 (suc n) ≡ true
    some_place n = grind (arith, nat_tests)

    further : (k : ℕ) (ys : List Sent) → without_place xs (cond (nat_lt k (length xs)) (Some k) None) ≡ ys → without_place (x ∷ xs) (cond (nat_lt (1 + k) (suc (length xs))) (Some (1 + k)) None) ≡ x ∷ ys
    further k ys e =
        let one : 1 + k ≡ suc k = omega arith in
        let same : nat_lt (1 + k) (suc (length xs)) ≡ nat_lt k (length xs) = grind (arith, nat_tests) in
        (λ i. without_place (x ∷ xs) (cond (same i) (Some (one i)) None)) ∙ go (nat_lt k (length xs)) e
      where
        go : (b : Bool) → without_place xs (cond b (Some k) None) ≡ ys → without_place (x ∷ xs) (cond b (Some (suc k)) None) ≡ x ∷ ys
        go true e = ap (λ l. x ∷ l) e
        go false e = ap (λ l. x ∷ l) e
