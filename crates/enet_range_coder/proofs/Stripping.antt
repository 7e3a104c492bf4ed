-- What follows the bytes that were put out.
use Rattle.std.proofs.Common.{◌≡◌, ℕ, ◌-◌, ◌<◌, ◌≤◌, ◌≢◌, true, false, cond, ◌==◌, zero, suc, List, [], ◌∷◌, length, take, drop, get_or, Some, None, refl, sym, ◌∙◌, ap, arith, length-drop}
use Rattle.std.proofs.lemmas.Bool.Decides.{nat_tests}
use Rattle.enet_range_coder.specs.Body.{strip}

pub strip_short : (front code : List ℕ) → length code < length front → None ≡ strip front code
strip_short [] code l = absurd (omega arith)
strip_short (b ∷ bs) [] l = refl
strip_short (b ∷ bs) (c ∷ cs) l = elim (b == c) as (λ t. None ≡ cond t (strip bs cs) None) [ true ↦ strip_short bs cs (omega arith) | false ↦ refl ]

pub strip_differs : (front code : List ℕ) (i : ℕ) → i < length front → i < length code → get_or code i 0 ≢ get_or front i 0 → None ≡ strip front code
strip_differs [] code i l k d = absurd (omega arith)
strip_differs (b ∷ bs) [] i l k d = refl
strip_differs (b ∷ bs) (c ∷ cs) zero l k d = let t : (b == c) ≡ false = grind (arith, nat_tests) in rw t refl
strip_differs (b ∷ bs) (c ∷ cs) (suc i) l k d = elim (b == c) as (λ t. None ≡ cond t (strip bs cs) None) [ true ↦ strip_differs bs cs i (omega arith) (omega arith) d | false ↦ refl ]

pub strip_same : (front code : List ℕ) → length front ≤ length code → ((k : ℕ) → k < length front → get_or code k 0 ≡ get_or front k 0) → Some (drop (length front) code) ≡ strip front code
strip_same [] code l h = refl
strip_same (b ∷ bs) [] l h = absurd (omega arith)
strip_same (b ∷ bs) (c ∷ cs) l h =
    let e = h 0 (omega arith) in
    let t : (b == c) ≡ true = grind (arith, nat_tests) in
    rw t (strip_same bs cs (omega arith) (λ k m. h (suc k) (omega arith)))

said_get : (n : ℕ) (bytes : List ℕ) (k : ℕ) → k < n → get_or (take n bytes) k 0 ≡ get_or bytes k 0
said_get zero bytes k l = absurd (omega arith)
said_get (suc n) [] k l = refl
said_get (suc n) (b ∷ bytes) zero l = refl
said_get (suc n) (b ∷ bytes) (suc k) l = said_get n bytes k (omega arith)

said_length : (n : ℕ) (bytes : List ℕ) → n ≤ length bytes → length (take n bytes) ≡ n
said_length zero bytes l = refl
said_length (suc n) [] l = absurd (omega arith)
said_length (suc n) (b ∷ bytes) l = let e = said_length n bytes (omega arith) in omega (arith, e)

pub said_short : (n : ℕ) (bytes code : List ℕ) → n ≤ length bytes → length code < n → None ≡ strip (take n bytes) code
said_short n bytes code b l = let e = said_length n bytes b in strip_short (take n bytes) code (omega (arith, e))

pub said_differs : (n : ℕ) (bytes code : List ℕ) (i : ℕ) → n ≤ length bytes → n ≤ length code → i < n → get_or code i 0 ≢ get_or bytes i 0 → None ≡ strip (take n bytes) code
said_differs n bytes code i b l k d =
    let e = said_length n bytes b in
    strip_differs (take n bytes) code i (omega (arith, e)) (omega arith) (λ f. d (f ∙ said_get n bytes i k))

pub said_same : (n : ℕ) (bytes code : List ℕ) → n ≤ length bytes → n ≤ length code → ((k : ℕ) → k < n → get_or code k 0 ≡ get_or bytes k 0) → Some (drop n code) ≡ strip (take n bytes) code
said_same n bytes code b l h =
    let e = said_length n bytes b in
    ap (λ (i : ℕ). Some (drop i code)) (sym e) ∙ strip_same (take n bytes) code (omega (arith, e)) (λ k m. let j : k < n = omega (arith, e, m) in h k j ∙ sym (said_get n bytes k j))

take_all : (xs : List ℕ) → take (length xs) xs ≡ xs
take_all [] = refl
take_all (x ∷ xs) = ap (λ (ys : List ℕ). x ∷ ys) (take_all xs)

pub take_rest : (n : ℕ) (code : List ℕ) → take (length code - n) (drop n code) ≡ drop n code
take_rest n code = ap (λ (k : ℕ). take k (drop n code)) (sym (length-drop n code)) ∙ take_all (drop n code)
