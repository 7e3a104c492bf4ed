-- Bytes that grow by one piece after another, and what holds of a result.
use Rattle.std.proofs.Common.{◌≡◌, ℕ, List, [], ◌∷◌, ◌++◌, length, refl, sym, ap, ◌∙◌, append_assoc, append-nil, Result, Ok, Err, arith}
use Rattle.std.specs.Prelude.{OnOk, IfOk}

-- a piece behind others
pub behind : (old a b mid new : List ℕ) → mid ≡ old ++ a → new ≡ mid ++ b → new ≡ old ++ (a ++ b)
behind old a b mid new e f = f ∙ ap (λ (l : List ℕ). l ++ b) e ∙ append_assoc old a b

-- nothing behind others
pub nothing : (old : List ℕ) → old ≡ old ++ []
nothing old = sym (append-nil old)

-- a byte, or nothing, behind others that stand behind a head
pub with_cut : (head packets cut all classic : List ℕ) → classic ≡ head ++ all → all ≡ packets ++ cut → classic ≡ (head ++ packets) ++ cut
with_cut head packets cut all classic is parts = is ∙ ap (λ (l : List ℕ). head ++ l) parts ∙ sym (append_assoc head packets cut)

-- what holds where a result is fine
pub on_ok : {A E : Type 0} {P Q : Type 0} (r : Result A E) → (P → Q) → OnOk r P → OnOk r Q
on_ok (Ok x) f p = f p
on_ok (Err e) f p = p

pub if_ok : {A E : Type 0} {P Q : A → Type 0} (r : Result A E) → ((x : A) → P x → Q x) → IfOk r P → IfOk r Q
if_ok (Ok x) f p = f x p
if_ok (Err e) f p = p

pub none_left : (xs : List ℕ) → length xs ≡ 0 → xs ≡ []
none_left [] h = refl
none_left (x ∷ xs) h = absurd (omega (arith, h))
