-- A text that grows by one piece after another.
use Rattle.std.proofs.Common.{◌≡◌, ℕ, List, ◌++◌, refl, ap, ◌∙◌, append_assoc, Result, Ok, Err}
use Rattle.std.specs.Prelude.{OnOk}

-- a piece behind others
pub behind : (old a b mid new : List ℕ) → mid ≡ old ++ a → new ≡ mid ++ b → new ≡ old ++ (a ++ b)
behind old a b mid new e f = f ∙ ap (λ (l : List ℕ). l ++ b) e ∙ append_assoc old a b

-- a number behind others, with its name
pub named_behind : (old a name number mid new : List ℕ) → mid ≡ old ++ a → new ≡ mid ++ name ++ number → new ≡ old ++ (a ++ name ++ number)
named_behind old a name number mid new e f = behind old (a ++ name) number (mid ++ name) new (behind old a name mid (mid ++ name) e refl) f

-- what holds where a result is fine
pub if_ok : {A E : Type 0} {P Q : Type 0} (r : Result A E) → (P → Q) → OnOk r P → OnOk r Q
if_ok (Ok x) f p = f p
if_ok (Err e) f p = p
