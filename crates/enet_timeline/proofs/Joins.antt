-- A text that grows by one piece after another.
use Rattle.std.proofs.Common.{◌≡◌, ℕ, List, ◌++◌, sym, ap, ◌∙◌, append_assoc}

-- a piece behind others
behind : (s a b one new : List ℕ) → one ≡ s ++ a → new ≡ one ++ b → new ≡ s ++ (a ++ b)
behind s a b one new e f = f ∙ ap (λ (l : List ℕ). l ++ b) e ∙ append_assoc s a b

pub join2 : (s a b one new whole : List ℕ) → one ≡ s ++ a → new ≡ one ++ b → whole ≡ a ++ b → new ≡ s ++ whole
join2 s a b one new whole e f is = behind s a b one new e f ∙ ap (λ (l : List ℕ). s ++ l) (sym is)

pub join3 : (s a b c one two new whole : List ℕ) → one ≡ s ++ a → two ≡ one ++ b → new ≡ two ++ c → whole ≡ (a ++ b) ++ c → new ≡ s ++ whole
join3 s a b c one two new whole e f g is = join2 s (a ++ b) c two new whole (behind s a b one two e f) g is

pub join4 : (s a b c d one two three new whole : List ℕ) → one ≡ s ++ a → two ≡ one ++ b → three ≡ two ++ c → new ≡ three ++ d
    → whole ≡ ((a ++ b) ++ c) ++ d → new ≡ s ++ whole
join4 s a b c d one two three new whole e f g h is = join3 s (a ++ b) c d two three new whole (behind s a b one two e f) g h is

pub join5 : (s a b c d p one two three four new whole : List ℕ) → one ≡ s ++ a → two ≡ one ++ b → three ≡ two ++ c → four ≡ three ++ d → new ≡ four ++ p
    → whole ≡ (((a ++ b) ++ c) ++ d) ++ p → new ≡ s ++ whole
join5 s a b c d p one two three four new whole e f g h i is = join4 s (a ++ b) c d p two three four new whole (behind s a b one two e f) g h i is

pub join6 : (s a b c d p q one two three four five new whole : List ℕ) → one ≡ s ++ a → two ≡ one ++ b → three ≡ two ++ c → four ≡ three ++ d → five ≡ four ++ p
    → new ≡ five ++ q → whole ≡ ((((a ++ b) ++ c) ++ d) ++ p) ++ q → new ≡ s ++ whole
join6 s a b c d p q one two three four five new whole e f g h i j is = join5 s (a ++ b) c d p q two three four five new whole (behind s a b one two e f) g h i j is

pub join7 : (s a b c d p q r one two three four five six new whole : List ℕ) → one ≡ s ++ a → two ≡ one ++ b → three ≡ two ++ c → four ≡ three ++ d → five ≡ four ++ p
    → six ≡ five ++ q → new ≡ six ++ r → whole ≡ (((((a ++ b) ++ c) ++ d) ++ p) ++ q) ++ r → new ≡ s ++ whole
join7 s a b c d p q r one two three four five six new whole e f g h i j k is = join6 s (a ++ b) c d p q r two three four five six new whole (behind s a b one two e f) g h i j k is

pub join8 : (s a b c d p q r t one two three four five six seven new whole : List ℕ) → one ≡ s ++ a → two ≡ one ++ b → three ≡ two ++ c → four ≡ three ++ d
    → five ≡ four ++ p → six ≡ five ++ q → seven ≡ six ++ r → new ≡ seven ++ t → whole ≡ ((((((a ++ b) ++ c) ++ d) ++ p) ++ q) ++ r) ++ t → new ≡ s ++ whole
join8 s a b c d p q r t one two three four five six seven new whole e f g h i j k l is =
    join7 s (a ++ b) c d p q r t two three four five six seven new whole (behind s a b one two e f) g h i j k l is
