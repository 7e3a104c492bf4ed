-- When something happens first.
use Rattle.std.proofs.Common.{◌≡◌, ℕ, ◌+◌, ◌-◌, ◌^◌, ◌<◌, ◌≤◌, min, Bool, true, false, ◌||◌, leb, List, length, get_or, take, refl, sym, ap, ap₂, ◌∙◌, arith}
use Rattle.std.specs.List.{list_any}
use Rattle.std.proofs.lemmas.Bool.{le-leb, lt-leb, leb-true, leb-false}
use Rattle.std.proofs.lemmas.List.{take_all}
use Rattle.std.proofs.lemmas.List.Folds.{list_any_more}
use Rattle.enet_rtt.specs.Clock.{elapsed_time, HappensIn}

-- times add up, as long as they fit the clock
pub elapsed-sum : (later now last : ℕ) → later < 2 ^ 32 → now < 2 ^ 32 → last < 2 ^ 32 → elapsed_time later now + elapsed_time now last < 2 ^ 32
    → elapsed_time later last ≡ elapsed_time later now + elapsed_time now last
elapsed-sum later now last l n p fits = omega arith

pub elapsed-none : (later now last : ℕ) → later < 2 ^ 32 → now < 2 ^ 32 → last < 2 ^ 32 → elapsed_time later now ≡ 0 → elapsed_time later last ≡ elapsed_time now last
elapsed-none later now last l n p none = omega arith

-- so much time has passed since a moment
pub passes-in : (now last timeout : ℕ) → now < 2 ^ 32 → last < 2 ^ 32 → timeout < 2 ^ 32 → HappensIn (λ (later : ℕ). leb timeout (elapsed_time later last)) now (timeout - elapsed_time now last)
passes-in now last timeout n p t = record {
  before = λ later l less. let sum = elapsed-sum later now last l n p (omega arith) in lt-leb timeout (elapsed_time later last) (omega arith);
  first = λ some later l is. le-leb timeout (elapsed_time later last) (reached later l is (leb timeout (elapsed_time now last)) refl);
}
  where
    reached : (later : ℕ) → later < 2 ^ 32 → elapsed_time later now ≡ timeout - elapsed_time now last → (b : Bool) → leb timeout (elapsed_time now last) ≡ b → timeout ≤ elapsed_time later last
    reached later l is true e =
        let there : timeout ≤ elapsed_time now last = leb-true timeout (elapsed_time now last) e in
        let same = elapsed-none later now last l n p (omega arith) in
        omega arith
    reached later l is false e =
        let there : elapsed_time now last < timeout = leb-false timeout (elapsed_time now last) e in
        let sum = elapsed-sum later now last l n p (omega arith) in
        omega arith

pub never : (now : ℕ) → HappensIn (λ (later : ℕ). false) now 4294967295
never now = record { before = λ later l less. refl; first = λ some. absurd (omega arith) }

pub same-in : (f g : ℕ → Bool) (now wait : ℕ) → ((later : ℕ) → f later ≡ g later) → HappensIn f now wait → HappensIn g now wait
same-in f g now wait same h = record {
  before = λ later l less. sym (same later) ∙ h.before later l less;
  first = λ some later l is. sym (same later) ∙ h.first some later l is;
}

any-right : (b c : Bool) → c ≡ true → (b || c) ≡ true
any-right true c e = refl
any-right false c e = e

-- one of two
pub either-in : (f g : ℕ → Bool) (now a b : ℕ) → HappensIn f now a → HappensIn g now b → HappensIn (λ (later : ℕ). f later || g later) now (min a b)
either-in f g now a b h k = record {
  before = λ later l less. ap₂ (λ (x y : Bool). x || y) (h.before later l (omega arith)) (k.before later l (omega arith));
  first = λ some later l is. by later l is some (leb a b) refl;
}
  where
    by : (later : ℕ) → later < 2 ^ 32 → elapsed_time later now ≡ min a b → min a b < 4294967295 → (c : Bool) → leb a b ≡ c → (f later || g later) ≡ true
    by later l is some true e = let less : a ≤ b = leb-true a b e in ap (λ (x : Bool). x || g later) (h.first (omega arith) later l (omega arith))
    by later l is some false e = let less : b < a = leb-false a b e in any-right (f later) (g later) (k.first (omega arith) later l (omega arith))

-- one more of a list
pub more-in : {X : Type 0} (f : ℕ → X → Bool) (xs : List X) (i : ℕ) (d x : X) (now a b : ℕ) → i < length xs → get_or xs i d ≡ x
    → HappensIn (λ (later : ℕ). list_any (f later) (take i xs)) now a → HappensIn (λ (later : ℕ). f later x) now b
    → HappensIn (λ (later : ℕ). list_any (f later) (take (i + 1) xs)) now (min a b)
more-in {X = X} f xs i d x now a b inside is h k =
    same-in (λ later. list_any (f later) (take i xs) || f later x) (λ later. list_any (f later) (take (i + 1) xs)) now (min a b)
    (λ later. sym (list_any_more (f later) xs i d inside ∙ ap (λ (y : X). list_any (f later) (take i xs) || f later y) is))
    (either-in (λ later. list_any (f later) (take i xs)) (λ later. f later x) now a b h k)

pub all-in : {X : Type 0} (f : ℕ → X → Bool) (xs : List X) (i now wait : ℕ) → length xs ≤ i → HappensIn (λ (later : ℕ). list_any (f later) (take i xs)) now wait
    → HappensIn (λ (later : ℕ). list_any (f later) xs) now wait
all-in f xs i now wait past h =
    same-in (λ later. list_any (f later) (take i xs)) (λ later. list_any (f later) xs) now wait (λ later. ap (list_any (f later)) (take_all i xs past)) h
