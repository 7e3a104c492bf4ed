use Rattle.std.proofs.Common.{◌≡◌, ◌<◌, ◌^◌, ℕ, ◌+◌, ◌*◌, ◌≤◌, length, List, [], ◌∷◌, arith, sym, subst, ap, rules, Option, None}
use Rattle.std.specs.Option.{SomeIff}
use Rattle.std.specs.Char.{digit_value}
use Rattle.std.specs.Str.Parse.{IsNumeral, AllDigits, digits_value, digits_value_after}
use Rattle.enet_text.proofs.words.number.Goals as goal

-- digits that follow a number make it no less
grows : (n : ℕ) (ds : List ℕ) → n ≤ digits_value_after 10 n ds
grows n [] = omega arith
grows n (d ∷ ds) = omega (arith, grows (n * 10 + digit_value d) ds)

-- so where the number with one more digit is too large, the whole is
too_large : (n d : ℕ) (rest others all : List ℕ) → rest ≡ d ∷ others → digits_value_after 10 n rest ≡ digits_value 10 all
    → 2 ^ 64 ≤ n * 10 + digit_value d → ¬ (IsNumeral 10 all × (digits_value 10 all < 2 ^ 64))
too_large n d rest others all cut value large = λ fits.
    let P : List ℕ → Type 0 = λ s. digits_value_after 10 n s ≡ digits_value 10 all in
    let next : digits_value_after 10 (n * 10 + digit_value d) others ≡ digits_value 10 all = subst P cut value in
    omega (arith, grows (n * 10 + digit_value d) others, next, large, fits.1)

refused : (r : Option ℕ) (P : Type 0) (v : ℕ) → r ≡ None → ¬ P → SomeIff r P v
refused r P v none cannot = let Q : Option ℕ → Type 0 = λ o. SomeIff o P v in subst Q (sym none) cannot

-- where nothing is left, the number is the whole
whole : (n : ℕ) (rest all : List ℕ) → length rest ≡ 0 → (AllDigits 10 rest → AllDigits 10 all) → digits_value_after 10 n rest ≡ digits_value 10 all
    → AllDigits 10 all × (n ≡ digits_value 10 all)
whole n [] all empty digits value = (digits tt, value)
whole n (d ∷ ds) all empty digits value = absurd (omega (arith, empty))

pub returns-in_err-checked_mul : goal.returns-in_err-checked_mul
returns-in_err-checked_mul c =
    refused _ _ _ c.from_residual-in_err-checked_mul.ensures
    (too_large c.loop-digit.number c.in-Some.digit.now c.loop-digit.rest.now c.in-Some.others.now c.args.digits.now c.in-Some.ensures.cases.0 c.loop-digit.invariant.1
    (let over : c.loop-digit.number * 10 < 2 ^ 64 → ⊥ = c.in_err-checked_mul.ensures in omega (arith, over)))

pub returns-in_err-number : goal.returns-in_err-number
returns-in_err-number c =
    refused _ _ _ c.from_residual-in_err-number.ensures
    (too_large c.loop-digit.number c.in-Some.digit.now c.loop-digit.rest.now c.in-Some.others.now c.args.digits.now c.in-Some.ensures.cases.0 c.loop-digit.invariant.1
    (let same : digit_value c.from.result ≡ digit_value c.in-Some.digit.now = ap digit_value c.from.ensures in
    let over : c.in_ok-checked_mul.field-0 + c.from-in-Some.result < 2 ^ 64 → ⊥ = c.in_err-number.ensures in
    omega (arith, same, over, c.in_ok-checked_mul.ensures.1, c.in_ok-value.ensures.value.1, c.from-in-Some.ensures)))

pub returns : goal.returns
returns c =
    let all = whole c.loop-digit.number c.loop-digit.rest.now c.args.digits.now c.in_default.ensures.cases c.loop-digit.invariant.0.0 c.loop-digit.invariant.1 in
    let some : 0 < length c.args.digits.now = search rules in
    (((some, all.0), omega (arith, all.1, c.loop-digit.invariant.2)), all.1)
