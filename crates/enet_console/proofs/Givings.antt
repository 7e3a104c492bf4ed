-- Bytes that are given, one by one.
use Rattle.std.proofs.Common.{◌≡◌, ◌≢◌, ◌≤◌, ◌-◌, ℕ, Bool, true, false, List, [], ◌∷◌, ◌++◌, length, take, drop, Option, Some, None, arith, refl, sym, ap, ◌∙◌, if◌then◌else◌}
use Rattle.std.specs.Prelude.{slice_range}
use Rattle.std.specs.Str.{IsUtf8, is_utf8}
use Rattle.std.proofs.lemmas.Str.{IsUtf8-from_is_utf8, is_utf8-from_IsUtf8}
use Rattle.enet_console.specs.declared.input.Input.{Input}
use Rattle.enet_console.specs.declared.word.Word.TheVariants.{Say}
use Rattle.enet_console.specs.Inputs.{rest, Goes}
use Rattle.enet_console.specs.Private.Inputs.{Gives, Takes}
use Rattle.enet_console.specs.Words.{kick_of, say_of}

range-none : (chunk : List ℕ) (from to : ℕ) → to ≤ from → slice_range chunk from to ≡ []
range-none chunk from to over = let none : to - from ≡ 0 = omega arith in ap (λ n. take n (drop from chunk)) none

goes-over : (before after : Input) (bytes : List ℕ) → before.to ≤ before.from → Goes before after bytes
goes-over before after bytes over =
    (bytes ++ rest after, ap (λ (l : List ℕ). l ++ (bytes ++ rest after)) (range-none before.chunk before.from before.to over))

-- where nothing was left, all that is given came
pub gives-fresh : (before between after : Input) (given : Option ℕ) → before.to ≤ before.from → Takes between after given → Gives before after given
gives-fresh before between after None over takes =
    (goes-over before after [] over, ap (λ (i : Input). rest i) takes.0 ∙ takes.1)
gives-fresh before between after (Some byte) over takes = goes-over before after (byte ∷ []) over

-- a peer's name with several pieces behind it
pub kick-none : (name : List ℕ) (others : List (List ℕ)) → 1 ≤ length others → length others ≢ 1 → kick_of (name ∷ others) ≡ None
kick-none name [] some isnt = absurd (omega arith)
kick-none name (one ∷ []) some isnt = absurd (isnt refl)
kick-none name (one ∷ two ∷ more) some isnt = refl

pub say-some : (text body : List ℕ) → IsUtf8 text → body ≡ text → Some (Say body) ≡ say_of text
say-some text body is e =
    ap (λ (b : List ℕ). Some (Say b)) e ∙ sym (ap (λ (b : Bool). (if b then Some (Say text) else None)) (is_utf8-from_IsUtf8 text is))

say-none_by : (text : List ℕ) (b : Bool) → is_utf8 text ≡ b → ¬ (IsUtf8 text) → (if b then Some (Say text) else None) ≡ None
say-none_by text true e isnt = absurd (isnt (IsUtf8-from_is_utf8 text e))
say-none_by text false e isnt = refl

pub say-none : (text : List ℕ) → ¬ (IsUtf8 text) → None ≡ say_of text
say-none text isnt = sym (say-none_by text (is_utf8 text) refl isnt)
