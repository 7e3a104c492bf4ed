-- Hex digits of bytes.
use Rattle.std.proofs.Common.{◌≡◌, ℕ, List, [], ◌∷◌, ◌++◌, ◌/◌, ◌%◌, ◌==◌, Bool, true, false, length, slice_index, take, drop, refl, sym, ap, ◌∙◌, true≢false, nat_lt, Result, Ok, Err}
use Rattle.std.specs.Prelude.{MatchResult, IsOk}
use Rattle.std.specs.Str.{IsUtf8, IsAscii}
use Rattle.std.proofs.lemmas.List.{take-append-drop}
use Rattle.std.proofs.lemmas.Str.{IsUtf8-from_ascii}
use Rattle.std.proofs.lemmas.Str.Ascii.{IsAscii-cons, IsAscii-nil}
use Rattle.std.proofs.lemmas.Bool.{and_parts, ltb-true}
use Rattle.std.specs.List.{list_all}
use Rattle.hex.specs.Hex.{encode_with, encode_lower, lower_digits}
use Rattle.hex.proofs.HexLemmas.{IsAscii-encode_with}
use Rattle.enet_text.specs.Texts.{bytes_text}

encode_both : (t front rest : List ℕ) → encode_with t front ++ encode_with t rest ≡ encode_with t (front ++ rest)
unfolding encode_with
encode_both t [] rest = refl
encode_both t (byte ∷ front) rest = ap (λ (l : List ℕ). slice_index t (byte / 16) ∷ slice_index t (byte % 16) ∷ l) (encode_both t front rest)

-- bytes in two parts
pub encode_split : (n : ℕ) (bytes front rest : List ℕ) → front ≡ take n bytes → rest ≡ drop n bytes
    → encode_lower front ++ encode_lower rest ≡ encode_lower bytes
encode_split n bytes front rest first second =
    encode_both lower_digits front rest ∙ ap encode_lower (ap (λ (l : List ℕ). l ++ rest) first ∙ ap (λ (l : List ℕ). take n bytes ++ l) second ∙ take-append-drop n bytes)

-- where there are bytes, their text is their digits
pub some_bytes : (bytes : List ℕ) (empty : Bool) → empty ≡ (length bytes == 0) → empty ≡ false → encode_lower bytes ≡ bytes_text bytes
some_bytes [] empty is filled = absurd (true≢false (sym is ∙ filled))
some_bytes (byte ∷ bytes) empty is filled = refl

all_small : (bytes : List ℕ) → list_all (λ byte. nat_lt byte 128) bytes ≡ true → IsAscii bytes
all_small [] small = IsAscii-nil
all_small (byte ∷ bytes) small =
    let both = and_parts (nat_lt byte 128) (list_all (λ other. nat_lt other 128) bytes) small in
    IsAscii-cons byte bytes (ltb-true byte 128 both.0) (all_small bytes both.1)

pub IsUtf8-encode_lower : (bytes : List ℕ) → IsUtf8 (encode_lower bytes)
IsUtf8-encode_lower bytes = IsUtf8-from_ascii (encode_lower bytes) (IsAscii-encode_with lower_digits bytes (all_small lower_digits refl))

-- what can't be refused is read
pub is_read : {T E : Type 0} (P : T → Type 0) (Q : E → Type 0) (r : Result T E) → MatchResult r P Q → ((e : E) → Q e → ⊥) → IsOk r
is_read P Q (Ok x) m never = refl
is_read P Q (Err e) m never = absurd (never e m)
