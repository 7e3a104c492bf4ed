-- What is told of a packet whole is read back: in quotes letter by letter, else in hex.
use Rattle.std.proofs.Common.{arith, ◌≡◌, ◌≢◌, ◌==◌, ◌&&◌, ◌+◌, ◌*◌, ◌/◌, ◌%◌, ◌<◌, ◌≤◌, ℕ, suc, Bool, true, false, cond, nat_lt, List, [], ◌∷◌, ◌++◌, length, Option, Some, None, refl, sym, ap, subst, ◌∙◌, append_assoc, append-nil}
use Rattle.std.specs.Prelude.{bytes_eq, codes, flat_map, nat_le, nat_eq, option_map, option_and_then, slice_index}
use Rattle.std.specs.List.{starts_with}
use Rattle.std.specs.Result.{result_ok}
use Rattle.std.proofs.lemmas.Bool.{eqb-true, eqb-false, ne_eqb, le-ltb, and_parts, leb-true}
use Rattle.hex.specs.Hex.{IsBytes, decode_of, encode_lower, encode_with, hex_digit_value, lower_digits}
use Rattle.hex.proofs.HexLemmas.{IsDigits-lower_digits, decode_of-encode_lower}
use Rattle.enet_text.specs.Words.{letter, escape, high, low, onto, unquoted, bytes_of}
use Rattle.enet_text.specs.Texts.{bytes_text}
use Rattle.enet_text.specs.Bodies.{plain, escaped, quoted, is_text, told_text, more_text, body_text}
use Rattle.enet_text.specs.declared.body.Bodies.TheVariants.{Whole}
use Rattle.enet_text.proofs.QuoteLemmas.{letter-plain, high-low, low-read}
use Rattle.enet_text.proofs.WordLemmas.{bytes_of-none, bytes_of-text, bytes_of-hex}

-- ---- a byte in quotes is read back

behind : (value byte : ℕ) (rest : List ℕ) → byte ≡ value → onto (Some value) (unquoted letter rest) ≡ onto (Some byte) (unquoted letter rest)
behind value byte rest e = ap (λ k. onto (Some k) (unquoted letter rest)) (sym e)

in_hex : (byte : ℕ) (rest : List ℕ) → byte < 256 → unquoted letter ((codes "\\x" ++ bytes_text (byte ∷ [])) ++ rest) ≡ onto (Some byte) (unquoted letter rest)
unfolding unquoted encode_with
in_hex byte rest small =
    let h : ℕ = slice_index lower_digits (byte / 16) in
    let l : ℕ = slice_index lower_digits (byte % 16) in
    high-low (h ∷ l ∷ rest) (l ∷ rest) h refl (byte / 16) (sym (IsDigits-lower_digits (byte / 16) (omega (arith, small))))
    ∙ low-read (l ∷ rest) rest l refl (byte / 16) (byte % 16) (sym (IsDigits-lower_digits (byte % 16) (omega arith)))
    ∙ behind (16 * (byte / 16) + byte % 16) byte rest (omega arith)

plain_by : (byte : ℕ) (rest : List ℕ) (printable : Bool) → (nat_le 32 byte && nat_le byte 126) ≡ printable → byte < 256 → byte ≢ 34 → byte ≢ 92
    → unquoted letter (cond printable (byte ∷ []) (codes "\\x" ++ bytes_text (byte ∷ [])) ++ rest) ≡ onto (Some byte) (unquoted letter rest)
plain_by byte rest true e small quote backslash =
    letter-plain (byte ∷ rest) rest byte refl quote (leb-true 32 byte (and_parts (nat_le 32 byte) (nat_le byte 126) e).0) backslash
plain_by byte rest false e small quote backslash = in_hex byte rest small

read_by : (byte : ℕ) (rest : List ℕ) (t n r z q s : Bool) → (byte == 9) ≡ t → (byte == 10) ≡ n → (byte == 13) ≡ r → (byte == 0) ≡ z → (byte == 34) ≡ q
    → (byte == 92) ≡ s → byte < 256
    → unquoted letter (cond t (codes "\\t") (cond n (codes "\\n") (cond r (codes "\\r") (cond z (codes "\\0") (cond q (codes "\\\"")
    (cond s (codes "\\\\") (plain byte)))))) ++ rest) ≡ onto (Some byte) (unquoted letter rest)
unfolding unquoted
read_by byte rest true n r z q s one two three four five six small = behind 9 byte rest (eqb-true byte 9 one)
read_by byte rest false true r z q s one two three four five six small = behind 10 byte rest (eqb-true byte 10 two)
read_by byte rest false false true z q s one two three four five six small = behind 13 byte rest (eqb-true byte 13 three)
read_by byte rest false false false true q s one two three four five six small = behind 0 byte rest (eqb-true byte 0 four)
read_by byte rest false false false false true s one two three four five six small = behind 34 byte rest (eqb-true byte 34 five)
read_by byte rest false false false false false true one two three four five six small = behind 92 byte rest (eqb-true byte 92 six)
read_by byte rest false false false false false false one two three four five six small =
    plain_by byte rest (nat_le 32 byte && nat_le byte 126) refl small (eqb-false byte 34 five) (eqb-false byte 92 six)

read_byte : (byte : ℕ) (rest : List ℕ) → byte < 256 → unquoted letter (escaped byte ++ rest) ≡ onto (Some byte) (unquoted letter rest)
read_byte byte rest small = read_by byte rest (byte == 9) (byte == 10) (byte == 13) (byte == 0) (byte == 34) (byte == 92) refl refl refl refl refl refl small

-- ---- so are all of them

last : unquoted letter (34 ∷ []) ≡ Some []
unfolding unquoted
last = refl

read_all : (bytes : List ℕ) → IsBytes bytes → unquoted letter (flat_map escaped bytes ++ 34 ∷ []) ≡ Some bytes
read_all [] h = last
read_all (byte ∷ bytes) h =
    ap (unquoted letter) (append_assoc (escaped byte) (flat_map escaped bytes) (34 ∷ []))
    ∙ read_byte byte (flat_map escaped bytes ++ 34 ∷ []) (h 0) ∙ ap (onto (Some byte)) (read_all bytes (λ i. h (suc i)))

quoted_back : (bytes : List ℕ) → IsBytes bytes → bytes_of (quoted bytes) ≡ Some bytes
quoted_back bytes h = bytes_of-text (quoted bytes) refl refl ∙ read_all bytes h

no_quote : (digit value : ℕ) → hex_digit_value digit ≡ Some value → (34 == digit) ≡ false
no_quote digit value e = ne_eqb 34 digit (λ same. (let none : None ≡ Some value = ap hex_digit_value same ∙ e in cc))

both_no : (b : Bool) → (b && false) ≡ false
both_no true = refl
both_no false = refl

hex_back : (bytes : List ℕ) → IsBytes bytes → bytes_of (bytes_text bytes) ≡ Some bytes
unfolding encode_with
hex_back [] h = bytes_of-none (codes "-") refl
hex_back (byte ∷ bytes) h =
    let first : ℕ = slice_index lower_digits (byte / 16) in
    let starts : (34 == first) ≡ false = no_quote first (byte / 16) (IsDigits-lower_digits (byte / 16) (omega (arith, h 0))) in
    bytes_of-hex (encode_lower (byte ∷ bytes)) _ (sym (both_no (first == 45))) (sym (ap (λ b. b && true) starts)) (decode_of-encode_lower (byte ∷ bytes) h)

told_back : (text : Bool) (bytes : List ℕ) → IsBytes bytes → bytes_of (told_text text bytes) ≡ Some bytes
told_back true bytes h = quoted_back bytes h
told_back false bytes h = hex_back bytes h

-- a packet that is told whole
pub body-back : (body : List ℕ) → IsBytes body → bytes_of (body_text Whole body) ≡ Some body
unfolding body_text
body-back body h =
    let all : more_text (length body) (length body) ≡ [] = ap (λ b. cond b (codes "..") []) (le-ltb (length body) (length body) (omega arith)) in
    ap bytes_of (ap (λ more. told_text (is_text body) body ++ more) all ∙ append-nil (told_text (is_text body) body)) ∙ told_back (is_text body) body h
