-- Numbers, peers, addresses and bytes, from what the functions below them tell; lines.
use Rattle.std.proofs.Common.{◌≡◌, ◌<◌, ◌≤◌, ◌^◌, ◌+◌, ◌==◌, ◌&&◌, ℕ, suc, Bool, true, false, not, cond, nat_lt, List, [], ◌∷◌, length, get_or, take, drop, filter, Option, Some, None, Result, Ok, Err, ◌⊎◌, inl, inr, arith, refl, sym, ap, subst, ◌∙◌, unwrap_or, one-add, add-one, add-zero, length-take, length-drop, get_or-drop}
use Rattle.std.specs.Prelude.{position, option_and_then, bytes_eq, codes, nat_eq}
use Rattle.std.specs.List.{slice_split, onto_first, position_or_len, list_all, before_first, after_first, starts_with}
use Rattle.std.specs.Option.{SomeIff}
use Rattle.std.specs.Result.{OkIff, result_ok}
use Rattle.std.specs.Char.{is_digit}
use Rattle.std.specs.Str.Parse.{IsNumeral, AllDigits, digits_value}
use Rattle.std.proofs.lemmas.Bool.{ltb-true, ltb-false, lt-ltb, and_parts, and_from, both_ways, not-true}
use Rattle.std.proofs.lemmas.List.{take_all, drop_all}
use Rattle.std.proofs.Math.Seq.{drop-cons}
use Rattle.std.proofs.lemmas.Grind.{common_steps}
use Rattle.std.proofs.lemmas.Option.{cond_some}
use Rattle.std.proofs.lemmas.List.Splits.{slice_split-cons_yes, slice_split-cons_no, slice_split_first, length-slice_split}
use Rattle.std.proofs.lemmas.List.Sums.{passes_at_first}
use Rattle.hex.specs.Hex.{decode_of}
use Rattle.hex.specs.declared.error.FromHexError.{FromHexError}
use Rattle.hex.specs.declared.error.FromHexError.TheVariants.{OutOfMemory}
use Rattle.enet_text.specs.Inspected.{lines_of}
use Rattle.enet_text.specs.Words.{letter, unquoted, parts, number_below, is_number, peer_of, bytes_of}

abbrev pub is_piece : List ℕ → Bool
is_piece piece = nat_lt 0 (length piece)

pub no_place : (b : Bool) (k : ℕ) → cond b (Some k) None ≡ None → b ≡ false
no_place true k e = absurd (cc)
no_place false k e = refl

pub kept : (piece : List ℕ) (pieces : List (List ℕ)) → 0 < length piece → filter is_piece (piece ∷ pieces) ≡ piece ∷ filter is_piece pieces
kept piece pieces h = ap (λ b. cond b (piece ∷ filter is_piece pieces) (filter is_piece pieces)) (lt-ltb 0 (length piece) h)

-- a text without a byte that separates is one piece
unsplit_by : (p : ℕ → Bool) (byte : ℕ) (rest : List ℕ) (b : Bool) → p byte ≡ b
    → (length rest ≤ position_or_len p rest → slice_split p rest ≡ rest ∷ [])
    → suc (length rest) ≤ cond (not b) (1 + position_or_len p rest) 0 → slice_split p (byte ∷ rest) ≡ (byte ∷ rest) ∷ []
unsplit_by p byte rest true e h far = absurd (omega arith)
unsplit_by p byte rest false e h far = slice_split-cons_no p byte rest e ∙ ap (onto_first byte) (h (omega arith))

unsplit : (p : ℕ → Bool) (text : List ℕ) → length text ≤ position_or_len p text → slice_split p text ≡ text ∷ []
unsplit p [] far = refl
unsplit p (byte ∷ rest) far = unsplit_by p byte rest (p byte) refl (unsplit p rest) far

-- whether digits are a number is decided
all_digits : (word : List ℕ) → AllDigits 10 word → list_all (λ byte. is_digit byte 10) word ≡ true
all_digits [] h = refl
all_digits (byte ∷ rest) h = and_from _ _ (lt-ltb _ _ h.0) (all_digits rest h.1)

digits_all : (word : List ℕ) → list_all (λ byte. is_digit byte 10) word ≡ true → AllDigits 10 word
digits_all [] h = tt
digits_all (byte ∷ rest) h = let both = and_parts (is_digit byte 10) (list_all (λ b. is_digit b 10) rest) h in (ltb-true _ _ both.0, digits_all rest both.1)

abbrev Spells : ℕ → List ℕ → Type 0
Spells limit word = IsNumeral 10 word × (digits_value 10 word < limit)

abbrev is_spelled : ℕ → List ℕ → Bool
is_spelled limit word = is_number word && nat_lt (digits_value 10 word) limit

spelled : (limit : ℕ) (word : List ℕ) → Spells limit word → is_spelled limit word ≡ true
spelled limit word h = and_from _ _ (and_from _ _ (lt-ltb _ _ h.0.0) (all_digits word h.0.1)) (lt-ltb _ _ h.1)

is_number-IsNumeral : (word : List ℕ) → is_number word ≡ true → IsNumeral 10 word
is_number-IsNumeral word h = let both = and_parts (nat_lt 0 (length word)) _ h in (ltb-true _ _ both.0, digits_all word both.1)

is_spelled-Spells : (limit : ℕ) (word : List ℕ) → is_spelled limit word ≡ true → Spells limit word
is_spelled-Spells limit word h = let both = and_parts (is_number word) (nat_lt (digits_value 10 word) limit) h in (is_number-IsNumeral word both.0, ltb-true _ _ both.1)

not_spelled_by : (limit : ℕ) (word : List ℕ) (b : Bool) → is_spelled limit word ≡ b → ¬ Spells limit word → cond b (Some (digits_value 10 word)) None ≡ None
not_spelled_by limit word true e h = absurd (h (is_spelled-Spells limit word e))
not_spelled_by limit word false e h = refl

not_spelled : (limit : ℕ) (word : List ℕ) → ¬ Spells limit word → number_below limit word ≡ None
unfolding number_below
not_spelled limit word h = not_spelled_by limit word _ refl h

is_spelled_by : (limit : ℕ) (word : List ℕ) → Spells limit word → number_below limit word ≡ Some (digits_value 10 word)
unfolding number_below
is_spelled_by limit word h = ap (λ b. cond b (Some (digits_value 10 word)) None) (spelled limit word h)

-- what is the value exactly where a numeral stands is the number below the limit
pub number_below-is : (limit : ℕ) (word : List ℕ) (r : Option ℕ) → SomeIff r (IsNumeral 10 word × (digits_value 10 word < limit)) (digits_value 10 word)
    → r ≡ number_below limit word
number_below-is limit word None h = sym (not_spelled limit word h)
number_below-is limit word (Some n) h = ap Some h.1 ∙ sym (is_spelled_by limit word h.0)

-- an empty word is no number
pub number_below-nothing : (limit : ℕ) → number_below limit [] ≡ None
unfolding number_below
number_below-nothing limit = refl

-- what fits no 64 bits fits no fewer
pub number_below-no : (limit : ℕ) (word : List ℕ) (r : Option ℕ) → limit ≤ 2 ^ 64 → r ≡ None → ¬ (IsNumeral 10 word × (digits_value 10 word < 2 ^ 64))
    → r ≡ number_below limit word
number_below-no limit word r within e h = e ∙ sym (not_spelled limit word (λ s. h (s.0, omega (arith, s.1, within))))

-- the number in fewer bits
pub number_below-narrow : {E : Type 0} (limit n : ℕ) (word : List ℕ) (r : Option ℕ) (tried : Result ℕ E) → IsNumeral 10 word → n ≡ digits_value 10 word
    → OkIff tried (n < limit) n → r ≡ result_ok tried → r ≡ number_below limit word
number_below-narrow limit n word r (Ok m) numeral value fits e =
    e ∙ ap Some (fits.1 ∙ value) ∙ sym (is_spelled_by limit word (numeral, subst (λ k. k < limit) value fits.0))
number_below-narrow limit n word r (Err x) numeral value fits e = e ∙ sym (not_spelled limit word (λ s. fits (subst (λ k. k < limit) (sym value) s.1)))

abbrev is_point : ℕ → Bool
is_point byte = byte == 46

place_of : (p : ℕ → Bool) (text : List ℕ) (k : ℕ) → position p text ≡ Some k → (position_or_len p text ≡ k) × (k < length text)
place_of p text k e =
    let found : (nat_lt (position_or_len p text) (length text) ≡ true) × (position_or_len p text ≡ k) = cond_some _ _ _ e in
    (found.1, omega (arith, ltb-true _ _ found.0, found.1))

-- a peer's name from the numbers before and behind the point
pub peer_of-parts : (word : List ℕ) (slot generation : Option ℕ) → number_below (2 ^ 16) (before_first is_point word) ≡ slot
    → number_below (2 ^ 32) (after_first is_point word) ≡ generation
    → peer_of word ≡ option_and_then (λ s. option_and_then (λ g. Some (record { slot = s; generation = g })) generation) slot
unfolding peer_of
peer_of-parts word slot generation first second =
    ap (λ o. option_and_then (λ s. option_and_then (λ g. Some (record { slot = s; generation = g })) (number_below (2 ^ 32) (after_first is_point word))) o) first
    ∙ ap (λ o. option_and_then (λ s. option_and_then (λ g. Some (record { slot = s; generation = g })) o) slot) second

-- a name without a point is none
no_peer : (word : List ℕ) (slot : Option ℕ) → number_below (2 ^ 16) (before_first is_point word) ≡ slot
    → number_below (2 ^ 32) (after_first is_point word) ≡ None → peer_of word ≡ None
no_peer word None first second = peer_of-parts word None None first second
no_peer word (Some n) first second = peer_of-parts word (Some n) None first second

pub peer_of-no_point : (word : List ℕ) → position (λ b. b == 46) word ≡ None → peer_of word ≡ None
peer_of-no_point word e =
    let far : length word ≤ position_or_len is_point word = ltb-false _ _ (no_place _ _ e) in
    let behind : after_first is_point word ≡ [] = drop_all _ word (omega arith) in
    no_peer word _ refl (ap (number_below (2 ^ 32)) behind ∙ number_below-nothing (2 ^ 32))

-- a name with one, in the steps that a function takes
module _ (word front back : List ℕ) (point : ℕ) (found : position (λ b. b == 46) word ≡ Some point) where
  before_is : front ≡ take point word → before_first is_point word ≡ front
  before_is cut = ap (λ k. take k word) (place_of is_point word point found).0 ∙ sym cut

  after_is : back ≡ drop (point + 1) word → after_first is_point word ≡ back
  after_is cut = ap (λ k. drop (k + 1) word) (place_of is_point word point found).0 ∙ sym cut

  pub peer_of-no_slot : front ≡ take point word → None ≡ number_below (2 ^ 16) front → peer_of word ≡ None
  peer_of-no_slot cut none = peer_of-parts word None _ (ap (number_below (2 ^ 16)) (before_is cut) ∙ sym none) refl

  pub peer_of-both : (slot generation : Option ℕ) → front ≡ take point word → back ≡ drop (point + 1) word → slot ≡ number_below (2 ^ 16) front
      → generation ≡ number_below (2 ^ 32) back
      → peer_of word ≡ option_and_then (λ s. option_and_then (λ g. Some (record { slot = s; generation = g })) generation) slot
  peer_of-both slot generation first second s g = peer_of-parts word slot generation
      (ap (number_below (2 ^ 16)) (before_is first) ∙ sym s) (ap (number_below (2 ^ 32)) (after_is second) ∙ sym g)

-- the bytes of a word that is no `-`
abbrev is_none : List ℕ → Bool
is_none word = bytes_eq word (codes "-")

abbrev is_quoted : List ℕ → Bool
is_quoted word = starts_with nat_eq word (codes "\"")

pub bytes_of-none : (word : List ℕ) → true ≡ is_none word → bytes_of word ≡ Some []
unfolding bytes_of
bytes_of-none word same = ap (λ b. cond b (Some []) (cond (is_quoted word) (unquoted letter (drop 1 word)) (result_ok (decode_of word)))) (sym same)

pub bytes_of-text : (word : List ℕ) → false ≡ is_none word → true ≡ is_quoted word → bytes_of word ≡ unquoted letter (drop 1 word)
unfolding bytes_of
bytes_of-text word other quoted =
    ap (λ b. cond b (Some []) (cond (is_quoted word) (unquoted letter (drop 1 word)) (result_ok (decode_of word)))) (sym other)
    ∙ ap (λ b. cond b (unquoted letter (drop 1 word)) (result_ok (decode_of word))) (sym quoted)

pub bytes_of-hex : (word : List ℕ) (decoded : Result (List ℕ) FromHexError) → false ≡ is_none word → false ≡ is_quoted word → decode_of word ≡ decoded
    → bytes_of word ≡ result_ok decoded
unfolding bytes_of
bytes_of-hex word decoded other plain e =
    ap (λ b. cond b (Some []) (cond (is_quoted word) (unquoted letter (drop 1 word)) (result_ok (decode_of word)))) (sym other)
    ∙ ap (λ b. cond b (unquoted letter (drop 1 word)) (result_ok (decode_of word))) (sym plain) ∙ ap result_ok e

-- what can't be decoded spells no bytes
pub bytes_of-bad : (word : List ℕ) (error : FromHexError) → false ≡ is_none word → false ≡ is_quoted word → ¬ (error ≡ OutOfMemory)
    → (error ≡ OutOfMemory) ⊎ (decode_of word ≡ Err error) → None ≡ bytes_of word
bytes_of-bad word error other plain room (inl memory) = absurd (room memory)
bytes_of-bad word error other plain room (inr bad) = sym (bytes_of-hex word (Err error) other plain bad)

-- a word without a point is one part
pub parts-one : (text : List ℕ) → position is_point text ≡ None → parts text ≡ text ∷ []
unfolding parts
parts-one text e = unsplit is_point text (ltb-false _ _ (no_place _ _ e))

-- any other begins with the part before its first point
pub parts-more : (text before after : List ℕ) (point : ℕ) → position is_point text ≡ Some point → before ≡ take point text → after ≡ drop (point + 1) text
    → parts text ≡ before ∷ parts after
unfolding parts
parts-more text before after point e front back =
    let at = place_of is_point text point e in
    slice_split_first is_point text 0 (omega (arith, at.0, at.1)) ∙ ap (λ k. take k text ∷ slice_split is_point (drop (k + 1) text)) at.0
    ∙ ap (λ f. f ∷ slice_split is_point (drop (point + 1) text)) (sym front) ∙ ap (λ r. before ∷ slice_split is_point r) (sym back)

-- each word has a part
pub parts-some : (text : List ℕ) → 1 ≤ length (parts text)
unfolding parts
parts-some text = omega (arith, length-slice_split is_point text)

-- ---- lines

abbrev is_feed : ℕ → Bool
is_feed byte = byte == 10

pub lines-one : (text : List ℕ) → position is_feed text ≡ None → lines_of text ≡ text ∷ []
lines-one text e = unsplit is_feed text (ltb-false _ _ (no_place _ _ e))

pub lines-more : (text before after : List ℕ) (feed : ℕ) → position is_feed text ≡ Some feed → before ≡ take feed text → after ≡ drop (feed + 1) text
    → lines_of text ≡ before ∷ lines_of after
lines-more text before after feed e front back =
    let at = place_of is_feed text feed e in
    slice_split_first is_feed text 0 (omega (arith, at.0, at.1)) ∙ ap (λ k. take k text ∷ slice_split is_feed (drop (k + 1) text)) at.0
    ∙ ap (λ f. f ∷ slice_split is_feed (drop (feed + 1) text)) (sym front) ∙ ap (λ r. before ∷ slice_split is_feed r) (sym back)
