-- The words of a line, and what each kind of word spells.
use Rattle.std.specs.Prelude.{◌≡◌, ℕ, ◌+◌, ◌*◌, ◌^◌, ◌&&◌, ◌==◌, nat_eq, nat_lt, Bool, true, false, if◌then◌else◌, List, [], ◌∷◌, length, drop, filter, codes, bytes_eq, Option, Some, None, option_map, option_and_then}
use Rattle.std.specs.Borrow.{Bor}
use Rattle.std.specs.Char.{is_digit}
use Rattle.std.specs.Int.{from_be_bytes, w32}
use Rattle.std.specs.List.{slice_split, before_first, after_first, list_all, onto_first, starts_with}
use Rattle.std.specs.Result.{result_ok}
use Rattle.std.specs.Str.Parse.{digits_value}
use Rattle.hex.specs.Hex.{decode_of, decode_sized, hex_digit_value}
use Rattle.enet_codec.specs.declared.event.PeerRef.{PeerRef}
use Rattle.enet_text.specs.declared.words.Quoting.{Quoting}
use Rattle.enet_text.specs.declared.words.Quoting.TheVariants.{Outside, Inside, Escaped}

-- Where the byte behind this one stands, by where this one does: a quote begins what stands in quotes and ends it, but not behind a
-- backslash.
abbrev pub after : Quoting → ℕ → Quoting
after Outside byte = if byte == 34 then Inside else Outside
after Inside byte = if byte == 34 then Outside else (if byte == 92 then Escaped else Inside)
after Escaped byte = Inside

-- Whether a byte that stands there separates words: a space that is not in quotes.
abbrev pub separates : Quoting → ℕ → Bool
separates Outside byte = byte == 32
separates Inside byte = false
separates Escaped byte = false

-- What stands between the spaces outside quotes, of bytes of which the first stands there.
abbrev pub pieces : Quoting → List ℕ → List (List ℕ)
pieces quoting [] = [] ∷ []
pieces quoting (byte ∷ rest) = if separates quoting byte then [] ∷ pieces Outside rest else onto_first byte (pieces (after quoting byte) rest)

-- That without the empty pieces.
unfoldable pub spaced : List ℕ → List (List ℕ)
spaced text = filter (λ piece. nat_lt 0 (length piece)) (pieces Outside text)

-- A word that begins with `#` begins a comment.
abbrev pub begins_comment : List ℕ → Bool
begins_comment word = starts_with nat_eq word (codes "#")

abbrev pub before_comment : List (List ℕ) → List (List ℕ)
before_comment [] = []
before_comment (word ∷ others) = if begins_comment word then [] else word ∷ before_comment others

-- The words of a text: what stands between its spaces outside quotes, up to a comment.
unfoldable pub words : List ℕ → List (List ℕ)
words text = before_comment (spaced text)

-- Those of a line, of which the first is one also where it begins with `#`.
abbrev pub behind_first : List (List ℕ) → List (List ℕ)
behind_first [] = []
behind_first (word ∷ others) = word ∷ before_comment others

unfoldable pub line_words : List ℕ → List (List ℕ)
line_words line = behind_first (spaced line)

-- Decimal digits, one at least.
abbrev pub is_number : List ℕ → Bool
is_number word = nat_lt 0 (length word) && list_all (λ byte. is_digit byte 10) word

-- The number that decimal digits spell, where it is below the limit.
unfoldable pub number_below : ℕ → List ℕ → Option ℕ
number_below limit word = if is_number word && nat_lt (digits_value 10 word) limit then Some (digits_value 10 word) else None

-- The second step, where the first gave a value.
infixl 10 ◌>>=◌
abbrev pub ◌>>=◌ : {A B : Type 0} → Option A → (A → Option B) → Option B
value >>= step = option_and_then step value

-- What one word spells, or two to five, where there are just so many.
abbrev pub of_one : {T : Type 0} → (List ℕ → Option T) → List (List ℕ) → Option T
of_one spelled (a ∷ []) = spelled a
of_one spelled _ = None

abbrev pub of_two : {T : Type 0} → (List ℕ → List ℕ → Option T) → List (List ℕ) → Option T
of_two spelled (a ∷ b ∷ []) = spelled a b
of_two spelled _ = None

abbrev pub of_three : {T : Type 0} → (List ℕ → List ℕ → List ℕ → Option T) → List (List ℕ) → Option T
of_three spelled (a ∷ b ∷ c ∷ []) = spelled a b c
of_three spelled _ = None

abbrev pub of_four : {T : Type 0} → (List ℕ → List ℕ → List ℕ → List ℕ → Option T) → List (List ℕ) → Option T
of_four spelled (a ∷ b ∷ c ∷ d ∷ []) = spelled a b c d
of_four spelled _ = None

abbrev pub of_five : {T : Type 0} → (List ℕ → List ℕ → List ℕ → List ℕ → List ℕ → Option T) → List (List ℕ) → Option T
of_five spelled (a ∷ b ∷ c ∷ d ∷ e ∷ []) = spelled a b c d e
of_five spelled _ = None

-- The peer that `slot.generation` spells: 16 bits and 32.
unfoldable pub peer_of : List ℕ → Option PeerRef
peer_of word = do
  slot ← number_below (2 ^ 16) (before_first (λ byte. byte == 46) word)
  generation ← number_below (2 ^ 32) (after_first (λ byte. byte == 46) word)
  Some (record { slot = slot; generation = generation })

-- The parts of a word: what stands between its points.
unfoldable pub parts : List ℕ → List (List ℕ)
parts word = slice_split (λ byte. byte == 46) word

-- The IPv4 address that four numbers of 8 bits with points between them spell, the first the highest.
abbrev pub ip_of : List ℕ → Option ℕ
ip_of word = of_four (λ a b c d. do
  a ← number_below (2 ^ 8) a
  b ← number_below (2 ^ 8) b
  c ← number_below (2 ^ 8) c
  d ← number_below (2 ^ 8) d
  Some (from_be_bytes w32 (a ∷ b ∷ c ∷ d ∷ []))) (parts word)

-- The byte that a letter stands for behind a backslash, but for the `x` before two hex digits.
abbrev pub escape_of : ℕ → Option ℕ
escape_of letter =
    if letter == 116 then Some 9 else (if letter == 110 then Some 10 else (if letter == 114 then Some 13 else (if letter == 48 then Some 0
    else (if letter == 34 then Some 34 else (if letter == 92 then Some 92 else None)))))

-- What comes next in quotes: a letter, what stands behind a backslash, or the first or the second digit behind `\x`.
pub data Next : Type 0 where
  letter : Next
  escape : Next
  high : Next
  low : ℕ → Next

-- The byte that was read, before those that are read behind it.
abbrev pub onto : Option ℕ → Option (List ℕ) → Option (List ℕ)
onto byte behind = option_and_then (λ b. option_map (λ bytes. b ∷ bytes) behind) byte

-- The quote that ends a text is the last byte.
abbrev pub at_end : List ℕ → Option (List ℕ)
at_end [] = Some []
at_end (byte ∷ rest) = None

-- The bytes that stand in quotes, from such a place on, up to the quote that ends them. A byte below 32 can't stand there.
unfoldable pub unquoted : Next → List ℕ → Option (List ℕ)
unquoted next [] = None
unquoted letter (c ∷ rest) =
    if c == 34 then at_end rest
    else (if c == 92 then unquoted escape rest else (if nat_lt c 32 then None else onto (Some c) (unquoted letter rest)))
unquoted escape (c ∷ rest) = if c == 120 then unquoted high rest else onto (escape_of c) (unquoted letter rest)
unquoted high (c ∷ rest) = option_and_then (λ digit. unquoted (low digit) rest) (hex_digit_value c)
unquoted (low digit) (c ∷ rest) = onto (option_map (λ other. 16 * digit + other) (hex_digit_value c)) (unquoted letter rest)

-- The bytes that hex of either case spells, or a text in quotes; `-` spells none.
unfoldable pub bytes_of : List ℕ → Option (List ℕ)
bytes_of word =
    if bytes_eq word (codes "-") then Some []
    else (if starts_with nat_eq word (codes "\"") then unquoted letter (drop 1 word) else result_ok (decode_of word))

-- The number that eight hex digits of either case spell.
unfoldable pub id_of : List ℕ → Option ℕ
id_of word = option_map (from_be_bytes w32) (result_ok (decode_sized word 4))

-- What the first word spells, beside the words behind it.
abbrev pub first : {A : Type 0} → (List ℕ → Option A) → List (List ℕ) → Option (A × List (List ℕ))
first spelled [] = None
first spelled (word ∷ others) = option_map (λ value. (value, others)) (spelled word)

-- A function has read the first word, and gives what it spells with the bytes behind it.
abbrev pub Reads : {A : Type 0} → (List ℕ → Option A) → List ℕ → Option (A × Bor (List ℕ)) → Type 0
Reads spelled text result = option_map (λ read. (read.0, words read.1.now)) result ≡ first spelled (words text)
