-- A packet's bytes, as they are told.
use Rattle.std.specs.Prelude.{◌-◌, ◌==◌, ◌&&◌, ◌||◌, not, ℕ, nat_lt, nat_le, Bool, false, if◌then◌else◌, List, [], ◌∷◌, ◌++◌, length, take, codes, slice_get, Option, Some, None}
use Rattle.std.specs.List.{flat_map, list_all}
use Rattle.enet_text.specs.declared.body.Bodies.{Bodies}
use Rattle.enet_text.specs.declared.body.Bodies.TheVariants.{Short, Whole}
use Rattle.enet_text.specs.Texts.{bytes_text}

-- The bytes that are told: all, or the first 32.
abbrev pub told_in : Bodies → List ℕ → List ℕ
told_in Short body = if nat_lt 32 (length body) then take 32 body else body
told_in Whole body = body

-- A printable letter of ASCII, a tab, or what ends a line.
abbrev pub is_letter : ℕ → Bool
is_letter byte = (nat_le 32 byte && nat_le byte 126) || (byte == 9 || (byte == 10 || byte == 13))

abbrev pub is_zero : Option ℕ → Bool
is_zero None = false
is_zero (Some byte) = byte == 0

-- The bytes without a zero at their end, as strings of C have one.
abbrev pub without_zero : List ℕ → List ℕ
without_zero body = if is_zero (slice_get body (length body - 1)) then take (length body - 1) body else body

-- Bytes are text if there are letters, one at least, with a zero behind them or none.
abbrev pub are_letters : List ℕ → Bool
are_letters bytes = not (length bytes == 0) && list_all is_letter bytes

abbrev pub is_text : List ℕ → Bool
is_text body = are_letters (without_zero body)

-- A byte of text in quotes: as it is if it is printable, but for what C writes with a backslash.
abbrev pub plain : ℕ → List ℕ
plain byte = if nat_le 32 byte && nat_le byte 126 then byte ∷ [] else codes "\\x" ++ bytes_text (byte ∷ [])

abbrev pub escaped : ℕ → List ℕ
escaped byte =
    if byte == 9 then codes "\\t" else (if byte == 10 then codes "\\n" else (if byte == 13 then codes "\\r" else (if byte == 0 then codes "\\0"
    else (if byte == 34 then codes "\\\"" else (if byte == 92 then codes "\\\\" else plain byte)))))

abbrev pub quoted : List ℕ → List ℕ
quoted bytes = codes "\"" ++ flat_map escaped bytes ++ codes "\""

-- Bytes in quotes if the body is text, else in hex.
abbrev pub told_text : Bool → List ℕ → List ℕ
told_text text bytes = if text then quoted bytes else bytes_text bytes

-- Points, where not all bytes are told.
abbrev pub more_text : ℕ → ℕ → List ℕ
more_text told all = if nat_lt told all then codes ".." else []

unfoldable pub body_text : Bodies → List ℕ → List ℕ
body_text bodies body = told_text (is_text body) (told_in bodies body) ++ more_text (length (told_in bodies body)) (length body)
