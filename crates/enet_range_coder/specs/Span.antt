-- The interval that a coder narrows, and the bytes that it puts out.
use Rattle.std.specs.Prelude.{ℕ, ◌+◌, ◌-◌, ◌*◌, ◌/◌, ◌%◌, Bool, not, ◌&&◌, ◌==◌, nat_le, if◌then◌else◌, List, [], ◌∷◌, ◌++◌, Option, Some, None, zero, suc, slice_index}

-- the numbers from `low` on, below `low + range`
pub record Span : Type 0 where
  pub low : ℕ
  pub range : ℕ

-- `size` shares from `start` on, of `total`
pub record Cut : Type 0 where
  pub start : ℕ
  pub size : ℕ
  pub total : ℕ

-- all that 32 bits can say, but the highest
abbrev pub whole : Span
whole = record { low = 0; range = 4294967295 }

-- a share's numbers; what the division leaves is lost
abbrev pub narrowed : Span → Cut → Span
narrowed s c = record { low = s.low + c.start * (s.range / c.total); range = c.size * (s.range / c.total) }

-- the top bytes of the two ends differ
abbrev pub is_apart : Span → Bool
is_apart s = not (s.low / 16777216 == (s.low + s.range) / 16777216)

abbrev pub is_settled : Span → Bool
is_settled s = nat_le 65536 s.range && is_apart s

-- a number of 32 bits without its top byte, and a zero byte behind it
abbrev pub without_top : ℕ → ℕ
without_top low = low % 16777216 * 256

-- without its top byte; cut at the next multiple of 2 ^ 16 where the top bytes differ
abbrev pub shifted : Span → Span
shifted s = record {
  low = without_top s.low;
  range = (if is_apart s then 65536 - s.low % 65536 else s.range) * 256;
}

-- bytes before what follows
abbrev pub before : List ℕ → Option (List ℕ × Span) → Option (List ℕ × Span)
before bytes None = None
before bytes (Some q) = Some (bytes ++ q.0, q.1)

-- the bytes that are put out until the top byte isn't settled, at most `left`
unfoldable pub put_out : ℕ → Span → Option (List ℕ × Span)
put_out zero s = if is_settled s then Some ([], s) else None
put_out (suc left) s = if is_settled s then Some ([], s) else before (s.low / 16777216 ∷ []) (put_out left (shifted s))

-- a part is taken
abbrev pub coded : Span → Cut → Option (List ℕ × Span)
coded s c = put_out 3 (narrowed s c)

-- the end: the bytes of `low` without zeros behind them
unfoldable pub ending : ℕ → ℕ → List ℕ
ending zero low = []
ending (suc left) low = if low == 0 then [] else low / 16777216 ∷ ending left (without_top low)

-- a byte, 0 behind the last
abbrev pub byte_at : List ℕ → ℕ → ℕ
byte_at bytes at = slice_index bytes at % 256

-- the first four bytes as a number
abbrev pub window : List ℕ → ℕ
window bytes = byte_at bytes 0 * 16777216 + byte_at bytes 1 * 65536 + byte_at bytes 2 * 256 + byte_at bytes 3
