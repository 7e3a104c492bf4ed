-- How a context shares out an interval among an escape and the bytes that it has.
use Rattle.std.specs.Prelude.{ℕ, ◌+◌, ◌-◌, ◌/◌, Bool, ◌&&◌, ◌==◌, nat_le, nat_lt, max, if◌then◌else◌, List, [], ◌∷◌, length, drop, Option, Some, None}
use Rattle.enet_range_coder.specs.Span.{Span, Cut, before, coded, window}

pub record Context : Type 0 where
  pub unseen : ℕ  -- the weight of all bytes that it hasn't
  pub bytes : List (ℕ × ℕ)  -- the bytes that it has, each with its weight; 0 counts as 1

abbrev pub size : ℕ × ℕ → ℕ
size b = max b.1 1

abbrev pub weigh : List (ℕ × ℕ) → ℕ
weigh [] = 0
weigh (b ∷ bs) = size b + weigh bs

abbrev pub total : Context → ℕ
total c = c.unseen + weigh c.bytes

-- the weights before a byte, and its own
abbrev pub find : List (ℕ × ℕ) → ℕ → ℕ → Option (ℕ × ℕ)
find [] byte below = None
find (b ∷ bs) byte below = if b.0 == byte then Some (below, size b) else find bs byte (below + size b)

-- the byte whose weight holds `aim`
abbrev pub reach : List (ℕ × ℕ) → ℕ → ℕ → Option ℕ
reach [] aim below = None
reach (b ∷ bs) aim below = if nat_lt aim (below + size b) then Some b.0 else reach bs aim (below + size b)

-- a context that has no byte is passed over
abbrev pub serves : Context → Bool
serves c = nat_lt 0 c.unseen && nat_le (total c) 65536

abbrev pub escape : Context → Cut
escape c = record { start = 0; size = c.unseen; total = total c }

pub data Share : Type 0 where
  Nothing : Share
  Escape : Cut → Share
  Found : Cut → Share

abbrev pub found : Context → Option (ℕ × ℕ) → Share
found c None = Escape (escape c)
found c (Some p) = Found (record { start = c.unseen + p.0; size = p.1; total = total c })

abbrev pub share_of : Context → ℕ → Share
share_of c byte = if serves c then found c (find c.bytes byte 0) else Nothing

abbrev pub then_code : Option (List ℕ × Span) → (Span → Option (List ℕ × Span)) → Option (List ℕ × Span)
then_code None more = None
then_code (Some q) more = before q.0 (more q.1)

abbrev pub code_share : Share → Span → (Span → Option (List ℕ × Span)) → Option (List ℕ × Span)
code_share Nothing s more = more s
code_share (Escape c) s more = then_code (coded s c) more
code_share (Found c) s more = coded s c

-- the bytes put out for a byte: an escape from each context that hasn't it, and its part of the first that has
abbrev pub coding : List Context → ℕ → Span → Option (List ℕ × Span)
coding [] byte s = None
coding (c ∷ cs) byte s = code_share (share_of c byte) s (coding cs byte)

-- how many shares lie below what the bytes say
abbrev pub aim : Span → ℕ → List ℕ → ℕ
aim s total bytes = (window bytes - s.low) / max (s.range / total) 1

pub data Aim : Type 0 where
  Pass : Aim
  Leave : Cut → Aim
  At : ℕ → Aim

abbrev pub aimed : Context → Option ℕ → Aim
aimed c None = Leave (escape c)
aimed c (Some byte) = At byte

abbrev pub aim_at : Context → ℕ → Aim
aim_at c aim = if serves c then (if nat_lt aim c.unseen then Leave (escape c) else aimed c (reach c.bytes (aim - c.unseen) 0)) else Pass

abbrev pub guess_behind : Option (List ℕ × Span) → List ℕ → (Span → List ℕ → Option ℕ) → Option ℕ
guess_behind None bytes more = None
guess_behind (Some q) bytes more = more q.1 (drop (length q.0) bytes)

abbrev pub guess_share : Aim → Span → List ℕ → (Span → List ℕ → Option ℕ) → Option ℕ
guess_share Pass s bytes more = more s bytes
guess_share (Leave c) s bytes more = guess_behind (coded s c) bytes more
guess_share (At byte) s bytes more = Some byte

-- the byte that these bytes stand for
abbrev pub guess : List Context → Span → List ℕ → Option ℕ
guess [] s bytes = None
guess (c ∷ cs) s bytes = guess_share (aim_at c (aim s (total c) bytes)) s bytes (guess cs)
