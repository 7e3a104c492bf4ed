-- A body, coded by a model that learns.
use Rattle.std.specs.Prelude.{ℕ, Bool, true, false, ◌==◌, if◌then◌else◌, List, [], ◌∷◌, ◌++◌, Option, Some, None, zero, suc}
use Rattle.enet_range_coder.specs.Span.{Span, ending}
use Rattle.enet_range_coder.specs.Context.{Context, coding, guess}

-- what follows these bytes
abbrev pub strip : List ℕ → List ℕ → Option (List ℕ)
strip [] bytes = Some bytes
strip (b ∷ bs) [] = None
strip (b ∷ bs) (c ∷ cs) = if b == c then strip bs cs else None

abbrev pub behind : List ℕ → Option (List ℕ) → Option (List ℕ)
behind bytes None = None
behind bytes (Some more) = Some (bytes ++ more)

abbrev pub pack_on : Option (List ℕ × Span) → (Span → Option (List ℕ)) → Option (List ℕ)
pack_on None more = None
pack_on (Some q) more = behind q.0 (more q.1)

-- the code of a body, for any model: what contexts it has, and how it learns a byte
abbrev pub packed : {M : Type 0} (contexts : M → List Context) (learned : M → ℕ → M) → M → Span → List ℕ → Option (List ℕ)
packed contexts learned m s [] = Some (ending 4 s.low)
packed contexts learned m s (byte ∷ bytes) = pack_on (coding (contexts m) byte s) (λ t. packed contexts learned (learned m byte) t bytes)

abbrev pub is_nothing : Option (List ℕ) → Bool
is_nothing None = false
is_nothing (Some []) = true
is_nothing (Some (b ∷ bs)) = false

abbrev pub is_end : Span → List ℕ → Bool
is_end s code = is_nothing (strip (ending 4 s.low) code)

abbrev pub rest_on : Option (List ℕ) → (List ℕ → Option (List ℕ)) → Option (List ℕ)
rest_on None more = None
rest_on (Some rest) more = more rest

abbrev pub strip_on : Option (List ℕ × Span) → List ℕ → (Span → List ℕ → Option (List ℕ)) → Option (List ℕ)
strip_on None code more = None
strip_on (Some q) code more = rest_on (strip q.0 code) (more q.1)

abbrev pub unpack_on : Option ℕ → (ℕ → Option (List ℕ)) → Option (List ℕ)
unpack_on None more = None
unpack_on (Some byte) more = behind (byte ∷ []) (more byte)

-- the body of a code, of at most so many bytes
abbrev pub unpacked : {M : Type 0} (contexts : M → List Context) (learned : M → ℕ → M) → ℕ → M → Span → List ℕ → Option (List ℕ)
unpacked contexts learned zero m s code = if is_end s code then Some [] else None
unpacked contexts learned (suc room) m s code = if is_end s code then Some [] else unpack_on (guess (contexts m) s code)
    (λ byte. strip_on (coding (contexts m) byte s) code (λ t rest. unpacked contexts learned room (learned m byte) t rest))
