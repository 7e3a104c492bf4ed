-- What the range coder's calls answer.
use Rattle.std.specs.Prelude.{◌≡◌, ℕ, ◌<◌, List, length, take, Some, None, ◌⊎◌}
use Rattle.enet_range_coder.specs.Code.{code_of, body_of}

-- a body has no code that fits into so many bytes
abbrev pub HasNoRoom : ℕ → List ℕ → Type 0
HasNoRoom room body = (code : List ℕ) → code_of body ≡ Some code → room < length code

-- a number of bytes is that of the code's body, at the front of the buffer; 0 says that it has none that there is room for
abbrev pub Opened : ℕ → List ℕ → List ℕ → List ℕ → Type 0
Opened n old code new = ((0 < n) × (body_of (length old) code ≡ Some (take n new))) ⊎ ((n ≡ 0) × (body_of (length old) code ≡ None))
