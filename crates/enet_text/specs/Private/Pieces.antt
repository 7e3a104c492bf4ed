-- Where a word ends, and what the bytes of a text in quotes lead on to.
use Rattle.std.specs.Prelude.{◌≡◌, ℕ, suc, List, [], ◌∷◌, if◌then◌else◌, codes, bytes_eq, Option, Some, None}
use Rattle.std.specs.Borrow.{Bor}
use Rattle.enet_text.specs.declared.words.Quoting.{Quoting}
use Rattle.enet_text.specs.Words.{Next, letter, after, separates, onto, unquoted}

-- How many bytes stand before the first that separates words, of bytes of which the first stands there; all where none does.
abbrev pub piece_end : Quoting → List ℕ → ℕ
piece_end quoting [] = 0
piece_end quoting (byte ∷ rest) = if separates quoting byte then 0 else suc (piece_end (after quoting byte) rest)

-- What stands in quotes where no letter does: nothing, up to the last quote.
abbrev pub ended : List ℕ → Option (List ℕ)
ended text = if bytes_eq text (codes "\"") then Some [] else None

-- A byte was read first and what stands behind it is left, or none can be.
abbrev pub LeadsOn : Next → List ℕ → Option (List ℕ) → Option (ℕ × Bor (List ℕ)) → Type 0
LeadsOn next text otherwise None = unquoted next text ≡ otherwise
LeadsOn next text otherwise (Some read) = unquoted next text ≡ onto (Some read.0) (unquoted letter read.1.now)
