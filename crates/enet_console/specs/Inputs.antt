-- Standard input: bytes come, and each is given once, in the order in which they came.
use Rattle.std.specs.Prelude.{◌≡◌, ◌≢◌, ◌⊎◌, ◌≤◌, ◌<◌, ℕ, Bool, true, false, if◌then◌else◌, nat_lt, List, [], ◌∷◌, ◌++◌, length, take, slice_range, Option, MatchOption, unwrap_or, Result, IfOk}
use Rattle.std.specs.declared.alloc.AllocError.{AllocError}
use Rattle.enet_console.specs.declared.input.Input.{Input}
use Rattle.enet_console.specs.declared.control.Control.{Control}
use Rattle.enet_console.specs.declared.word.Word.{Word}
use Rattle.enet_console.specs.declared.word.Word.TheVariants.{Unknown}
use Rattle.enet_console.specs.Words.{spells}

-- What was read and not given yet.
abbrev pub rest : Input → List ℕ
rest input = slice_range input.chunk input.from input.to

-- Bytes came behind what was there, and these went from the front of it all.
abbrev pub Goes : Input → Input → List ℕ → Type 0
Goes before after bytes = (came : List ℕ) × (rest before ++ came ≡ bytes ++ rest after)

-- The line that is read begins with these bytes: they are kept, or are more than a line may have.
abbrev pub IsKept : Bool → ℕ → List ℕ → List ℕ → Type 0
IsKept true len line bytes = 1024 < length bytes
IsKept false len line bytes = (len ≤ 1024) × (bytes ≡ take len line)

abbrev pub Begins : Control → List ℕ → Type 0
Begins c bytes = IsKept c.is_cut c.len c.line bytes

-- No line feed is among these.
abbrev pub HasNoFeed : List ℕ → Type 0
HasNoFeed [] = Unit
HasNoFeed (byte ∷ bytes) = (byte ≢ 10) × HasNoFeed bytes

-- What a line says, which has at most 1,024 bytes.
abbrev pub meant : List ℕ → Word
meant line = if nat_lt 1024 (length line) then Unknown else unwrap_or (spells line) Unknown

-- A line is read: it ends at the next line feed, and the next one begins behind that.
abbrev pub ReadsLine : Control → Control → Result Word AllocError → Type 0
ReadsLine before after word =
    (more : List ℕ) × HasNoFeed more × Goes before.input after.input (more ++ (10 ∷ []))
    × ((begun : List ℕ) → Begins before begun → IfOk word (λ word. word ≡ meant (begun ++ more))) × Begins after []

-- So many bytes are read, and no line ends yet.
abbrev pub ReadsOn : ℕ → Control → Control → Type 0
ReadsOn count before after =
    (more : List ℕ) × HasNoFeed more × (length more ≡ count) × Goes before.input after.input more
    × ((begun : List ℕ) → Begins before begun → Begins after (begun ++ more))

-- No line ends among all that was read, or among the 4,096 bytes at which a call looks at most.
abbrev pub Pauses : Control → Control → Type 0
Pauses before after = (count : ℕ) × ReadsOn count before after × ((rest after.input ≡ []) ⊎ (count ≡ 4096))

abbrev pub Reads : Control → Control → Option (Result Word AllocError) → Type 0
Reads before after read = MatchOption read (Pauses before after) (ReadsLine before after)
