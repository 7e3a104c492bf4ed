-- What is told of the datagrams of an input.
use Rattle.std.specs.Prelude.{◌≡◌, ◌==◌, ℕ, suc, ◌+◌, All, flat_map, List, [], ◌∷◌, ◌++◌, codes, length, Option, Some, None, IsSome}
use Rattle.std.specs.Fmt.{decimal}
use Rattle.std.specs.Io.KnownBytes.{Appends}
use Rattle.std.specs.List.{slice_split}
use Rattle.enet_text.specs.declared.body.Bodies.{Bodies}
use Rattle.enet_text.specs.declared.line.Line.{Line}
use Rattle.enet_text.specs.declared.line.Line.TheVariants.{PassedOver, Datagram}
use Rattle.enet_text.specs.Described.{Describes}
use Rattle.enet_text.specs.Lines.{line_of}

-- A datagram of an input: the text of its way, where the input tells one, and its bytes.
pub record Found : Type 0 where
  pub way : List ℕ
  pub bytes : List ℕ

-- Its number and its length.
abbrev pub number_text : ℕ → ℕ → List ℕ
number_text number len = codes "datagram " ++ decimal number ++ codes " length " ++ decimal len

-- The text of one datagram under this number: a line with its number, its length and its way, and the lines that describe it, with its
-- packets' bytes whole or in short.
pub record TellsOne (b : Bodies) (number : ℕ) (found : Found) (text : List ℕ) : Type 0 where
  pub said : List ℕ
  pub describes : Describes b found.bytes said
  pub text_is : text ≡ number_text number (length found.bytes) ++ found.way ++ codes "\n" ++ said

-- The texts of datagrams, one after another, of which the first has this number.
abbrev pub TellsEach : Bodies → ℕ → List Found → List ℕ → Type 0
TellsEach b number [] text = text ≡ []
TellsEach b number (found ∷ others) text =
    (first rest : List ℕ) × (text ≡ first ++ rest) × TellsOne b number found first × TellsEach b (suc number) others rest

-- The lines of an input in hex.
abbrev pub lines_of : List ℕ → List (List ℕ)
lines_of input = slice_split (λ byte. byte == 10) input

-- The datagrams that a line has: one or none.
abbrev pub found_in : Option Line → List Found
found_in (Some (Datagram bytes)) = (record { way = []; bytes = bytes }) ∷ []
found_in (Some PassedOver) = []
found_in None = []

-- The datagrams of lines.
abbrev pub found_in_lines : List (List ℕ) → List Found
found_in_lines lines = flat_map (λ line. found_in (line_of line)) lines

-- Each of these lines can be read, and this is the text of their datagrams, which are numbered from 0 on.
pub record TellsLines (b : Bodies) (lines : List (List ℕ)) (text : List ℕ) : Type 0 where
  pub readable : All (λ line. IsSome (line_of line)) lines
  pub told : TellsEach b 0 (found_in_lines lines) text

-- This is the text of the lines before the one of this number, counted from 1, which is the first that can't be read.
pub record IsCutOff (b : Bodies) (lines : List (List ℕ)) (text : List ℕ) (number : ℕ) : Type 0 where
  pub before : List (List ℕ)
  pub line : List ℕ
  pub behind : List (List ℕ)
  pub lines_are : lines ≡ before ++ line ∷ behind
  pub unreadable : line_of line ≡ None
  pub number_is : number ≡ length before + 1
  pub told : TellsLines b before text

-- This is the text of the first of these lines, so many as were told.
pub record TellsSome (b : Bodies) (lines : List (List ℕ)) (text : List ℕ) : Type 0 where
  pub before : List (List ℕ)
  pub behind : List (List ℕ)
  pub lines_are : lines ≡ before ++ behind
  pub told : TellsLines b before text

-- Bytes of which P holds were written, as far as the writer tells what it has.
abbrev pub Wrote : Option (List ℕ) → Option (List ℕ) → (List ℕ → Type 0) → Type 0
Wrote old new P = (bytes : List ℕ) × Appends old new bytes × P bytes
