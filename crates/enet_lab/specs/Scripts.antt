-- What a whole script writes.
use Rattle.std.specs.Prelude.{◌≡◌, ◌≢◌, ℕ, ◌+◌, ⊤, min, false, All, flat_map, List, [], ◌∷◌, ◌++◌, length, Option, Some, None}
use Rattle.enet_lab.specs.declared.stage.Stage.{Stage}
use Rattle.enet_lab.specs.declared.stage.Stage.TheVariants.{Empty}
use Rattle.enet_lab.specs.Lines.{RunsLine, can_read}

-- Lines one after another, with the text that answers each.
abbrev pub RunsLines : Stage → List (List ℕ) → List (Option (List ℕ)) → Stage → Type 0
RunsLines old [] [] new = new ≡ old
RunsLines old (line ∷ lines) (text ∷ texts) new = (between : Stage) × RunsLine old line text between × RunsLines between lines texts new
RunsLines old _ _ new = ⊥

-- A line and the line feed that ends it.
abbrev pub with_feed : List ℕ → List ℕ
with_feed line = line ++ 10 ∷ []

-- What is written for an answer: its text and a line feed.
abbrev pub written_for : Option (List ℕ) → List ℕ
written_for None = []
written_for (Some text) = with_feed text

-- No line feed is in it.
abbrev pub IsLine : List ℕ → Type 0
IsLine bytes = All (λ byte. byte ≢ 10) bytes

-- A line ends before these bytes: at a line feed or at the end of the script.
abbrev pub EndsLine : List ℕ → Type 0
EndsLine [] = ⊤
EndsLine (byte ∷ rest) = byte ≡ 10

-- So much of a script was seen and so much written: each line that has ended was run, and the next has begun so.
pub record HasRun (seen wrote : List ℕ) (stage : Stage) (count : ℕ) (begun : List ℕ) : Type 0 where
  pub lines : List (List ℕ)
  pub texts : List (Option (List ℕ))
  pub seen_is : seen ≡ flat_map with_feed lines ++ begun
  pub each_line : All IsLine lines
  pub begun_line : IsLine begun
  pub runs : RunsLines Empty lines texts stage
  pub wrote_is : wrote ≡ flat_map written_for texts
  pub count_is : count ≡ min (length lines) 4294967295

-- The whole script was run: all lines that a line feed ends, and the one that the script's end ends.
pub record IsRun (script wrote : List ℕ) : Type 0 where
  pub before : List ℕ
  pub stage : Stage
  pub count : ℕ
  pub last : List ℕ
  pub so_far : HasRun script before stage count last
  pub text : Option (List ℕ)
  pub new : Stage
  pub runs : RunsLine stage last text new
  pub wrote_is : wrote ≡ before ++ written_for text

-- A script was run so far: lines of it from its beginning, and what was written is what answers them.
pub record IsPart (script wrote : List ℕ) : Type 0 where
  pub seen : List ℕ
  pub stage : Stage
  pub count : ℕ
  pub line : List ℕ
  pub so_far : HasRun seen wrote stage count line
  pub rest : List ℕ
  pub script_is : script ≡ seen ++ rest

-- The script was run up to this line, counted from 1, which is the first that can't be read. The count stops at 4,294,967,295.
pub record IsStopped (script wrote : List ℕ) (number : ℕ) : Type 0 where
  pub part : IsPart script wrote
  pub ends : EndsLine part.rest
  pub unreadable : can_read part.stage part.line ≡ false
  pub number_is : number ≡ min (part.count + 1) 4294967295
