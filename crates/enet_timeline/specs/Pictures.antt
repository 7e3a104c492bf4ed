-- What a picture is made of: one svg element, on top of which the summary stands.
use Rattle.std.specs.Prelude.{◌≡◌, ℕ, ◌+◌, min, List, [], ◌∷◌, ◌++◌, length, codes}
use Rattle.std.specs.Fmt.{decimal}
use Rattle.std.specs.Str.Lines.{lines}
use Rattle.enet_captured.specs.declared.filter.Filter.{Filter}
use Rattle.enet_captured.specs.declared.part.Part.{Part}
use Rattle.enet_captured.specs.declared.timeline.Timeline.{Timeline}
use Rattle.enet_timeline.specs.Summaries.{whole_text}

-- The element begins: it is 1,180 wide and so high, in its own units.
unfoldable pub opening_text : ℕ → List ℕ
opening_text height =
    codes "<svg xmlns=\"http://www.w3.org/2000/svg\" width=\"" ++ decimal 1180 ++ codes "\" height=\"" ++ decimal height ++ codes "\" viewBox=\"0 0 "
    ++ decimal 1180 ++ codes " " ++ decimal height ++ codes "\">\n"

-- Its white ground, as large.
unfoldable pub ground_text : ℕ → List ℕ
ground_text height = codes "<rect width=\"" ++ decimal 1180 ++ codes "\" height=\"" ++ decimal height ++ codes "\" fill=\"#fff\"/>\n"

-- Words at a place.
unfoldable pub words_text : List ℕ → ℕ → ℕ → List ℕ → List ℕ
words_text class x y words =
    codes "<text class=\"" ++ class ++ codes "\" x=\"" ++ decimal x ++ codes "\" y=\"" ++ decimal y ++ codes "\">" ++ words ++ codes "</text>\n"

-- Where the next line stands.
abbrev pub below : ℕ → ℕ
below y = min (y + 15) 18446744073709551615

-- Lines of a summary, one below another.
unfoldable pub lines_text : ℕ → List (List ℕ) → List ℕ
lines_text y [] = []
lines_text y (line ∷ more) = words_text (codes "sum") 16 y line ++ lines_text (below y) more

-- An element of some height: a style sheet, its ground, on top the lines that tell what the capture holds, and below what is drawn.
pub record IsPicture (t : Timeline) (f : Filter) (parts : List Part) (text : List ℕ) : Type 0 where
  pub height : ℕ
  pub style : List ℕ
  pub drawn : List ℕ
  pub whole : text ≡ opening_text height ++ style ++ ground_text height ++ lines_text 24 (lines (whole_text t f (length parts))) ++ drawn
      ++ codes "</svg>\n"
