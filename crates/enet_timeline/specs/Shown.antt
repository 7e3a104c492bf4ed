-- What is shown of a capture: the summary and the picture of the parts of it that pass a filter.
use Rattle.std.specs.Prelude.{ℕ, List, length, Option}
use Rattle.enet_captured.specs.declared.filter.Filter.{Filter}
use Rattle.enet_captured.specs.declared.part.Part.{Part}
use Rattle.enet_captured.specs.declared.timeline.Timeline.{Timeline}
use Rattle.enet_captured.specs.declared.timeline.Way.{Way}
use Rattle.enet_captured.specs.Parts.{AreParts}
use Rattle.enet_timeline.specs.Pictures.{IsPicture}
use Rattle.enet_timeline.specs.Summaries.{Summarizes}

pub record Shows (t : Timeline) (f : Filter) (at : Option Way) (summary picture : List ℕ) : Type 0 where
  pub parts : List Part
  pub pass : AreParts t f (length t.connections.items) parts
  pub told : Summarizes t f parts at summary
  pub drawn : IsPicture t f parts picture
