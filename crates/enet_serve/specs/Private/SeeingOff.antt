-- The steps of taking leave.
use Rattle.std.specs.Prelude.{◌≡◌, ◌⊎◌, ◌+◌, ◌≤◌, Bool, false, List, [], ◌∷◌, length}
use Rattle.enet_codec.specs.declared.event.DisconnectMode.TheVariants.{Later}
use Rattle.enet_wire.specs.Wires.{also, unless_spent}
use Rattle.enet_turn.specs.Counts.{count_of}
use Rattle.enet_turn.specs.Phases.{Chain}
use Rattle.enet_service.specs.Queues.{given}
use Rattle.enet_turn.specs.Run.{all_gave, all_told}
use Rattle.enet_service.specs.ServiceRuns.{TakesTurns}
use Rattle.enet_turn.specs.Spans.{Span, rounds_in}
use Rattle.enet_turn.specs.Turn.{Round}
use Rattle.enet_serve.specs.Leaving.{OverWire, PartsFromAll, HaveTurns}

-- turns that are given no order: one at least, unless the wire fails
pub record Idles (old new : OverWire) (fails : Bool) : Type 0 where
  pub rounds : List Round
  pub turns : TakesTurns old.service rounds new.service
  pub no_orders : given (all_gave rounds) ≡ []
  pub told : new.told ≡ also old.told (unless_spent old.faults (all_told rounds))
  pub faults : new.faults ≡ old.faults + count_of fails
  pub some : fails ≡ false → 1 ≤ length rounds

abbrev pub AreLater : List Span → Type 0
AreLater [] = Unit {0}
AreLater (s ∷ spans) = (s.how ≡ Later) × AreLater spans

-- all but the first of them have a turn
abbrev pub Follow : List Span → Type 0
Follow [] = Unit {0}
Follow (s ∷ spans) = HaveTurns spans

-- such turns, between them everybody is parted from behind all that was sent, and such turns after that
pub record HasSeenOff (old new : OverWire) (fails : Bool) : Type 0 where
  pub spans : List Span
  pub between : OverWire
  pub acts : Chain PartsFromAll old.service spans between.service
  pub no_orders : given (all_gave (rounds_in spans)) ≡ []
  pub told : between.told ≡ also old.told (unless_spent old.faults (all_told (rounds_in spans)))
  pub faults : between.faults ≡ old.faults
  pub later : AreLater spans
  pub follow : Follow spans
  pub asked : 1 ≤ length spans
  pub last : Idles between new fails

-- nothing yet, or that
abbrev pub SeesOff : OverWire → OverWire → Type 0
SeesOff old new = (new ≡ old) ⊎ HasSeenOff old new false
