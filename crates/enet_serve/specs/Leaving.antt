-- How a server takes leave of its clients.
use Rattle.std.specs.Prelude.{◌≡◌, ◌⊎◌, ℕ, ◌+◌, ◌≤◌, List, [], ◌∷◌, ◌++◌, length, Option}
use Rattle.enet_codec.specs.declared.event.DisconnectMode.TheVariants.{Later}
use Rattle.enet_host.specs.Host.{Host, all_names}
use Rattle.enet_wire.specs.declared.told.Told.{Told}
use Rattle.enet_wire.specs.Wires.{also, unless_spent}
use Rattle.enet_turn.specs.declared.service.Service.{Service}
use Rattle.enet_turn.specs.Hosting.{host_calls}
use Rattle.enet_turn.specs.LoneTurn.{RoundsOf}
use Rattle.enet_turn.specs.Phases.{Chain}
use Rattle.enet_service.specs.Queues.{given}
use Rattle.enet_turn.specs.Run.{all_gave, all_told}
use Rattle.enet_turn.specs.Spans.{Span, Parts, IsSpan, rounds_in}

-- some turns, and after them the server parts from each peer that its host has then
abbrev pub PartsFromAll : Service Host → Span → Service Host → Type 0
PartsFromAll old span new =
    (between : Service Host) × RoundsOf span.kind host_calls old span.rounds between × Parts host_calls span.how between span.parted new × (span.parted ≡ all_names between.host.slots)

-- but for the last time, clients are parted from behind all that was sent to them
abbrev pub AreGentle : List Span → Type 0
AreGentle (a ∷ b ∷ rest) = (a.how ≡ Later) × AreGentle (b ∷ rest)
AreGentle spans = Unit {0}

-- Turns that are given no order, between them partings from everybody, and some turns after the last of these. Nobody takes what these
-- turns tell
pub record Leaves (old new : Service Host) : Type 0 where
  pub spans : List Span
  pub between : Service Host
  pub acts : Chain PartsFromAll old spans between
  pub last : Span
  pub ends : IsSpan host_calls between last new
  pub nobody : last.parted ≡ []
  pub no_orders : given (all_gave (rounds_in (spans ++ last ∷ []))) ≡ []
  pub gentle : AreGentle spans

-- a service, what its wire told of its calls, if it tells, and how often that failed
pub record OverWire : Type 0 where
  pub service : Service Host
  pub told : Option (List Told)
  pub faults : ℕ

abbrev pub over : Service Host → Option (List Told) → ℕ → OverWire
over service told faults = record { service = service; told = told; faults = faults }

-- each begins with a turn, in which goes what the parting before it asked for
abbrev pub HaveTurns : List Span → Type 0
HaveTurns [] = Unit {0}
HaveTurns (s ∷ spans) = (1 ≤ length s.rounds) × HaveTurns spans

-- It does so at least once, and the first time clients are parted from behind all that was sent to them. After each parting comes a turn, after
-- the last one unless the wire failed. The wire told just what the turns did, and nothing of what it did else
pub record TakesLeave (old new : OverWire) : Type 0 where
  pub leaves : Leaves old.service new.service
  pub gently : (first : Span) × (rest : List Span) × (leaves.spans ≡ first ∷ rest) × (first.how ≡ Later) × HaveTurns rest
  pub told : new.told ≡ also old.told (unless_spent old.faults (all_told (rounds_in (leaves.spans ++ leaves.last ∷ []))))
  pub ends : ((new.faults ≡ old.faults) × (1 ≤ length leaves.last.rounds)) ⊎ (new.faults ≡ old.faults + 1)
