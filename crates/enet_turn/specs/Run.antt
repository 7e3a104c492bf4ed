-- A run of a service: turns one after another.
use Rattle.std.specs.Prelude.{◌≡◌, ◌⊎◌, ℕ, ◌<◌, Bool, true, false, List, [], ◌∷◌, ◌++◌, length, Option, Result, Ok, Err}
use Rattle.std.specs.List.{All, flat_map, sum_by}
use Rattle.enet_codec.specs.declared.event.Event.{Event}
use Rattle.enet_codec.specs.declared.refusal.Refusal.TheVariants.{WireFault}
use Rattle.enet_submit.specs.declared.order.Submission.{Submission}
use Rattle.enet_wire.specs.declared.told.Told.{Told}
use Rattle.enet_wire.specs.declared.told.Told.TheVariants.{Waited}
use Rattle.enet_turn.specs.declared.report.Report.{Report}
use Rattle.enet_turn.specs.declared.report.Fault.{Fault}
use Rattle.enet_turn.specs.declared.service.Service.{Service}
use Rattle.enet_turn.specs.Calls.{Calls}
use Rattle.enet_turn.specs.Phases.{Chain}
use Rattle.enet_turn.specs.Counts.{stopped}
use Rattle.enet_turn.specs.Turn.{Round, Turn}

-- turns, each on the service that the one before it left
abbrev pub Rounds : {H : Type 0} → Calls H → Service H → List Round → Service H → Type 0
Rounds calls old rounds new = Chain (Turn calls) old rounds new

-- what the source answered in all of them, what the wire did, and the events that were offered
abbrev pub all_gave : List Round → List (Option Submission)
all_gave rounds = flat_map (λ r. r.gave) rounds

abbrev pub all_told : List Round → List Told
all_told rounds = flat_map (λ r. Waited r.ms ∷ r.told) rounds

abbrev pub all_puts : List Round → List (Event × Bool)
all_puts rounds = flat_map (λ r. r.puts) rounds

-- the sums of their reports
abbrev pub total : List Round → Report
total rounds = record {
  orders = stopped (sum_by (λ r. r.report.orders) rounds);
  received = stopped (sum_by (λ r. r.report.received) rounds);
  sent = stopped (sum_by (λ r. r.report.sent) rounds);
  lost = stopped (sum_by (λ r. r.report.lost) rounds);
  events = stopped (sum_by (λ r. r.report.events) rounds);
}

abbrev pub IsSound : Round → Type 0
IsSound r = r.failed ≡ false

abbrev pub nothing_done : Report
nothing_done = record { orders = 0; received = 0; sent = 0; lost = 0; events = 0 }

-- the wire failed in the last of these turns, or in the wait that came after them, and in no turn before
abbrev pub AreCut : List Round → Type 0
AreCut rounds = All IsSound rounds ⊎ ((before : List Round) × (last : Round) × (rounds ≡ before ++ last ∷ []) × All IsSound before × (last.failed ≡ true))

-- the wire failed in the last turn, whose report is told
pub record EndsInTurn (turns : ℕ) (rounds : List Round) (fault : Fault) : Type 0 where
  pub before : List Round
  pub last : Round
  pub in_order : rounds ≡ before ++ last ∷ []
  pub sound : All IsSound before
  pub within : length before < turns
  pub failed : last.failed ≡ true
  pub told : fault ≡ record { why = WireFault; report = last.report }

-- the wire failed in the wait that came after these turns
pub record EndsInWait (turns : ℕ) (rounds : List Round) (fault : Fault) : Type 0 where
  pub sound : All IsSound rounds
  pub within : length rounds < turns
  pub told : fault ≡ record { why = WireFault; report = nothing_done }

-- how a run of so many turns ends: all were taken, and the sums of their reports are told, or the wire failed
abbrev pub Ends : ℕ → List Round → Result Report Fault → Type 0
Ends turns rounds (Ok report) = All IsSound rounds × (length rounds ≡ turns) × (report ≡ total rounds)
Ends turns rounds (Err fault) = EndsInTurn turns rounds fault ⊎ EndsInWait turns rounds fault
