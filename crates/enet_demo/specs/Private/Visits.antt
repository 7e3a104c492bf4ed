-- What comes of a client.
use Rattle.std.specs.Prelude.{◌≡◌, ℕ, ◌<◌, List, length, Result, IfOk, IfErr, slice_index_or}
use Rattle.enet_codec.specs.declared.refusal.Refusal.{Refusal}
use Rattle.enet_serve.specs.Serving.{EndsRun}
use Rattle.enet_demo.specs.declared.demonstration.Demonstration.{Demonstration}
use Rattle.enet_demo.specs.declared.orders.Plan.{Plan}
use Rattle.enet_demo.specs.declared.player.Visit.{Visit}
use Rattle.enet_demo.specs.Visits.{plan_of, beginning, Visits}

-- what a client's threads ended with: its visit, or what ended them early
abbrev pub IsOutcome : Plan → ℕ → Result Visit Refusal → Type 0
IsOutcome plan turns outcome = IfOk outcome (Visits (beginning plan.secret) plan turns) × IfErr outcome EndsRun

-- what each client's threads ended with, from client 0 on
abbrev pub AreOutcomes : Demonstration → List (Result Visit Refusal) → Type 0
AreOutcomes shown outcomes = (length outcomes ≡ shown.clients)
    × ((k : ℕ) (d : Result Visit Refusal) → k < shown.clients → IsOutcome (plan_of shown k) shown.turns (slice_index_or outcomes k d))
