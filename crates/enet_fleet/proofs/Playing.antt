-- Each list that was played is that of a run, and has the page.
use Rattle.std.proofs.Common.{◌≡◌, List, length, refl, sym, subst, ◌∙◌, Bool, true, false, Result, Ok, Err}
use Rattle.std.specs.Prelude.{zip, IfOk}
use Rattle.enet_codec.specs.declared.config.Config.{Config}
use Rattle.enet_codec.specs.declared.refusal.Refusal.{Refusal}
use Rattle.enet_codec.specs.declared.refusal.Refusal.TheVariants.{BadConfig}
use Rattle.enet_fleet.specs.declared.answer.Answer.{Answer}
use Rattle.enet_fleet.specs.declared.event.FleetEvent.{FleetEvent}
use Rattle.enet_fleet.specs.Fleets.{Fleet, Runs, open_fleet}
use Rattle.enet_fleet.specs.Reached.{fit}
use Rattle.enet_fleet.specs.Transcript.{IsOnEachFront}
use Rattle.enet_fleet.proofs.Fronts.{on-each-front}
use Rattle.enet_fleet.proofs.Reaching.{fit-server, fit-clients}

played : (server : Config) (clients : List Config) → fit server clients ≡ true → (events : List FleetEvent) (answers : List (Result Answer Refusal)) (f : Fleet) → Runs (open_fleet server clients) events answers f
    → IsOnEachFront (length clients) (zip events answers)
played server clients fits events answers f r = on-each-front server clients (fit-server server clients fits) (fit-clients server clients fits) events answers f r

pub answered : {V : Type 0} (items : V → List (Result Answer Refusal)) (server : Config) (clients : List Config) (events : List FleetEvent) (r : Result V Refusal) (first f : Fleet) → fit server clients ≡ true → first ≡ open_fleet server clients
    → IfOk r (λ a. Runs first events (items a) f) → IfOk r (λ a. IsOnEachFront (length clients) (zip events (items a)))
answered items server clients events (Ok a) first f fits fresh runs = played server clients fits events (items a) f (subst (λ (g : Fleet). Runs g events (items a) f) fresh runs)
answered items server clients events (Err why) first f fits fresh runs = tt

-- settings by which something else than that refusal came
pub fitted : {V : Type 0} (server : Config) (clients : List Config) (r : Result V Refusal) (v : V) → (fit server clients ≡ false → r ≡ Err BadConfig) → r ≡ Ok v → fit server clients ≡ true
fitted server clients r v refused ok = by (fit server clients) refl
  where
    by : (b : Bool) → fit server clients ≡ b → fit server clients ≡ true
    by true e = e
    by false e = absurd (let z : ◌≡◌ {A = Result _ Refusal} (Ok v) (Err BadConfig) = sym ok ∙ refused e in cc)

pub stepped : {V : Type 0} (items : V → List (Result Answer Refusal)) (server : Config) (clients : List Config) (events : List FleetEvent) (r : Result V Refusal) (first f : Fleet) → first ≡ open_fleet server clients
    → IfOk r (λ a. Runs first events (items a) f) → IfOk r (λ a. (g : Fleet) × Runs (open_fleet server clients) events (items a) g)
stepped items server clients events (Ok a) first f fresh runs = (f, subst (λ (g : Fleet). Runs g events (items a) f) fresh runs)
stepped items server clients events (Err why) first f fresh runs = tt
