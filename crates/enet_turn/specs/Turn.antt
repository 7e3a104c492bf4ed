-- A turn of a service.
use Rattle.std.specs.Prelude.{◌≡◌, ℕ, ◌+◌, ◌&&◌, not, Bool, true, false, List, [], ◌++◌, Option, Result, Ok, Err}
use Rattle.enet_codec.specs.declared.event.Event.{Event}
use Rattle.enet_codec.specs.declared.refusal.Refusal.TheVariants.{WireFault}
use Rattle.enet_submit.specs.declared.order.Submission.{Submission}
use Rattle.enet_wire.specs.declared.told.Told.{Told}
use Rattle.enet_turn.specs.declared.report.Report.{Report}
use Rattle.enet_turn.specs.declared.report.Fault.{Fault}
use Rattle.enet_turn.specs.declared.service.Service.{Service}
use Rattle.enet_turn.specs.declared.waiting.Waiting.{Waiting}
use Rattle.enet_turn.specs.Calls.{Calls}
use Rattle.enet_turn.specs.Phases.{Ordered, Wired, OffersWaiting, Orders, ReceivesAll, EmitsAll, TellsAll}
use Rattle.enet_turn.specs.Counts.{given_in, came_in, went_in, lost_in, taken_in, count_of, stopped}

-- what passes in a turn: the milliseconds of the wait before it, what the source answered, what the wire did, the events that were
-- offered, whether the wire failed, and the report
pub record Round : Type 0 where
  pub ms : ℕ
  pub gave : List (Option Submission)
  pub told : List Told
  pub puts : List (Event × Bool)
  pub failed : Bool
  pub report : Report

-- datagrams go, unless the wire failed while they came: then none goes
pub record AfterReceiving {H : Type 0} (calls : Calls H) (heard : Wired H) (told : List Told) (sent : Wired H) : Type 0 where
  pub sound : heard.failed ≡ false → EmitsAll calls 256 16 heard.host told sent
  pub failed : heard.failed ≡ true → (told ≡ []) × (sent ≡ heard)

-- events come last, unless the wire failed: then none is told, and what waits still waits
pub record AfterEmitting {H : Type 0} (calls : Calls H) (sent : Wired H) (waiting : Waiting) (puts : List (Event × Bool)) (new : Service H) : Type 0 where
  pub sound : sent.failed ≡ false → TellsAll calls (record { host = sent.host; waiting = waiting }) puts new
  pub failed : sent.failed ≡ true → (puts ≡ []) × (new ≡ record { host = sent.host; waiting = waiting })

-- in order: the tick; what waits; orders; datagrams in; datagrams out; events
pub record Turn {H : Type 0} (calls : Calls H) (old : Service H) (round : Round) (new : Service H) : Type 0 where
  pub ticked : H
  pub tick : calls.ticks old.host round.ms ticked
  pub again : List (Event × Bool)
  pub waits : Waiting
  pub offered : OffersWaiting old.waiting again waits
  pub ordered : Ordered H
  pub orders : Orders calls 256 (record { host = ticked; waiting = waits }) round.gave ordered
  pub came : List Told
  pub heard : Wired H
  pub hearing : ReceivesAll calls 256 ordered.service.host came heard
  pub went : List Told
  pub sent : Wired H
  pub sending : AfterReceiving calls heard went sent
  pub of_events : List (Event × Bool)
  pub telling : AfterEmitting calls sent ordered.service.waiting of_events new
  pub told : round.told ≡ came ++ went
  pub put : round.puts ≡ again ++ (ordered.puts ++ of_events)
  pub failed : round.failed ≡ sent.failed
  pub counts : round.report ≡ record {
    orders = given_in round.gave;
    received = came_in came;
    sent = went_in went;
    lost = lost_in went + count_of (sent.failed && not heard.failed);
    events = stopped (taken_in round.puts);
  }

-- a turn answers its report, with E14 where the wire failed
abbrev pub Reports : Result Report Fault → Report → Type 0
Reports (Ok done) report = done ≡ report
Reports (Err fault) report = fault ≡ record { why = WireFault; report = report }
