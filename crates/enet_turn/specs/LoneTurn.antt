-- A turn of a service whose thread makes the orders itself, of the events that the turn tells.
use Rattle.std.specs.Prelude.{◌≡◌, ◌⊎◌, ℕ, ◌+◌, ◌&&◌, not, Bool, true, List, [], ◌∷◌, ◌++◌, flat_map, Option}
use Rattle.enet_codec.specs.declared.event.Event.{Event}
use Rattle.enet_submit.specs.declared.order.Submission.{Submission}
use Rattle.enet_wire.specs.declared.told.Told.{Told}
use Rattle.enet_turn.specs.declared.service.Service.{Service}
use Rattle.enet_turn.specs.declared.waiting.Waiting.{Waiting}
use Rattle.enet_turn.specs.Calls.{Calls}
use Rattle.enet_turn.specs.Phases.{Chain, OffersWaiting, Orders, ReceivesAll}
use Rattle.enet_turn.specs.Counts.{given_in, came_in, went_in, lost_in, taken_in, count_of, stopped}
use Rattle.enet_turn.specs.Turn.{Round, AfterReceiving, AfterEmitting, Turn}

-- how a turn begins, in order: the tick; what waits; datagrams in; events, unless the wire failed
pub record Begins {H : Type 0} (calls : Calls H) (old : Service H) (ms : ℕ) (came : List Told) (puts : List (Event × Bool)) (new : Service H) (failed : Bool) : Type 0 where
  pub ticked : H
  pub tick : calls.ticks old.host ms ticked
  pub again : List (Event × Bool)
  pub waits : Waiting
  pub offered : OffersWaiting old.waiting again waits
  pub heard : H
  pub hearing : ReceivesAll calls 256 ticked came (record { host = heard; failed = failed })
  pub of_events : List (Event × Bool)
  pub telling : AfterEmitting calls (record { host = heard; failed = failed }) waits of_events new
  pub put : puts ≡ again ++ of_events

-- some orders: what the source answered, and the events that were offered
pub record Applied : Type 0 where
  pub gave : List (Option Submission)
  pub puts : List (Event × Bool)

-- orders, 256 at most, and orders again
abbrev pub AppliesAll : {H : Type 0} → Calls H → Service H → List Applied → Service H → Type 0
AppliesAll calls old applied new = Chain (λ s o t. Orders calls 256 s o.gave (record { service = t; puts = o.puts })) old applied new

-- what the source answered in all of them, and the events that were offered
abbrev pub gave_in : List Applied → List (Option Submission)
gave_in applied = flat_map (λ o. o.gave) applied

abbrev pub puts_in : List Applied → List (Event × Bool)
puts_in applied = flat_map (λ o. o.puts) applied

-- in order: its beginning; and unless the wire failed in that, orders, as often as there are more, and datagrams out
pub record LoneTurn {H : Type 0} (calls : Calls H) (old : Service H) (round : Round) (new : Service H) : Type 0 where
  pub came : List Told
  pub told_first : List (Event × Bool)
  pub begun : Service H
  pub early : Bool  -- whether the wire failed while datagrams came
  pub begins : Begins calls old round.ms came told_first begun early
  pub applied : List Applied
  pub ordered : Service H
  pub applies : AppliesAll calls begun applied ordered
  pub no_orders : early ≡ true → applied ≡ []
  pub went : List Told
  pub sends : AfterReceiving calls (record { host = ordered.host; failed = early }) went (record { host = new.host; failed = round.failed })
  pub waits : new.waiting ≡ ordered.waiting
  pub gave : round.gave ≡ gave_in applied
  pub told : round.told ≡ came ++ went
  pub put : round.puts ≡ told_first ++ puts_in applied
  pub counts : round.report ≡ record {
    orders = stopped (given_in round.gave);
    received = stopped (came_in came);
    sent = stopped (went_in went);
    lost = stopped (lost_in went + count_of (round.failed && not early));
    events = stopped (taken_in round.puts);
  }

-- whose turns they are: of a service beside a game thread, of one whose thread is the only one, or of either
pub data Kind : Type 0 where
  beside : Kind
  lone : Kind
  either : Kind

-- all turns of the one kind are of the other
abbrev pub AreAmong : Kind → Kind → Type 0
AreAmong one kind = (one ≡ kind) ⊎ (kind ≡ either)

abbrev pub TurnOf : {H : Type 0} → Kind → Calls H → Service H → Round → Service H → Type 0
TurnOf beside calls = Turn calls
TurnOf lone calls = LoneTurn calls
TurnOf either calls = λ old round new. Turn calls old round new ⊎ LoneTurn calls old round new

-- turns, each on the service that the one before it left
abbrev pub RoundsOf : {H : Type 0} → Kind → Calls H → Service H → List Round → Service H → Type 0
RoundsOf kind calls old rounds new = Chain (TurnOf kind calls) old rounds new
