-- A host of a run is where its own calls lead, of which isolation speaks: each of its peers is where one peer alone would be.
use Rattle.std.specs.Prelude.{◌≡◌, List, [], ◌∷◌, ◌++◌, Option, Some, None, Result, Ok, Err, slice_get}
use Rattle.enet_codec.specs.declared.address.Addr.{Addr}
use Rattle.enet_codec.specs.declared.event.PeerRef.{PeerRef}
use Rattle.enet_codec.specs.declared.event.Received.{Received}
use Rattle.enet_codec.specs.declared.refusal.Refusal.{Refusal}
use Rattle.enet_peer.specs.Peering.{Peering}
use Rattle.enet_host.specs.Host.{Host, named}
use Rattle.law_network.specs.Beginnings.{Lived}
use Rattle.law_network.specs.Calls.{Call, Steps}
use Rattle.law_network.specs.Calls as call
use Rattle.law_network.specs.declared.event.Answer.{Answer}
use Rattle.law_network.specs.declared.event.Side.{Side}
use Rattle.law_network.specs.declared.event.Side.TheVariants.{A, B}
use Rattle.law_network.specs.declared.event.WorldEvent.{WorldEvent}
use Rattle.law_network.specs.declared.event.WorldEvent.TheVariants as happen
use Rattle.law_network.specs.Log.{Logged}
use Rattle.law_network.specs.Network.{Site}
use Rattle.law_network.specs.Steps.{Happening, Calls, Delivers}
use Rattle.law_network.specs.World.{World, site_of, other, address_of, AllHappen, side_of, Runs}
use Rattle.law_network.specs.World as world

-- by these calls a host has become another; each peer there lived alone since it began or since before them
pub record LiveAlone (calls : List Call) (old new : Host) : Type 0 where
  pub steps : Steps calls old new
  pub lived : (name : PeerRef) (p : Peering) → named new.slots name ≡ Some p → Lived name calls (record { before = old; after = new; steps = steps }) p

-- what happens at a host, as its call: a datagram of the host `from` that the network brings is one that it receives
abbrev pub received_from : Addr → Received → Option Logged → List Call
received_from address answer None = []
received_from address answer (Some d) = call.Receive address d.text answer ∷ []

abbrev pub call_by : Site → Happening → List Call
call_by from (Calls c) = c ∷ []
call_by from (Delivers k answer) = received_from from.address answer (slice_get from.log k)

-- an event that is refused by its host, as the call which that refused; any other refusal comes without a call
abbrev pub refused_call : WorldEvent → Refusal → List Call
refused_call (happen.Connect side channels info word) why = call.Connect (address_of (other side)) channels info word (Err why) ∷ []
refused_call (happen.Submit side peer channel flags body) why = call.Submit peer channel (record { flags = flags; body = body }) (Err (why, body)) ∷ []
refused_call (happen.Disconnect side peer how info) why = call.Disconnect how peer info (Err why) ∷ []
refused_call (happen.Admit side what) why = call.Admit what (Err why) ∷ []
refused_call _ why = []

-- the call that an event makes at its side, by what was answered
abbrev pub call_of : (old : World) (event : WorldEvent) (answer : Result Answer Refusal) (new : World) → world.Steps old event answer new → List Call
call_of old event (Ok answer) new step = call_by (site_of old (other (side_of event))) step.0
call_of old event (Err why) new step = refused_call event why

-- at this side, if it is the event's
abbrev pub at_side : Side → Side → List Call → List Call
at_side A A calls = calls
at_side B B calls = calls
at_side _ _ calls = []

-- the calls that the events of a run make at a side, in order
abbrev pub calls_at : (side : Side) (events : List WorldEvent) (answers : List (Result Answer Refusal)) (old new : World) → Runs old events answers new → List Call
calls_at side (e ∷ es) (a ∷ more) old new run = at_side side (side_of e) (call_of old e a run.0 run.1) ++ calls_at side es more run.0 new run.2
calls_at side _ _ old new run = []

-- so it is of both hosts of a world, by the calls that any list of events makes there
abbrev pub EachAlone : Type 0
EachAlone = (old : World) (events : List WorldEvent) (answers : List (Result Answer Refusal)) (new : World) (run : Runs old events answers new)
    → (side : Side) → LiveAlone (calls_at side events answers old new run) (site_of old side).host (site_of new side).host

-- the calls of a side among things that happen, in order
abbrev pub calls_among : (side : Side) (es : List (Side × Happening)) (old new : World) → AllHappen es old new → List Call
calls_among side [] old new all = []
calls_among side (e ∷ es) old new all = at_side side e.0 (call_by (site_of old (other e.0)) e.1) ++ calls_among side es all.0 new all.2

-- and by those of any list of calls of either and of datagrams that the network brings
abbrev pub EachAloneAmong : Type 0
EachAloneAmong = (old : World) (es : List (Side × Happening)) (new : World) (all : AllHappen es old new)
    → (side : Side) → LiveAlone (calls_among side es old new all) (site_of old side).host (site_of new side).host
