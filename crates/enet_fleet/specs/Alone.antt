-- Each host of a fleet is where its own calls lead, of which isolation speaks.
use Rattle.std.specs.Prelude.{◌≡◌, ◌==◌, if◌then◌else◌, List, [], ◌∷◌, ◌++◌, Some, Result, Ok, Err}
use Rattle.enet_codec.specs.declared.refusal.Refusal.{Refusal}
use Rattle.law_network.specs.Calls.{Call}
use Rattle.law_network.specs.Calls as call
use Rattle.enet_fleet.specs.declared.answer.Answer.{Answer}
use Rattle.law_network.specs.Alone.{LiveAlone, call_by}
use Rattle.law_network.specs.Places.{Place}
use Rattle.enet_fleet.specs.declared.event.FleetEvent.{FleetEvent}
use Rattle.enet_fleet.specs.declared.event.FleetEvent.TheVariants as happen
use Rattle.law_headline.specs.declared.node.Node.{Node}
use Rattle.law_headline.specs.declared.node.Node.TheVariants.{Server, Client}
use Rattle.enet_fleet.specs.Fleets.{Fleet, place_of, address_of, node_of, Steps, Runs}

-- an event that is refused by its host, as the call which that refused; any other refusal comes without a call
abbrev pub refused_call : FleetEvent → Refusal → List Call
refused_call (happen.Connect client channels info word) why = call.Connect (address_of Server) channels info word (Err why) ∷ []
refused_call (happen.Submit node peer channel flags body) why = call.Submit peer channel (record { flags = flags; body = body }) (Err (why, body)) ∷ []
refused_call (happen.Disconnect node peer how info) why = call.Disconnect how peer info (Err why) ∷ []
refused_call (happen.Admit node what) why = call.Admit what (Err why) ∷ []
refused_call _ why = []

-- the call that an event makes at its host, by what was answered
abbrev pub call_of : (old : Fleet) (event : FleetEvent) (answer : Result Answer Refusal) (new : Fleet) → Steps old event answer new → List Call
call_of old event (Ok answer) new step = call_by step.2.happens.sender.site step.0
call_of old event (Err why) new step = refused_call event why

-- at this host, if it is the event's
abbrev pub at_node : Node → Node → List Call → List Call
at_node Server Server calls = calls
at_node (Client i) (Client k) calls = if i == k then calls else []
at_node _ _ calls = []

-- the calls that the events of a run make at a host, in order
abbrev pub calls_at : (n : Node) (events : List FleetEvent) (answers : List (Result Answer Refusal)) (old new : Fleet) → Runs old events answers new → List Call
calls_at n (e ∷ es) (a ∷ more) old new run = at_node n (node_of e) (call_of old e a run.0 run.1) ++ calls_at n es more run.0 new run.2
calls_at n _ _ old new run = []

-- a host that was there is there, and its peers lived alone by these calls
abbrev pub LeadAlone : List Call → Place → Fleet → Node → Type 0
LeadAlone calls was new n = (is : Place) × (place_of new n ≡ Some is) × LiveAlone calls was.site.host is.site.host

-- so it is of each host, by the calls that any list of events makes there, whatever the other hosts and strangers send
abbrev pub EachAlone : Type 0
EachAlone = (old : Fleet) (events : List FleetEvent) (answers : List (Result Answer Refusal)) (new : Fleet) (run : Runs old events answers new)
    → (n : Node) (was : Place) → place_of old n ≡ Some was → LeadAlone (calls_at n events answers old new run) was new n
