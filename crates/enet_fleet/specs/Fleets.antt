-- A server and its clients, with strangers around them, and the events of such a fleet one by one.
use Rattle.std.specs.Prelude.{◌≡◌, ℕ, ◌+◌, ◌||◌, Bool, true, false, if◌then◌else◌, List, [], ◌∷◌, ◌++◌, length, take, Option, Some, None, is_none, Result, Ok, Err, slice_get}
use Rattle.std.specs.Option.{option_map, option_and_then, option_flatten}
use Rattle.enet_codec.specs.declared.address.Addr.{Addr}
use Rattle.enet_codec.specs.declared.config.Config.{Config}
use Rattle.enet_codec.specs.declared.event.Event.{Event}
use Rattle.enet_codec.specs.declared.event.PeerRef.{PeerRef}
use Rattle.enet_codec.specs.declared.refusal.Refusal.{Refusal}
use Rattle.enet_codec.specs.declared.refusal.Refusal.TheVariants.{Memory, NoSuchDatagram, NoSuchHost}
use Rattle.enet_slot.specs.Receiving.{is_same_address}
use Rattle.enet_host.specs.Calls.{address_named}
use Rattle.enet_host.specs.Foretelling.{teller_of}
use Rattle.law_network.specs.Calls.{Call}
use Rattle.law_network.specs.Calls as call
use Rattle.enet_fleet.specs.declared.answer.Answer.{Answer}
use Rattle.enet_fleet.specs.declared.answer.Answer.TheVariants as answers
use Rattle.law_network.specs.Log.{Logged}
use Rattle.law_network.specs.Network.{Site, delivery_refusal}
use Rattle.law_network.specs.Running.{RunsBy}
use Rattle.law_network.specs.Steps.{Happening, Calls, Delivers}
use Rattle.law_network.specs.World.{IsRefusedFor, RefusesCall, RefusesTake}
use Rattle.law_network.specs.declared.put_out.Sent.{Sent}
use Rattle.law_network.specs.declared.put_out.Sent.TheVariants.{Of, Away}
use Rattle.law_network.specs.Places.{Place}
use Rattle.law_headline.specs.declared.node.Node.{Node}
use Rattle.law_headline.specs.declared.node.Node.TheVariants.{Server, Client}
use Rattle.law_headline.specs.Nets as nets
use Rattle.law_headline.specs.Nets.{Net}
pub use Rattle.law_headline.specs.Nets.{place_of, with_place, numbers_at, numbers_far, client_in, client_of, asked_after}
use Rattle.enet_fleet.specs.declared.event.FleetEvent.{FleetEvent}
use Rattle.enet_fleet.specs.declared.event.FleetEvent.TheVariants as happen

-- all hosts, and the client of each connection so far
abbrev pub Fleet : Type 0
Fleet = Net

abbrev pub address_of : Node → Addr
address_of Server = record { ip = 0x0A000001; port = 7001 }
address_of (Client i) = record { ip = 0x0A000002; port = 7002 + i }

-- where the other host of a connection is: for a client always the server, for the server the client that asked for it
abbrev pub far_address : Fleet → Node → ℕ → Option Addr
far_address f Server x = option_map (λ i. address_of (Client i)) (slice_get f.asked x)
far_address f (Client i) x = Some (address_of Server)

-- whether a host is at an address where there are so many clients
abbrev pub is_host : ℕ → Addr → Bool
is_host clients a = nets.is_host address_of clients a

-- what a host has put out after a call of service that gave a datagram
abbrev pub sent_if : Bool → PeerRef × Addr × ℕ → List ℕ → Place → List Sent
sent_if true gave buf p = p.sent ++ Of (length p.site.log) ∷ []
sent_if false gave buf p = p.sent ++ Away gave.1 (take gave.2 buf) ∷ []

abbrev pub sent_after : (Addr → Bool) → Happening → Place → List Sent
sent_after hosts (Calls (call.Service (Some gave) buf)) p = sent_if (hosts gave.1) gave buf p
sent_after hosts _ p = p.sent

-- what was put out, and where to it went
abbrev pub text_of : Place → Sent → Option (Addr × List ℕ)
text_of p (Of n) = option_map (λ d. (d.to, d.text)) (slice_get p.site.log n)
text_of p (Away to text) = Some (to, text)

abbrev pub sent_by : Option Place → ℕ → Option (Addr × List ℕ)
sent_by None k = None
sent_by (Some p) k = option_flatten (option_map (text_of p) (slice_get p.sent k))

-- one thing happens at a host, with what that puts out
pub record HappensAt (n from : Node) (what : Happening) (old new : Fleet) : Type 0 where
  pub happens : nets.HappensAt address_of n from what old new
  pub sent : happens.is.sent ≡ sent_after (is_host (length old.clients)) what happens.was

-- the datagram of a host's log that its number k is, where it went to this address
abbrev pub gone_to : Addr → ℕ → Option Logged → Option ℕ
gone_to to n None = None
gone_to to n (Some d) = if is_same_address d.to to then Some n else None

abbrev pub logged_in : Addr → Place → Option Sent → Option ℕ
logged_in to p (Some (Of n)) = gone_to to n (slice_get p.site.log n)
logged_in to p _ = None

abbrev pub logged_to : Addr → Place → ℕ → Option ℕ
logged_to to p k = logged_in to p (slice_get p.sent k)

-- the host of an event
abbrev pub node_of : FleetEvent → Node
node_of (happen.Connect client channels info word) = Client client
node_of (happen.Submit node peer channel flags body) = node
node_of (happen.Deliver to from k) = to
node_of (happen.Stranger to addr bytes) = to
node_of (happen.Turn node) = node
node_of (happen.Tick node ms) = node
node_of (happen.Take node) = node
node_of (happen.Disconnect node peer how info) = node
node_of (happen.Admit node what) = node
node_of (happen.SetSendLimit node bytes commands) = node

-- the host that it hears; any other event speaks to the server at most
abbrev pub from_of : FleetEvent → Node
from_of (happen.Deliver to from k) = from
from_of _ = Server

-- the number that its next datagram gets
abbrev pub next_number : Option Place → ℕ
next_number None = 0
next_number (Some p) = length p.sent

-- which datagram of the sender's log is brought
abbrev pub brings : Node → Option Place → ℕ → Option ℕ
brings to None k = None
brings to (Some p) k = logged_to (address_of to) p k

-- where a host has the peer of an event that its user takes
abbrev pub IsFrom : Option Place → Event → Addr → Type 0
IsFrom None event from = ⊥
IsFrom (Some p) event from = option_and_then (address_named p.site.host.slots) (teller_of event) ≡ Some from

-- the one host call of an event that was not refused, by what was answered
abbrev pub Makes : Fleet → FleetEvent → Answer → Happening → Type 0
Makes f (happen.Connect client channels info word) (answers.Peer name) e = e ≡ Calls (call.Connect (address_of Server) channels info word (Ok name))
Makes f (happen.Submit node peer channel flags body) answers.Done e = e ≡ Calls (call.Submit peer channel (record { flags = flags; body = body }) (Ok tt))
Makes f (happen.Deliver to from k) (answers.Received answer) e = (n : ℕ) × (brings to (place_of f from) k ≡ Some n) × (e ≡ Delivers n answer)
Makes f (happen.Stranger to addr bytes) (answers.Received answer) e = e ≡ Calls (call.Receive addr bytes answer)
Makes f (happen.Turn node) (answers.Sent None) e = (buf : List ℕ) × (e ≡ Calls (call.Service None buf))
Makes f (happen.Turn node) (answers.Sent (Some k)) e =
    (gave : PeerRef × Addr × ℕ) × (buf : List ℕ) × (e ≡ Calls (call.Service (Some gave) buf)) × (k ≡ next_number (place_of f node))
Makes f (happen.Tick node ms) answers.Done e = e ≡ Calls (call.Tick ms)
Makes f (happen.Take node) (answers.Taken None) e = e ≡ Calls (call.NextEvent None)
Makes f (happen.Take node) (answers.Taken (Some told)) e = (e ≡ Calls (call.NextEvent (Some told.0))) × IsFrom (place_of f node) told.0 told.1
Makes f (happen.Disconnect node peer how info) answers.Done e = e ≡ Calls (call.Disconnect how peer info (Ok tt))
Makes f (happen.Admit node what) answers.Done e = e ≡ Calls (call.Admit what (Ok tt))
Makes f (happen.SetSendLimit node bytes commands) answers.Done e = e ≡ Calls (call.SetSendLimit bytes commands)
Makes f _ _ e = ⊥

-- whether E17 applies: a host of the event isn't there, or its stranger's address is a host's
abbrev pub lacks : Fleet → FleetEvent → Bool
lacks f (happen.Stranger to addr bytes) = is_none (place_of f to) || is_host (length f.clients) addr
lacks f (happen.Deliver to from k) = is_none (place_of f to) || is_none (place_of f from)
lacks f event = is_none (place_of f (node_of event))

-- a host of a fleet refuses a call
abbrev pub RefusesAt : Option Place → Call → Type 0
RefusesAt None c = ⊥
RefusesAt (Some p) c = RefusesCall c p.site

-- or the next event to its user
abbrev pub RefusesTakeAt : Option Place → Refusal → Type 0
RefusesTakeAt None why = ⊥
RefusesTakeAt (Some p) why = RefusesTake why p.site.host

-- a delivery: E13 where the datagram went to no such host
abbrev pub refused_there : Site → Site → Option ℕ → Option Refusal
refused_there from to None = Some NoSuchDatagram
refused_there from to (Some n) = delivery_refusal from to (slice_get from.log n)

abbrev pub refused_delivery : Node → Option Place → Option Place → ℕ → Option Refusal
refused_delivery to (Some from) (Some at) k = refused_there from.site at.site (logged_to (address_of to) from k)
refused_delivery to _ _ k = Some NoSuchDatagram

-- why an event is refused whose hosts are there
abbrev pub RefusesThere : Fleet → FleetEvent → Refusal → Type 0
RefusesThere f (happen.Connect client channels info word) why = RefusesAt (place_of f (Client client)) (call.Connect (address_of Server) channels info word (Err why))
RefusesThere f (happen.Submit node peer channel flags body) why =
    RefusesAt (place_of f node) (call.Submit peer channel (record { flags = flags; body = body }) (Err (why, body)))
RefusesThere f (happen.Deliver to from k) why = IsRefusedFor why (refused_delivery to (place_of f from) (place_of f to) k)
RefusesThere f (happen.Stranger to addr bytes) why = ⊥
RefusesThere f (happen.Turn node) why = why ≡ Memory
RefusesThere f (happen.Tick node ms) why = ⊥
RefusesThere f (happen.Take node) why = RefusesTakeAt (place_of f node) why
RefusesThere f (happen.Disconnect node peer how info) why = RefusesAt (place_of f node) (call.Disconnect how peer info (Err why))
RefusesThere f (happen.Admit node what) why = RefusesAt (place_of f node) (call.Admit what (Err why))
RefusesThere f (happen.SetSendLimit node bytes commands) why = ⊥

-- why an event is refused: E17 comes first
abbrev pub RefusesIf : Bool → Fleet → FleetEvent → Refusal → Type 0
RefusesIf true f event why = why ≡ NoSuchHost
RefusesIf false f event why = RefusesThere f event why

abbrev pub Refuses : Fleet → FleetEvent → Refusal → Type 0
Refuses f event why = RefusesIf (lacks f event) f event why

-- a step: an event that is refused changes nothing, any other makes its one call at its host
abbrev pub Steps : Fleet → FleetEvent → Result Answer Refusal → Fleet → Type 0
Steps old event (Ok answer) new = (e : Happening) × Makes old event answer e × HappensAt (node_of event) (from_of event) e old new
Steps old event (Err why) new = Refuses old event why × (new ≡ old)

-- the steps of a list of events with what was answered to each, in order
abbrev pub Runs : Fleet → List FleetEvent → List (Result Answer Refusal) → Fleet → Type 0
Runs = RunsBy Steps

-- a fleet to which nothing has happened
abbrev pub open_fleet : Config → List Config → Fleet
open_fleet server clients = nets.open_net address_of server clients
