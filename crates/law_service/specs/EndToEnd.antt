-- The headline of running services, end to end.
use Rattle.std.specs.Prelude.{◌≡◌, ℕ, ◌≤◌, ◌==◌, ◌&&◌, ◌⊎◌, not, Bool, true, false, if◌then◌else◌, List, [], ◌∷◌, ◌++◌, length, map, filter, flat_map, take, drop, option_to_list, Option, Some, None, Ok, slice_get}
use Rattle.std.specs.List.{list_all, list_any}
use Rattle.enet_codec.specs.declared.address.Addr.{Addr}
use Rattle.enet_codec.specs.declared.config.Config.{Config}
use Rattle.enet_codec.specs.Config.{is_in_range}
use Rattle.enet_codec.specs.declared.event.Event.{Event}
use Rattle.enet_codec.specs.declared.event.PeerRef.{PeerRef}
use Rattle.enet_codec.specs.declared.packet.Packet.{Packet}
use Rattle.enet_submit.specs.declared.order.Submission.{Submission}
use Rattle.enet_outbox.specs.declared.parts.SendLimit.{SendLimit}
use Rattle.enet_host.specs.Host.{Host}
use Rattle.law_headline.specs.declared.node.Node.{Node}
use Rattle.law_headline.specs.declared.node.Node.TheVariants.{Server, Client}
use Rattle.law_network.specs.Calls.{Call, Acts}
use Rattle.law_network.specs.Calls as call
use Rattle.law_network.specs.Log.{Logged}
use Rattle.law_network.specs.Network.{Site, delivery_refusal}
use Rattle.law_network.specs.Steps.{Happening, Calls, Delivers}
use Rattle.law_network.specs.Places.{Place}
use Rattle.law_headline.specs.Nets.{Net, place_of, AreApart, is_host, HappensAt, IsAllowed, open_net}
use Rattle.law_headline.specs.Page.{User, IsHeadline, is_of}
use Rattle.enet_turn.specs.declared.service.Service.{Service}
use Rattle.enet_turn.specs.declared.waiting.Waiting.{Waiting}
use Rattle.enet_turn.specs.Calls.{Calls as HostCalls}
use Rattle.enet_turn.specs.Phases.{Chain}
use Rattle.enet_service.specs.Queues.{given}
use Rattle.enet_turn.specs.Run.{all_gave}
use Rattle.enet_turn.specs.Turn.{Round}
use Rattle.law_service.specs.Noting.{Noted, noting}
use Rattle.enet_turn.specs.Spans.{Span, Spans, rounds_in}
use Rattle.law_service.specs.Told.{held_in, told, is_refused, packets_of, submitted_in, taken, taken_in}
use Rattle.law_service.specs.Law.{noted, begun, AreNumbered}

-- a host's service and what it did: its settings, the limit on what it sends, if it was given one before the first turn, its turns and
-- partings, what they left, and the calls of its host: that which set the limit, and those that turns and partings made
pub record Running : Type 0 where
  pub config : Config
  pub limit : Option SendLimit
  pub spans : List Span
  pub left : Service Host
  pub calls : List Call
  pub turns : Spans noting (begun config limit) spans (noted left calls)

abbrev pub rounds_of : Running → List Round
rounds_of r = rounds_in r.spans

-- whether a stranger's datagram was taken in
abbrev pub brings_guest : (Addr → Bool) → Call → Bool
brings_guest hosts (call.Receive address bytes answer) = not (hosts address) && answer.handled == 1
brings_guest hosts c = false

-- its game threads: what its host accepted of the orders that its source gave, and the events that it put
abbrev pub user_of : (Addr → Bool) → Running → User
user_of hosts r = record { submitted = submitted_in r.calls; taken = taken (rounds_of r) r.left.waiting; guests = list_any (brings_guest hosts) r.calls }

abbrev pub user_in : (Addr → Bool) → Option Running → User
user_in hosts None = record { submitted = λ p channel. []; taken = λ p. []; guests = false }
user_in hosts (Some r) = user_of hosts r

abbrev pub configs : List Running → List Config
configs rs = map (λ r. r.config) rs

-- ---- the interleaving
-- the call that a thing at a host is; the network brings it a datagram of the host `from`
abbrev pub IsCall : Happening → Site → Call → Type 0
IsCall (Calls c) from made = made ≡ c
IsCall (Delivers k answer) from made = (d : Logged) × (slice_get from.log k ≡ Some d) × (made ≡ call.Receive from.address d.text answer)

-- a call of a host among the others: what comes from a host's address was put out by that host for this one, and is neither late nor of an
-- earlier connection (`HappensAt`)
pub record Makes (at : Node → Addr) (n : Node) (c : Call) (old new : Net) : Type 0 where
  pub from : Node
  pub what : Happening
  pub happens : HappensAt at n from what old new
  pub allowed : IsAllowed at old n from what
  pub is : IsCall what happens.sender.site c

abbrev pub AllMake : (Node → Addr) → List (Node × Call) → Net → Net → Type 0
AllMake at [] old new = new ≡ old
AllMake at (m ∷ ms) old new = (between : Net) × Makes at m.0 m.1 old between × AllMake at ms between new

abbrev pub is_node : Node → Node → Bool
is_node Server Server = true
is_node (Client i) (Client k) = i == k
is_node _ _ = false

-- the calls of one host among them, and the connections that they ask for
abbrev pub call_at : Node → Node × Call → List Call
call_at n m = if is_node m.0 n then m.1 ∷ [] else []

abbrev pub calls_at : Node → List (Node × Call) → List Call
calls_at n ms = flat_map (call_at n) ms

abbrev pub asks : Node → Call → List (ℕ × PeerRef)
asks (Client i) (call.Connect address channels info word (Ok name)) = (i, name) ∷ []
asks n c = []

abbrev pub asked : List (Node × Call) → List (ℕ × PeerRef)
asked ms = flat_map (λ m. asks m.0 m.1) ms

-- what a host accepted by its calls, and the events that these told
abbrev pub user_of_calls : (Addr → Bool) → List Call → User
user_of_calls hosts calls = record { submitted = submitted_in calls; taken = taken_in calls; guests = list_any (brings_guest hosts) calls }

abbrev pub user_if : (Addr → Bool) → Option Config → List Call → User
user_if hosts None calls = record { submitted = λ p channel. []; taken = λ p. []; guests = false }
user_if hosts (Some config) calls = user_of_calls hosts calls

-- the headline after each of these calls, of what was done until then; and a connection keeps the name that the server has for its peer
pub record HoldsThroughout (at : Node → Addr) (clients : List Config) (ms : List (Node × Call)) : Type 0 where
  pub front : (n : ℕ) → IsHeadline (user_of_calls (is_host at (length clients)) (calls_at Server (take n ms)))
      (λ i. user_if (is_host at (length clients)) (slice_get clients i) (calls_at (Client i) (take n ms))) (asked (take n ms))
  pub stays : (n m x : ℕ) (p : PeerRef) → n ≤ m → (front n).here x ≡ Some p → (front m).here x ≡ Some p

-- at each moment of every interleaving of the calls of a server's host and clients' hosts, wherever they are, in which the network is honest: however
-- the services end, or go on
abbrev pub AtEachMoment : Type 0
AtEachMoment = (at : Node → Addr) → AreApart at → (server : Config) (clients : List Config) → is_in_range server ≡ true → list_all is_in_range clients ≡ true
    → (ms : List (Node × Call)) (f : Net) → AllMake at ms (open_net at server clients) f → HoldsThroughout at clients ms

-- these names are those after all of these calls: so each stays what it was
abbrev pub HasNames : (Node → Addr) → List Config → List (Node × Call) → (ℕ → Option PeerRef) → Type 0
HasNames at clients ms here = (h : HoldsThroughout at clients ms) × ((x : ℕ) → here x ≡ (h.front (length ms)).here x)

-- of every server's service and clients' services, wherever they are, and each interleaving of their hosts' calls in which the network is honest
abbrev pub EndToEnd : Type 0
EndToEnd = (at : Node → Addr) → AreApart at → (server : Running) (clients : List Running) → is_in_range server.config ≡ true → list_all is_in_range (configs clients) ≡ true
    → (ms : List (Node × Call)) (f : Net) → AllMake at ms (open_net at server.config (configs clients)) f
    → calls_at Server ms ≡ server.calls → ((i : ℕ) (r : Running) → slice_get clients i ≡ Some r → calls_at (Client i) ms ≡ r.calls)
    → (h : IsHeadline (user_of (is_host at (length clients)) server) (λ i. user_in (is_host at (length clients)) (slice_get clients i)) (asked ms)) × HasNames at (configs clients) ms h.here

-- ---- game threads
-- A run of a service as its one game thread sees it: what waited for room when it began, and what when it was over. What the thread
-- submitted begins with what the service was given, under the numbers of its seat, and what it took begins what the service told
pub record Part : Type 0 where
  pub spans : List Span
  pub before : Waiting
  pub after : Waiting
  pub sent : List Submission
  pub unsent : List Submission
  pub sent_is : sent ≡ given (all_gave (rounds_in spans)) ++ unsent
  pub numbered : AreNumbered (given (all_gave (rounds_in spans)))
  pub got : List Event
  pub left : List Event
  pub got_is : told (rounds_in spans) after ≡ got ++ left

-- runs one after another, each on what the one before it left
abbrev pub AreRuns : {H : Type 0} → HostCalls H → Service H → List Part → Service H → Type 0
AreRuns calls old parts new = Chain (λ s part t. (s.waiting ≡ part.before) × Spans calls s part.spans t × (t.waiting ≡ part.after)) old parts new

-- in all but the last the thread took all that there was, but for what waits for room
abbrev pub AreOver : List Part → Type 0
AreOver [] = Unit {0}
AreOver (a ∷ []) = Unit {0}
AreOver (a ∷ b ∷ parts) = (a.left ≡ held_in a.after) × AreOver (b ∷ parts)

-- the game threads of a service, one in each of its runs
pub record Threads (r : Running) : Type 0 where
  pub parts : List Part
  pub in_order : AreRuns noting (begun r.config r.limit) parts (noted r.left r.calls)
  pub spans_are : r.spans ≡ flat_map (λ part. part.spans) parts
  pub over : AreOver parts

-- the events that refuse orders of a run: those that the service told in it, but for the one that waited before, which comes first
abbrev pub refusals_of : Part → List Event
refusals_of part = drop (length (option_to_list part.before.refusal)) (filter is_refused (told (rounds_in part.spans) part.after))

-- their packets: those of the orders that the service was given, and in the last run of all, but for those that an event of their run refuses. Where a
-- run is over, its other orders came back
abbrev pub packets_in : PeerRef → ℕ → List Part → List Packet
packets_in name channel [] = []
packets_in name channel (a ∷ []) = packets_of (refusals_of a) name channel a.sent
packets_in name channel (a ∷ b ∷ parts) = packets_of (refusals_of a) name channel (given (all_gave (rounds_in a.spans))) ++ packets_in name channel (b ∷ parts)

abbrev pub user_by : (Addr → Bool) → (r : Running) → Threads r → User
user_by hosts r t = record {
  submitted = λ p channel. packets_in p channel t.parts;
  taken = λ p. filter (is_of p) (flat_map (λ part. part.got) t.parts);
  guests = list_any (brings_guest hosts) r.calls;
}

abbrev pub ThreadsAt : Option Running → Type 0
ThreadsAt None = Unit {0}
ThreadsAt (Some r) = Threads r

abbrev pub user_at : (Addr → Bool) → (o : Option Running) → ThreadsAt o → User
user_at hosts None t = user_in hosts None
user_at hosts (Some r) t = user_by hosts r t

-- so what game threads take follows what the game threads at the other end submitted
abbrev pub BetweenThreads : Type 0
BetweenThreads = (hosts : Addr → Bool) (server : Running) (clients : List Running) (asked : List (ℕ × PeerRef)) → IsHeadline (user_of hosts server) (λ i. user_in hosts (slice_get clients i)) asked
    → (here : Threads server) (threads : (i : ℕ) → ThreadsAt (slice_get clients i))
    → IsHeadline (user_by hosts server here) (λ i. user_at hosts (slice_get clients i) (threads i)) asked

-- ---- nothing but the network's honesty is supposed
-- the network brings bytes of the host m to the host n: m put them out for n, and they are neither late nor of an earlier connection
pub record IsHonest (at : Node → Addr) (f : Net) (n m : Node) (to : Place) (from : Addr) (bytes : List ℕ) : Type 0 where
  pub sender : Place
  pub there : place_of f m ≡ Some sender
  pub address : from ≡ sender.site.address
  pub k : ℕ
  pub datagram : Logged
  pub sent : slice_get sender.site.log k ≡ Some datagram
  pub to_it : datagram.to ≡ at n
  pub text : bytes ≡ datagram.text
  pub in_time : delivery_refusal sender.site to.site (Some datagram) ≡ None

-- a call that a service may make: a client asks the server alone for a connection, and the server nobody; what comes is a stranger's, or the
-- network brings it
abbrev pub MayMake : (Node → Addr) → Net → Node → Place → Call → Type 0
MayMake at f (Client i) p (call.Connect address channels info word answer) = address ≡ at Server
MayMake at f Server p (call.Connect address channels info word answer) = ⊥
MayMake at f n p (call.Receive from bytes answer) = (is_host at (length f.clients) from ≡ false) ⊎ ((m : Node) × IsHonest at f n m p from bytes)
MayMake at f n p c = Unit {0}

-- such a call always goes on: whatever its host does, what is kept follows
abbrev pub NeverStuck : Type 0
NeverStuck = (at : Node → Addr) → AreApart at → (server : Config) (clients : List Config) → is_in_range server ≡ true → list_all is_in_range clients ≡ true
    → (ms : List (Node × Call)) (f : Net) → AllMake at ms (open_net at server clients) f
    → (n : Node) (p : Place) → place_of f n ≡ Some p → (c : Call) (host : Host) → Acts c p.site.host host → MayMake at f n p c
    → (g : Net) × Makes at n c f g × (q : Place) × (place_of g n ≡ Some q) × (q.site.host ≡ host)
