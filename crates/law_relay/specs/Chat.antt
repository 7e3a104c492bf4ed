-- The relay of a `ChatServer`, from its runs' contracts.
use Rattle.std.specs.Prelude.{◌≡◌, refl, ℕ, Bool, true, List, [], ◌∷◌, ◌++◌, length, map, Option, Some, slice_get}
use Rattle.std.specs.List.{All, list_all}
use Rattle.enet_codec.specs.declared.event.DisconnectMode.TheVariants.{Later}
use Rattle.enet_codec.specs.declared.address.Addr.{Addr}
use Rattle.enet_codec.specs.declared.config.Config.{Config}
use Rattle.enet_codec.specs.Config as config
use Rattle.enet_codec.specs.declared.event.Event.{Event}
use Rattle.enet_codec.specs.declared.event.PeerRef.{PeerRef}
use Rattle.enet_submit.specs.declared.order.Order.{Order}
use Rattle.enet_submit.specs.declared.order.Submission.{Submission}
use Rattle.enet_events.specs.declared.numbered.Numbered.{Numbered}
use Rattle.enet_host.specs.Host.{Host}
use Rattle.enet_bridge.specs.Ends.{orders}
use Rattle.law_headline.specs.declared.node.Node.{Node}
use Rattle.law_headline.specs.declared.node.Node.TheVariants.{Server, Client}
use Rattle.enet_turn.specs.declared.report.Report.{Report}
use Rattle.enet_service.specs.declared.run_length.RunLength.{RunLength}
use Rattle.enet_turn.specs.declared.service.Service.{Service}
use Rattle.enet_turn.specs.Hosting.{host_calls}
use Rattle.enet_turn.specs.Phases.{Chain}
use Rattle.enet_service.specs.Queues.{given, accepted}
use Rattle.enet_turn.specs.Turn.{Round}
use Rattle.enet_turn.specs.Run.{IsSound, all_gave, all_told, all_puts}
use Rattle.enet_turn.specs.LoneTurn.{Kind, AreAmong, RoundsOf, beside}
use Rattle.enet_turn.specs.Spans.{rounds_in}
use Rattle.enet_wire.specs.Wires.{unless_spent}
use Rattle.enet_chat.specs.Relaying.{noted_all, relayed_all, SameForEach}
use Rattle.enet_serve.specs.declared.server.ChatServer.{ChatServer}
use Rattle.enet_serve.specs.declared.server.Settings.{Settings}
use Rattle.enet_serve.specs.Leaving.{Leaves}
use Rattle.enet_serve.specs.Serving.{Serves, IsCutOff, IsRelayed, IsOpened, config_of, is_in_range, host_of, waiting_of, service_of, told_of, faults_of, peers_of, backlog_of, orders_of}
use Rattle.law_network.specs.Calls.{Call}
use Rattle.law_headline.specs.Nets.{Net, AreApart, is_host, open_net}
use Rattle.law_headline.specs.Page.{User, IsHeadline, came}
use Rattle.law_service.specs.EndToEnd.{Running, rounds_of, HasNames, user_of, user_in, user_at, ThreadsAt, configs, AllMake, calls_at, asked}
use Rattle.law_service.specs.Queues.{IsMoment}
use Rattle.law_relay.specs.Relay.{AreEnds, AreMerged, Relaying, heard}
use Rattle.law_relay.specs.Refusals.{Answers, all_asked, TakesChatUnless}
use Rattle.law_relay.specs.Unreliable.{TakesSome}

-- a step of a server: a run, how long it was to be, and its report; or orders that it is given between two runs
pub data Step : Type 0 where
  Runs : RunLength → Report → Step
  Orders : List Order → Step

-- between two runs the server is given these orders, behind those that wait, as `ChatServer::order` promises; `ChatServer::ban` and
-- `ChatServer::unban` give it none
pub record IsOrdered (old : ChatServer) (os : List Order) (new : ChatServer) : Type 0 where
  pub orders_are : orders_of new ≡ orders_of old ++ os
  pub host : host_of new ≡ host_of old
  pub waiting : waiting_of new ≡ waiting_of old
  pub faults : faults_of new ≡ faults_of old
  pub told : told_of new ≡ told_of old
  pub peers : peers_of new ≡ peers_of old
  pub backlog : backlog_of new ≡ backlog_of old

-- a run is as `ChatServer::serve` or `ChatServer::serve_alone` promises, with turns of this kind; the orders end connections, and do
-- nothing else, as that of `end_of_slow`
abbrev pub Takes : Kind → ChatServer → Step → ChatServer → Type 0
Takes kind s (Runs run_length report) t = (one : Kind) × AreAmong one kind × (many : ℕ) × Serves one many s run_length t report
Takes kind s (Orders os) t = AreEnds os × IsOrdered s os t

-- steps one after another
abbrev pub ServesAll : Kind → ChatServer → List Step → ChatServer → Type 0
ServesAll kind old steps new = Chain (Takes kind) old steps new

-- all turns of such runs, all events that were expanded in them, and all orders that the server was given between them
abbrev pub turns_in : (kind : Kind) (old : ChatServer) (steps : List Step) (new : ChatServer) → ServesAll kind old steps new → List Round
turns_in kind old [] new h = []
turns_in kind old (Runs run_length report ∷ steps) new h = h.1.3.rounds ++ turns_in kind h.0 steps new h.2
turns_in kind old (Orders os ∷ steps) new h = turns_in kind h.0 steps new h.2

abbrev pub expanded_in : (kind : Kind) (old : ChatServer) (steps : List Step) (new : ChatServer) → ServesAll kind old steps new → List Event
expanded_in kind old [] new h = []
expanded_in kind old (Runs run_length report ∷ steps) new h = h.1.3.expanded ++ expanded_in kind h.0 steps new h.2
expanded_in kind old (Orders os ∷ steps) new h = expanded_in kind h.0 steps new h.2

abbrev pub ordered_in : List Step → List Order
ordered_in [] = []
ordered_in (Runs run_length report ∷ steps) = ordered_in steps
ordered_in (Orders os ∷ steps) = os ++ ordered_in steps

-- Such steps as one run, which has these turns, and in which these events were expanded. Among the orders that the relay asked for come
-- those that the server was given
pub record Served (kind : Kind) (old : ChatServer) (rounds : List Round) (expanded : List Event) (ordered : List Order) (new : ChatServer) : Type 0 where
  pub asked_for : List Order
  pub all_asked_for : List Order
  pub turns : RoundsOf kind host_calls (service_of old) rounds (service_of new)
  pub sound : All IsSound rounds
  pub faults : faults_of new ≡ faults_of old
  pub told : told_of new ≡ told_of old ++ unless_spent (faults_of old) (all_told rounds)
  pub events : backlog_of old ++ accepted (all_puts rounds) ≡ expanded ++ backlog_of new
  pub peers : peers_of new ≡ noted_all (peers_of old) expanded
  pub for_each : SameForEach asked_for (relayed_all (peers_of old) expanded)
  pub ends : AreEnds ordered
  pub merged : AreMerged asked_for ordered all_asked_for
  pub orders_done : orders_of old ++ all_asked_for ≡ orders (given (all_gave rounds)) ++ orders_of new

abbrev pub EachServed : Type 0
EachServed = (kind : Kind) (old : ChatServer) (steps : List Step) (new : ChatServer) → (h : ServesAll kind old steps new) → Served kind old (turns_in kind old steps new h) (expanded_in kind old steps new h) (ordered_in steps) new

-- a server that takes no leave
abbrev pub stays : (s : Service Host) → Leaves s s
stays s = record { spans = []; between = s; acts = refl; last = record { kind = beside; rounds = []; how = Later; parted = [] }; ends = (s, refl, refl); nobody = refl; no_orders = refl; gentle = tt }

-- a server that has served so far: what it did, with the calls of its host
pub record IsServing (settings : Settings) : Type 0 where
  pub running : Running
  pub relaying : Relaying running
  pub config : running.config ≡ config_of settings
  pub limit : running.limit ≡ settings.send_limit

-- the turns of a server that takes leave
abbrev pub last_turns : {old new : Service Host} → Leaves old new → List Round
last_turns leaves = rounds_in (leaves.spans ++ leaves.last ∷ [])

-- what a fresh server did in all its runs and in taking leave (`ChatServer::take_leave`): these turns, of which its wire told, and those of
-- its leave; in the runs it expanded these events, and between them it was given these orders
pub record HasServed (settings : Settings) (rounds : List Round) (expanded : List Event) (ordered : List Order) (served : ChatServer) (later : List Round) (left : Service Host) : Type 0 where
  pub serving : IsServing settings
  pub left_is : serving.running.left ≡ left
  pub rounds_are : rounds_of serving.running ≡ rounds ++ later
  pub told : told_of served ≡ all_told rounds
  pub expanded_are : serving.relaying.expanded ≡ expanded
  pub ordered_are : serving.relaying.ordered ≡ ordered
  pub untaken : List Event
  pub backlog : serving.relaying.backlog ≡ backlog_of served ++ untaken
  pub waits : serving.relaying.waits ≡ orders_of served
  pub peers : peers_of served ≡ noted_all [] serving.relaying.expanded

abbrev pub EachHasServed : Type 0
EachHasServed = (kind : Kind) (settings : Settings) (fresh served : ChatServer) (steps : List Step) (left : Service Host) → IsOpened settings fresh → (h : ServesAll kind fresh steps served) → (leaves : Leaves (service_of served) left)
    → HasServed settings (turns_in kind fresh steps served h) (expanded_in kind fresh steps served h) (ordered_in steps) served (last_turns leaves) left

-- the same of a run that the wire cut off, with E14, after those: the server as it was left, and what it did in all of them and in taking leave.
-- In two threads its queues were settled (`IsCutOffBeside`, `kept`)
abbrev pub EachCutOff : Type 0
EachCutOff = (kind : Kind) (settings : Settings) (fresh served : ChatServer) (steps : List Step) (cut : ChatServer) (left : Service Host) → IsOpened settings fresh → (h : ServesAll kind fresh steps served)
    → (its : Kind) → AreAmong its kind → (run_length : RunLength) (c : IsCutOff its run_length served cut) → (r : IsRelayed served c.rounds cut) → (leaves : Leaves (service_of cut) left)
    → HasServed settings (turns_in kind fresh steps served h ++ c.rounds) (expanded_in kind fresh steps served h ++ r.expanded) (ordered_in steps) cut (last_turns leaves) left

-- ---- each moment
-- A run of two threads that goes on, of which these turns are over: a moment of its queues, and what the relay made until then of what the server
-- kept and of the events that it took (`Relays`)
pub record GoesOn (served : ChatServer) (rounds : List Round) : Type 0 where
  pub sent : List Submission
  pub got : List Numbered
  pub moment : IsMoment rounds sent got
  pub expanded : List Event
  pub backlog : List Event
  pub asked_for : List Order
  pub waits : List Order
  pub took : backlog_of served ++ map (λ x. x.event) got ≡ expanded ++ backlog
  pub for_each : SameForEach asked_for (relayed_all (peers_of served) expanded)
  pub asked : orders_of served ++ asked_for ≡ orders sent ++ waits

-- so far it has served, too: in the turns of the runs before, of which its wire told, and in these; it was given the orders between them
abbrev pub EachServesOn : Type 0
EachServesOn = (kind : Kind) (settings : Settings) (fresh served : ChatServer) (steps : List Step) (rounds : List Round) (left : Service Host) → IsOpened settings fresh → (h : ServesAll kind fresh steps served)
    → RoundsOf beside host_calls (service_of served) rounds left → (g : GoesOn served rounds)
    → (s : IsServing settings) × (s.running.left ≡ left) × (rounds_of s.running ≡ turns_in kind fresh steps served h ++ rounds) × (told_of served ≡ all_told (turns_in kind fresh steps served h))
    × (s.relaying.expanded ≡ expanded_in kind fresh steps served h ++ g.expanded) × (s.relaying.ordered ≡ ordered_in steps)

-- Its service and any number of clients' services, and an interleaving of their hosts' calls in which the network is honest
pub record Played (at : Node → Addr) (settings : Settings) (server : Running) (clients : List Running) : Type 0 where
  pub ms : List (Node × Call)
  pub end : Net
  pub make : AllMake at ms (open_net at (config_of settings) (configs clients)) end
  pub of_server : calls_at Server ms ≡ server.calls
  pub of_clients : (i : ℕ) (r : Running) → slice_get clients i ≡ Some r → calls_at (Client i) ms ≡ r.calls

abbrev pub hosts_of : (Node → Addr) → List Running → Addr → Bool
hosts_of at clients = is_host at (length clients)

abbrev pub users_of : (Node → Addr) → List Running → ℕ → User
users_of at clients i = user_in (hosts_of at clients) (slice_get clients i)

-- then the headline holds, and for each pair of clients j takes of what i submitted on channel 0 each once, in order and without a gap, and some
-- of what it submitted on channel 1, each once and in order
pub record ChatsInOrder (hosts : Addr → Bool) (server : Running) (relaying : Relaying server) (users : ℕ → User) (asks : List (ℕ × PeerRef)) : Type 0 where
  pub headline : IsHeadline (user_of hosts server) users asks
  pub answers : Answers server
  pub pairs : (x j : ℕ) (there q : PeerRef) → slice_get asks x ≡ Some (j, there) → headline.here x ≡ Some q
      → TakesChatUnless (user_of hosts server) users asks headline.here (heard q 0 [] relaying.expanded) (all_asked q 0 answers.answered) (came 0 ((users j).taken there))
  pub on_one : (x j : ℕ) (there q : PeerRef) → slice_get asks x ≡ Some (j, there) → headline.here x ≡ Some q
      → TakesSome (user_of hosts server) users asks headline.here (heard q 1 [] relaying.expanded) (came 1 ((users j).taken there))

abbrev pub OfChatServer : Type 0
OfChatServer = (at : Node → Addr) → AreApart at → (settings : Settings) → is_in_range settings ≡ true → (s : IsServing settings)
    → (clients : List Running) → list_all config.is_in_range (configs clients) ≡ true → (play : Played at settings s.running clients)
    → (c : ChatsInOrder (hosts_of at clients) s.running s.relaying (users_of at clients) (asked play.ms)) × HasNames at (configs clients) play.ms c.headline.here

-- and so of what the clients' game threads submitted and took
abbrev pub users_by : (at : Node → Addr) (clients : List Running) → ((i : ℕ) → ThreadsAt (slice_get clients i)) → ℕ → User
users_by at clients threads i = user_at (hosts_of at clients) (slice_get clients i) (threads i)

abbrev pub OfChatThreads : Type 0
OfChatThreads = (at : Node → Addr) → AreApart at → (settings : Settings) → is_in_range settings ≡ true → (s : IsServing settings)
    → (clients : List Running) → list_all config.is_in_range (configs clients) ≡ true → (play : Played at settings s.running clients) → (threads : (i : ℕ) → ThreadsAt (slice_get clients i))
    → ChatsInOrder (hosts_of at clients) s.running s.relaying (users_by at clients threads) (asked play.ms)
