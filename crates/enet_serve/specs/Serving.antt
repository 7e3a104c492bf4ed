-- What a server does in a run.
use Rattle.std.specs.Prelude.{◌≡◌, ◌⊎◌, ℕ, ◌+◌, min, Bool, true, List, [], ◌++◌, Option, Some, None}
use Rattle.std.specs.List.{All}
use Rattle.enet_codec.specs.declared.event.PeerRef.{PeerRef}
use Rattle.enet_codec.specs.declared.event.Event.{Event}
use Rattle.enet_codec.specs.declared.refusal.Refusal.{Refusal}
use Rattle.enet_codec.specs.declared.refusal.Refusal.TheVariants.{Memory, BadConfig, SeatSpent, WireFault, StillHeld}
use Rattle.enet_codec.specs.declared.config.Config.{Config}
use Rattle.enet_codec.specs.Config.{standard_config}
use Rattle.enet_codec.specs.Config as configs
use Rattle.enet_submit.specs.declared.order.Order.{Order}
use Rattle.enet_host.specs.Host.{Host}
use Rattle.enet_host.specs.Opening.{opened}
use Rattle.enet_bridge.specs.Ends.{orders}
use Rattle.enet_wire.specs.Socket.{address_of, failures_of}
use Rattle.enet_wire.specs.declared.told.Told.{Told}
use Rattle.enet_wire.specs.Wires.{unless_spent}
use Rattle.enet_guard.specs.Guarding.{Guarding, new_guard}
use Rattle.enet_guard.specs.Journals.{told_of as told_at}
use Rattle.enet_turn.specs.declared.report.Report.{Report}
use Rattle.enet_turn.specs.declared.service.Service.{Service}
use Rattle.enet_turn.specs.declared.waiting.Waiting.{Waiting}
use Rattle.enet_turn.specs.Phases.{nothing_waits}
use Rattle.enet_turn.specs.Hosting.{host_calls}
use Rattle.enet_turn.specs.LoneTurn.{Kind, beside, lone, RoundsOf}
use Rattle.enet_service.specs.Queues.{given, accepted}
use Rattle.enet_turn.specs.Turn.{Round}
use Rattle.enet_turn.specs.Run.{IsSound, AreCut, all_gave, all_told, all_puts, total}
use Rattle.enet_chat.specs.Relaying.{noted_all, relayed_all, SameForEach, AreBehind, AreFarBehind}
use Rattle.enet_service.specs.declared.run_length.RunLength.{RunLength}
use Rattle.enet_service.specs.ServiceRuns.{Lasts, LastsAtMost, IsCapacity, IsNotSettled}
use Rattle.enet_serve.specs.Leaving.{OverWire, over}
use Rattle.enet_serve.specs.declared.server.ChatServer.{ChatServer}
use Rattle.enet_serve.specs.declared.server.Settings.{Settings}

-- ---- what a server is between two runs
abbrev pub host_of : ChatServer → Host
host_of server = server.bound.service.host

-- how often its socket has failed
abbrev pub faults_of : ChatServer → ℕ
faults_of server = failures_of server.bound.wire.wire

-- what its wire, the socket behind a guard, told of its calls
abbrev pub told_of : ChatServer → List Told
told_of server = told_at server.bound.wire

-- what the guard in front of its host goes by
abbrev pub guard_of : ChatServer → Guarding
guard_of server = server.bound.wire.guard

-- what waits for room in the queue
abbrev pub waiting_of : ChatServer → Waiting
waiting_of server = server.bound.service.waiting

-- its service
abbrev pub service_of : ChatServer → Service Host
service_of server = record { host = host_of server; waiting = waiting_of server }

-- over its wire
abbrev pub over_wire : ChatServer → OverWire
over_wire server = over (service_of server) (Some (told_of server)) (faults_of server)

-- how many places each of its queues has
abbrev pub queue_capacity_of : ChatServer → ℕ
queue_capacity_of server = server.queue_capacity

-- the peers that the relay knows, the events that it has not expanded, and the orders that were not carried out
abbrev pub peers_of : ChatServer → List PeerRef
peers_of server = server.kept.table

abbrev pub backlog_of : ChatServer → List Event
backlog_of server = server.kept.backlog.items

abbrev pub orders_of : ChatServer → List Order
orders_of server = server.kept.orders.items

-- why nothing was kept of the last run, if its queues weren't settled
abbrev pub unsettled_of : ChatServer → Option Refusal
unsettled_of server = server.kept.unsettled

-- how many slots its host has: 1,024 more than there may be clients connected, where there are as many
abbrev pub slots_of : Settings → ℕ
slots_of settings = min (settings.peers + 1024) 4095

-- the settings of its host
abbrev pub config_of : Settings → Config
config_of settings = record (standard_config (slots_of settings) settings.channels) {
  mtu = settings.mtu;
  max_packet = settings.max_packet;
  max_waiting = settings.max_waiting;
  generations = 4294967295;
  secret = settings.secret;
  gives_way = true;
  most = Some settings.peers;
  of_address = settings.of_address;
}

-- whether a server may have so many peers, and there are hosts with so many channels, this mtu, these lengths and this limit of an address
abbrev pub is_in_range : Settings → Bool
is_in_range settings = configs.is_in_range (config_of settings)

-- a fresh host of these settings and with their limit on what is sent, a guard with their rules to which nothing came, a socket at their
-- address that hasn't failed, and nothing that waits
pub record IsOpened (settings : Settings) (server : ChatServer) : Type 0 where
  pub host : host_of server ≡ record (opened (config_of settings)) { send_limit = settings.send_limit }
  pub address : address_of server.bound.wire.wire ≡ settings.address
  pub guard : guard_of server ≡ new_guard settings.rules (slots_of settings)
  pub waiting : waiting_of server ≡ nothing_waits
  pub faults : faults_of server ≡ 0
  pub told : told_of server ≡ []
  pub queue_capacity : queue_capacity_of server ≡ settings.queue_capacity
  pub peers : peers_of server ≡ []
  pub backlog : backlog_of server ≡ []
  pub orders : orders_of server ≡ []
  pub settled : unsettled_of server ≡ None

-- ---- a run
-- From one run to the next, by turns of this kind. In none of them the wire failed, and the report is their sums. What the wire told goes on by
-- just their waits, what they heard and what they sent, in order. The events that the turns put are
-- expanded behind those that waited, once and in order, or wait. The orders that were asked for are for every peer what those events
-- give for it, in order (SameForEach); they come behind those that waited, and were handed to the turns, once and in order, or wait.
-- Events wait only where orders do, and where so many orders were handed to the turns or wait
pub record Serves (kind : Kind) (many : ℕ) (old : ChatServer) (run_length : RunLength) (new : ChatServer) (report : Report) : Type 0 where
  pub rounds : List Round
  pub expanded : List Event
  pub asked_for : List Order
  pub lasts : Lasts run_length rounds
  pub turns : RoundsOf kind host_calls old.bound.service rounds new.bound.service
  pub sound : All IsSound rounds
  pub faults : faults_of new ≡ faults_of old
  pub told : told_of new ≡ told_of old ++ unless_spent (faults_of old) (all_told rounds)
  pub queue_capacity : queue_capacity_of new ≡ queue_capacity_of old
  pub totals : report ≡ total rounds
  pub events : backlog_of old ++ accepted (all_puts rounds) ≡ expanded ++ backlog_of new
  pub behind : AreBehind (backlog_of new) (orders_of new)
  pub far_behind : AreFarBehind many (backlog_of new) (orders (given (all_gave rounds)) ++ orders_of new)
  pub peers : peers_of new ≡ noted_all (peers_of old) expanded
  pub for_each : SameForEach asked_for (relayed_all (peers_of old) expanded)
  pub orders_done : orders_of old ++ asked_for ≡ orders (given (all_gave rounds)) ++ orders_of new
  pub settled : unsettled_of new ≡ None

-- ---- a run that the wire cut off
-- Its turns, no more than it was to have, in the last of which, or in the wait after it, the wire failed. What the wire told goes on by just
-- their waits, what they heard and what they sent, in order
pub record IsCutOff (kind : Kind) (run_length : RunLength) (old new : ChatServer) : Type 0 where
  pub rounds : List Round
  pub within : LastsAtMost run_length rounds
  pub turns : RoundsOf kind host_calls old.bound.service rounds new.bound.service
  pub cut : AreCut rounds
  pub told : told_of new ≡ told_of old ++ unless_spent (faults_of old) (all_told rounds)
  pub queue_capacity : queue_capacity_of new ≡ queue_capacity_of old

-- What the relay made of what such turns put, as in a run that returns: each event is expanded once and in order, or waits; each order that
-- was asked for was handed to the turns, once and in order, or waits
pub record IsRelayed (old : ChatServer) (rounds : List Round) (new : ChatServer) : Type 0 where
  pub expanded : List Event
  pub asked_for : List Order
  pub events : backlog_of old ++ accepted (all_puts rounds) ≡ expanded ++ backlog_of new
  pub peers : peers_of new ≡ noted_all (peers_of old) expanded
  pub for_each : SameForEach asked_for (relayed_all (peers_of old) expanded)
  pub orders_done : orders_of old ++ asked_for ≡ orders (given (all_gave rounds)) ++ orders_of new

-- no peer, no event and no order
abbrev pub KeepsNothing : ChatServer → Type 0
KeepsNothing server = (peers_of server ≡ []) × (backlog_of server ≡ []) × (orders_of server ≡ [])

-- In two threads what such turns left is kept. It is lost only where the queues weren't settled, for want of memory or since one wasn't empty,
-- and then the server says so
pub record IsCutOffBeside (run_length : RunLength) (old new : ChatServer) : Type 0 where
  pub off : IsCutOff beside run_length old new
  pub kept : unsettled_of new ≡ None → IsRelayed old off.rounds new
  pub lost : (why : Refusal) → unsettled_of new ≡ Some why → IsNotSettled why × KeepsNothing new

-- in one thread it always is
pub record IsCutOffAlone (run_length : RunLength) (old new : ChatServer) : Type 0 where
  pub off : IsCutOff lone run_length old new
  pub kept : IsRelayed old off.rounds new
  pub settled : unsettled_of new ≡ None

-- what ends a run early: the wire failed, memory was wanting, the seat is spent, or a queue was not empty
abbrev pub EndsRun : Refusal → Type 0
EndsRun why = (why ≡ WireFault) ⊎ (why ≡ Memory) ⊎ (why ≡ SeatSpent) ⊎ (why ≡ StillHeld)

-- why there was no run: that, or there are no queues of the server's capacity
abbrev pub IsNotServed : ChatServer → Refusal → Type 0
IsNotServed server why = EndsRun why ⊎ ((why ≡ BadConfig) × ¬ (IsCapacity (queue_capacity_of server)))
