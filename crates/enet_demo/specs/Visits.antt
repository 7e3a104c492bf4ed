-- What comes of a client.
use Rattle.std.specs.Prelude.{◌≡◌, ◌⊎◌, ℕ, ◌+◌, ◌<◌, ◌≤◌, List, [], ◌∷◌, ◌++◌, length, Option, Some, None, is_some, slice_index_or}
use Rattle.std.specs.List.{All}
use Rattle.enet_codec.specs.declared.address.Addr.{Addr}
use Rattle.enet_codec.specs.declared.config.Secret.{Secret}
use Rattle.enet_codec.specs.declared.event.PeerRef.{PeerRef}
use Rattle.enet_codec.specs.declared.event.Event.{Event}
use Rattle.enet_codec.specs.declared.event.Event.TheVariants.{Connect, Receive, Disconnect, Refused}
use Rattle.enet_codec.specs.declared.refusal.Refusal.{Refusal}
use Rattle.enet_codec.specs.declared.refusal.Refusal.TheVariants.{BadConfig}
use Rattle.enet_codec.specs.Config.{standard_config}
use Rattle.enet_host.specs.Host.{Host}
use Rattle.enet_submit.specs.declared.order.Order.{Order}
use Rattle.enet_bridge.specs.Ends.{orders}
use Rattle.enet_turn.specs.declared.service.Service.{Service}
use Rattle.enet_turn.specs.Counts.{stopped}
use Rattle.enet_service.specs.Queues.{given, accepted}
use Rattle.enet_turn.specs.Turn.{Round}
use Rattle.enet_turn.specs.Run.{IsSound, all_gave, all_puts}
use Rattle.enet_service.specs.ServiceRuns.{TakesTurns}
use Rattle.enet_service.specs.ServiceRuns as runs
use Rattle.enet_serve.specs.Serving.{EndsRun}
use Rattle.enet_demo.specs.declared.demonstration.Demonstration.{Demonstration}
use Rattle.enet_demo.specs.declared.orders.Plan.{Plan}
use Rattle.enet_demo.specs.declared.player.Visit.{Visit}
use Rattle.enet_demo.specs.declared.stage.Stage.{Stage}
use Rattle.enet_demo.specs.declared.stage.Stage.TheVariants.{Alone, Connected, Chatted}
use Rattle.enet_demo.specs.Plans.{asks}

-- the peer of the first connection that these events tell
abbrev pub first_peer : List Event → Option PeerRef
first_peer [] = None
first_peer (Connect peer info ∷ es) = Some peer
first_peer (Receive peer packet ∷ es) = first_peer es
first_peer (Disconnect peer info ∷ es) = first_peer es
first_peer (Refused seat number why ∷ es) = first_peer es

-- the connection of a client that has come so far
abbrev pub peer_of : Stage → Option PeerRef
peer_of Alone = None
peer_of (Connected peer) = Some peer
peer_of (Chatted peer) = Some peer

-- how many packets they bring
abbrev pub packets : List Event → ℕ
packets [] = 0
packets (Connect peer info ∷ es) = packets es
packets (Receive peer packet ∷ es) = 1 + packets es
packets (Disconnect peer info ∷ es) = packets es
packets (Refused seat number why ∷ es) = packets es

-- the visit tells whether these events connect the client, and how many packets they bring
abbrev pub IsToldBy : List Event → Visit → Type 0
IsToldBy events visit = (visit.connected ≡ is_some (first_peer events)) × (visit.received ≡ stopped (packets events))

-- the server that the clients visit
abbrev pub or_own : Option Addr → Addr
or_own None = record { ip = 0x7f000001; port = 47100 }
or_own (Some server) = server

abbrev pub server_of : Demonstration → Addr
server_of shown = or_own shown.server

-- the client of this number, and how its service begins
abbrev pub plan_of : Demonstration → ℕ → Plan
plan_of shown number = record { number = number; server = server_of shown; secret = shown.secret }

abbrev pub beginning : Option Secret → Service Host
beginning secret = runs.beginning (record (standard_config 1 2) { generations = 4294967295; secret = secret })

-- A client's service took so many turns, in none of which the wire failed. The client's connection is the first that they told; they
-- were given a front of what it asked for; and the visit tells what they told
pub record Visits (old : Service Host) (plan : Plan) (turns : ℕ) (visit : Visit) : Type 0 where
  pub rounds : List Round
  pub new : Service Host
  pub lasts : length rounds ≡ turns
  pub turns_are : TakesTurns old rounds new
  pub sound : All IsSound rounds
  pub stage : Stage
  pub left : List Order
  pub connected : peer_of stage ≡ first_peer (accepted (all_puts rounds))
  pub asked : asks plan stage ≡ orders (given (all_gave rounds)) ++ left
  pub told : IsToldBy (accepted (all_puts rounds)) visit

-- each client's visit, from client 0 on
abbrev pub AreVisits : Demonstration → List Visit → Type 0
AreVisits shown visits = (length visits ≡ shown.clients) × ((k : ℕ) (d : Visit) → k < shown.clients → Visits (beginning shown.secret) (plan_of shown k) shown.turns (slice_index_or visits k d))

-- how many clients there may be
abbrev pub IsInRange : Demonstration → Type 0
IsInRange shown = (1 ≤ shown.clients) × (shown.clients ≤ 8)

-- why nothing is shown: there can't be so many clients, a port couldn't be had, or the server or a client ended early
abbrev pub IsNotShown : Demonstration → Refusal → Type 0
IsNotShown shown why = ((why ≡ BadConfig) × ¬ (IsInRange shown)) ⊎ EndsRun why
