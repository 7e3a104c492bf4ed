-- A world of two hosts, and its events one by one.
use Rattle.std.specs.Prelude.{◌≡◌, ℕ, min, true, List, [], ◌∷◌, length, Option, Some, None, Result, Ok, Err, slice_get}
use Rattle.std.specs.List.{list_any}
use Rattle.enet_codec.specs.declared.address.Addr.{Addr}
use Rattle.enet_codec.specs.declared.config.Config.{Config}
use Rattle.enet_codec.specs.declared.event.PeerRef.{PeerRef}
use Rattle.enet_codec.specs.declared.refusal.Refusal.{Refusal}
use Rattle.enet_codec.specs.declared.refusal.Refusal.TheVariants.{Memory}
use Rattle.enet_slot.specs.Calls.{tells}
use Rattle.enet_host.specs.Host.{Host}
use Rattle.enet_host.specs.Opening as host
use Rattle.law_network.specs.Calls.{Call, Acts}
use Rattle.law_network.specs.Calls as call
use Rattle.law_network.specs.declared.event.Answer.{Answer}
use Rattle.law_network.specs.declared.event.Answer.TheVariants as answers
use Rattle.law_network.specs.declared.event.Side.{Side}
use Rattle.law_network.specs.declared.event.Side.TheVariants.{A, B}
use Rattle.law_network.specs.declared.event.WorldEvent.{WorldEvent}
use Rattle.law_network.specs.declared.event.WorldEvent.TheVariants as happen
use Rattle.law_network.specs.Log.{fresh_channels, joined_greatest}
use Rattle.law_network.specs.Network.{HostEnd, Site, delivery_refusal}
use Rattle.law_network.specs.Running.{RunsBy}
use Rattle.law_network.specs.Steps.{Happening, Calls, Delivers, Happens, count_after}

-- both sides, and how many connections there have been
pub record World : Type 0 where
  pub a : Site
  pub b : Site
  pub count : ℕ

abbrev pub site_of : World → Side → Site
site_of w A = w.a
site_of w B = w.b

abbrev pub other : Side → Side
other A = B
other B = A

abbrev pub address_of : Side → Addr
address_of A = record { ip = 0x0A000001; port = 7001 }
address_of B = record { ip = 0x0A000002; port = 7002 }

-- one thing happens at a side, the other staying as it was
pub record HappensAt (side : Side) (e : Happening) (old new : World) : Type 0 where
  pub here : Happens old.count (site_of old (other side)) e (site_of old side) (site_of new side)
  pub there : site_of new (other side) ≡ site_of old (other side)
  pub count : new.count ≡ count_after old.count e

-- things that happen, one after another
abbrev pub AllHappen : List (Side × Happening) → World → World → Type 0
AllHappen [] old new = old ≡ new
AllHappen (e ∷ es) old new = (between : World) × HappensAt e.0 e.1 old between × AllHappen es between new

-- the side of an event
abbrev pub side_of : WorldEvent → Side
side_of (happen.Connect side channels info word) = side
side_of (happen.Submit side peer channel flags body) = side
side_of (happen.Deliver side k) = side
side_of (happen.Turn side) = side
side_of (happen.Tick side ms) = side
side_of (happen.Take side) = side
side_of (happen.Disconnect side peer how info) = side
side_of (happen.Admit side what) = side
side_of (happen.SetSendLimit side bytes commands) = side

-- the one host call of an event that was not refused, by what was answered
abbrev pub Makes : World → WorldEvent → Answer → Happening → Type 0
Makes w (happen.Connect side channels info word) (answers.Peer name) e = e ≡ Calls (call.Connect (address_of (other side)) channels info word (Ok name))
Makes w (happen.Submit side peer channel flags body) answers.Done e = e ≡ Calls (call.Submit peer channel (record { flags = flags; body = body }) (Ok tt))
Makes w (happen.Deliver side k) (answers.Received answer) e = e ≡ Delivers k answer
Makes w (happen.Turn side) (answers.Sent None) e = (buf : List ℕ) × (e ≡ Calls (call.Service None buf))
Makes w (happen.Turn side) (answers.Sent (Some n)) e =
    (gave : PeerRef × Addr × ℕ) × (buf : List ℕ) × (e ≡ Calls (call.Service (Some gave) buf)) × (n ≡ length (site_of w side).log)
Makes w (happen.Tick side ms) answers.Done e = e ≡ Calls (call.Tick ms)
Makes w (happen.Take side) (answers.Taken event) e = e ≡ Calls (call.NextEvent event)
Makes w (happen.Disconnect side peer how info) answers.Done e = e ≡ Calls (call.Disconnect how peer info (Ok tt))
Makes w (happen.Admit side what) answers.Done e = e ≡ Calls (call.Admit what (Ok tt))
Makes w (happen.SetSendLimit side bytes commands) answers.Done e = e ≡ Calls (call.SetSendLimit bytes commands)
Makes w _ _ e = ⊥

-- why an event is refused: a host call by what its host says, a delivery by the first refusal that applies. Memory may be wanting where nothing
-- else is refused, but for a tick, a disconnect, a setting, and a take where no event waits
abbrev pub IsRefusedFor : Refusal → Option Refusal → Type 0
IsRefusedFor why (Some first) = why ≡ first
IsRefusedFor why None = why ≡ Memory

abbrev pub RefusesCall : Call → Site → Type 0
RefusesCall c s = Acts c s.host s.host

-- the next event is only refused for want of memory, and only where some peer has one
abbrev pub RefusesTake : Refusal → Host → Type 0
RefusesTake why h = (why ≡ Memory) × (list_any tells h.slots ≡ true)

abbrev pub Refuses : World → WorldEvent → Refusal → Type 0
Refuses w (happen.Connect side channels info word) why = RefusesCall (call.Connect (address_of (other side)) channels info word (Err why)) (site_of w side)
Refuses w (happen.Submit side peer channel flags body) why =
    RefusesCall (call.Submit peer channel (record { flags = flags; body = body }) (Err (why, body))) (site_of w side)
Refuses w (happen.Deliver side k) why =
    IsRefusedFor why (delivery_refusal (site_of w (other side)) (site_of w side) (slice_get (site_of w (other side)).log k))
Refuses w (happen.Turn side) why = why ≡ Memory
Refuses w (happen.Tick side ms) why = ⊥
Refuses w (happen.Take side) why = RefusesTake why (site_of w side).host
Refuses w (happen.Disconnect side peer how info) why = RefusesCall (call.Disconnect how peer info (Err why)) (site_of w side)
Refuses w (happen.Admit side what) why = RefusesCall (call.Admit what (Err why)) (site_of w side)
Refuses w (happen.SetSendLimit side bytes commands) why = ⊥

-- a step: an event that is refused changes nothing, any other makes its one call on its side
abbrev pub Steps : World → WorldEvent → Result Answer Refusal → World → Type 0
Steps old event (Ok answer) new = (e : Happening) × Makes old event answer e × HappensAt (side_of event) e old new
Steps old event (Err why) new = Refuses old event why × (new ≡ old)

-- the steps of a list of events with what was answered to each, in order
abbrev pub Runs : World → List WorldEvent → List (Result Answer Refusal) → World → Type 0
Runs = RunsBy Steps

-- a world of two hosts to which nothing has happened
abbrev pub open_site : Side → Config → Site
open_site side c = record { address = address_of side; host = host.opened c; log = []; ends = [] }

abbrev pub open_world : Config → Config → World
open_world a b = record { a = open_site A a; b = open_site B b; count = 0 }

-- a world whose hosts have connection 0 from the start, with the lesser channel count and mtu of both configurations
abbrev pub joined_config : Config → Config → Config
joined_config c other = record c { channels = min c.channels other.channels; mtu = min c.mtu other.mtu }

abbrev pub joined_end : HostEnd
joined_end = record { connection = 0; name = record { slot = 0; generation = 0 }; mtu = 0; greatest = joined_greatest; channels = fresh_channels; events = [] }

abbrev pub joined_site : Side → Config → Site
joined_site side c = record { address = address_of side; host = host.joined c (address_of (other side)); log = []; ends = joined_end ∷ [] }

abbrev pub joined_world : Config → Config → World
joined_world a b = record { a = joined_site A (joined_config a b); b = joined_site B (joined_config b a); count = 1 }
