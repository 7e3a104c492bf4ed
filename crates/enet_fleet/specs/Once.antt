-- No packet that goes unsequenced is taken twice, where none comes late.
use Rattle.std.specs.Prelude.{◌≡◌, ◌≤◌, ℕ, ◌+◌, ◌&&◌, if◌then◌else◌, List, [], ◌∷◌, ◌++◌, length, flat_map, zip, Option, Some, None, Result, Ok, slice_get}
use Rattle.enet_codec.specs.declared.config.Config.{Config}
use Rattle.enet_codec.specs.declared.event.PeerRef.{PeerRef}
use Rattle.enet_codec.specs.declared.header.Header.{Header}
use Rattle.enet_codec.specs.declared.packet.Packet.{Packet}
use Rattle.enet_codec.specs.declared.refusal.Refusal.{Refusal}
use Rattle.enet_codec.specs.Datagram.{SpellsDatagram}
use Rattle.enet_codec.specs.Message.{Message}
use Rattle.enet_outbox.specs.declared.parts.Unsequenced.{Unsequenced}
use Rattle.law_connection.specs.LinkSteps.{Has}
use Rattle.law_unsequenced.specs.Unsequenced.{going_unsequenced, come_unsequenced, carried, TakenAs, ComeAs, Each}
use Rattle.law_unsequenced.specs.Law.{AreDistinct}
use Rattle.law_network.specs.Headline.{received}
use Rattle.law_network.specs.Log.{Logged}
use Rattle.law_network.specs.Network.{HostEnd, is_same_name}
use Rattle.law_network.specs.Places.{Place}
use Rattle.law_headline.specs.declared.node.Node.{Node}
use Rattle.enet_fleet.specs.declared.answer.Answer.{Answer}
use Rattle.enet_fleet.specs.declared.answer.Answer.TheVariants as answers
use Rattle.enet_fleet.specs.declared.event.FleetEvent.{FleetEvent}
use Rattle.enet_fleet.specs.declared.event.FleetEvent.TheVariants as happen
use Rattle.enet_fleet.specs.Fleets.{Fleet, place_of, brings, Runs, open_fleet}
use Rattle.enet_fleet.specs.Transcript.{Happened, is_node, taken}

-- what an event adds to the packets that the user of host n submitted to its peer p, on whatever channel
abbrev pub submits_any : Node → PeerRef → FleetEvent → Result Answer Refusal → List Packet
submits_any n p (happen.Submit m q channel flags body) (Ok answers.Done) =
    if is_node m n && is_same_name p q then (record { channel = channel; flags = flags; body = body }) ∷ [] else []
submits_any n p _ _ = []

-- those of an end of host n that go unsequenced, in order
abbrev pub going : Node → HostEnd → List Happened → List Packet
going n e hs = going_unsequenced e.mtu (flat_map (λ h. submits_any n e.name h.0 h.1) hs)

-- one of these packets is carried, and at most 32,768 came after it
abbrev pub IsRecent : List Packet → Unsequenced → Type 0
IsRecent qs u = (n : ℕ) × ComeAs qs n u × (length qs ≤ n + 32768)

-- a command of a datagram carries a packet unsequenced
abbrev pub Carries : List ℕ → Unsequenced → Type 0
Carries text u = (h : Header) × (ms : List Message) × SpellsDatagram text h ms × (m : Message) × Has ms m × Has (carried m) u

-- the datagram that a delivery brings
abbrev pub datagram_in : Option Place → Option ℕ → Option Logged
datagram_in (Some p) (Some k) = slice_get p.site.log k
datagram_in _ _ = None

-- whatever an event brings host n of connection x unsequenced is recent
abbrev pub BringsRecent : Fleet → Node → ℕ → List Packet → FleetEvent → Result Answer Refusal → Type 0
BringsRecent f n x qs (happen.Deliver to from k) (Ok answer) =
    to ≡ n → (d : Logged) → datagram_in (place_of f from) (brings to (place_of f from) k) ≡ Some d → d.connection ≡ x → (u : Unsequenced) → Carries d.text u → IsRecent qs u
BringsRecent f n x qs _ _ = Unit {0}

-- so it is of each event of a run, of what the user of the end e of host n had submitted by then
abbrev pub AreRecent : (n to : Node) (e : HostEnd) (before : List Happened) (events : List FleetEvent) (answers : List (Result Answer Refusal)) (old new : Fleet) → Runs old events answers new → Type 0
AreRecent n to e before (v ∷ events) (a ∷ answers) old new run =
    BringsRecent old to e.connection (going n e before) v a × AreRecent n to e (before ++ (v, a) ∷ []) events answers run.0 new run.2
AreRecent n to e before _ _ old new run = Unit {0}

-- packets that were taken are some of these, each another
abbrev pub AreTakenOnce : List Packet → List Packet → Type 0
AreTakenOnce qs taken = (numbers : List ℕ) × Each (TakenAs qs) numbers taken × AreDistinct numbers

abbrev pub HasEnd : Fleet → Node → HostEnd → Type 0
HasEnd f n e = (p : Place) × (place_of f n ≡ Some p) × Has p.site.ends e

-- of each connection: what came unsequenced to its end t at one host was submitted to its end e at another, and each packet is taken once
abbrev pub NoneIsTakenTwice : Config → List Config → List FleetEvent → List (Result Answer Refusal) → Type 0
NoneIsTakenTwice server clients events answers =
    (f : Fleet) × (run : Runs (open_fleet server clients) events answers f)
    × ((n to : Node) (e t : HostEnd) → HasEnd f n e → HasEnd f to t → e.connection ≡ t.connection → AreRecent n to e [] events answers (open_fleet server clients) f run
    → AreTakenOnce (going n e (zip events answers)) (come_unsequenced (received (taken to t.name (zip events answers)))))
