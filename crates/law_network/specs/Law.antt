-- What happens at a host is, for each of its connections, a number of events of the law of one connection.
use Rattle.std.specs.Prelude.{◌≡◌, ◌≢◌, ◌<◌, ◌≤◌, ◌⊎◌, ◌&&◌, ◌==◌, Bool, true, false, ℕ, List, Some, Result, Ok, slice_get}
use Rattle.enet_codec.specs.declared.address.Addr.{Addr}
use Rattle.enet_codec.specs.declared.config.Config.{Config}
use Rattle.enet_codec.specs.Config.{is_in_range}
use Rattle.enet_codec.specs.declared.event.PeerRef.{PeerRef}
use Rattle.enet_codec.specs.declared.event.Received.{Received}
use Rattle.enet_codec.specs.declared.refusal.Refusal.{Refusal}
use Rattle.enet_codec.specs.declared.command.Offer.{Offer}
use Rattle.enet_codec.specs.declared.header.Header.{Header}
use Rattle.enet_peer.specs.Heading.{IsRead}
use Rattle.law_connection.specs.LinkSteps.{Has}
use Rattle.law_connection.specs.Connection.{End, sent_on}
use Rattle.law_connection.specs.Law.{IsLawful}
use Rattle.law_connection.specs.Steps.{Event, Happens as HappensLaw, no_end, asking_pair}
use Rattle.law_unsequenced.specs.Law.{EachSubmitted}
use Rattle.enet_slot.specs.Drawing.{drawn}
use Rattle.enet_slot.specs.Giving.{limits_of}
use Rattle.enet_slot.specs.Slot.{greatest}
use Rattle.enet_host.specs.Host.{Host}
use Rattle.enet_host.specs.Calls.{address_named}
use Rattle.law_network.specs.Calls as call
use Rattle.law_network.specs.declared.event.Answer.{Answer}
use Rattle.law_network.specs.declared.event.Side.{Side}
use Rattle.law_network.specs.declared.event.WorldEvent.{WorldEvent}
use Rattle.law_network.specs.Log.{Logged, greatest_at}
use Rattle.law_network.specs.Network.{HostEnd, Site, fresh_end, is_at}
use Rattle.law_network.specs.Shown.{Shows, ShowsFar, Went, IsApart}
use Rattle.law_network.specs.Steps.{Around, Happening, Calls, Delivers, HappensAmong, BringsOne, begun}
use Rattle.law_network.specs.World.{World, AllHappen, Runs, open_world, joined_world}

-- of each datagram of a log it is kept which peer id its header names
abbrev pub AreNamed : List Logged → Type 0
AreNamed log = (d : Logged) → Has log d → (h : Header) (commands : List ℕ) → IsRead d.text h commands → d.peer ≡ h.peer

-- an end goes on at its host: it is there afterwards, of the same connection, and by events of the law comes to what the host shows then
pub record GoesOn (own far : End) (new : Site) (e : HostEnd) : Type 0 where
  pub after : HostEnd
  pub there : Has new.ends after
  pub connection : after.connection ≡ e.connection
  pub name : after.name ≡ e.name
  pub went : Went own far new after

-- no peer of an end stands at this address
abbrev pub IsElsewhere : Site → HostEnd → Addr → Type 0
IsElsewhere s e address = is_at address (address_named s.host.slots e.name) ≡ false

-- a datagram that is brought is of the host that has the other end of a connection, or of one at another address
abbrev pub IsBetween : Site → Happening → Site → HostEnd → End → Type 0
IsBetween from (Delivers k answer) s e far = ShowsFar from e.connection far ⊎ IsElsewhere s e from.address
IsBetween from (Calls c) s e far = Unit {0}

-- what is around an end of a host, whose other end is `far`: how far the other's numbers have come, and no stranger is at the address of its peer
pub record Faces (w : Around) (s : Site) (e : HostEnd) (far : End) : Type 0 where
  pub numbers : (channel : ℕ) → channel < 255 → greatest_at (w.numbers e.connection) channel ≡ sent_on channel far
  pub strangers : (address : Addr) → w.is_host address ≡ false → IsElsewhere s e address

-- by one thing that happens at a host each end of a connection there that is shown goes on
abbrev pub GoOn : Site → Type 0
GoOn old = (w : Around) (from new : Site) (what : Happening) → HappensAmong w from what old new → AreNamed from.log
    → (e : HostEnd) → Has old.ends e → IsApart old.ends e → (own far : End) → Shows old e own → Faces w old e far → IsBetween from what old e far
    → GoesOn own far new e

-- so it is at each host that has no more than 2 ^ 32 - 1 generations
abbrev pub OneThing : Type 0
OneThing = (old : Site) → old.host.config.generations ≤ greatest → GoOn old

-- so it is at this host, whatever is kept of it
abbrev pub GoOnAt : Host → Type 0
GoOnAt h = (old : Site) → old.host ≡ h → GoOn old

-- nothing of connection x was put out by a host
abbrev pub HasNothingOf : ℕ → Site → Type 0
HasNothingOf x s = (d : Logged) → Has s.log d → d.connection ≢ x

-- what is drawn for the sent times of the peer of this name; 0 where its host has no secret
abbrev pub time_drawn : Config → PeerRef → ℕ
time_drawn c name = (drawn c.secret name.slot name.generation).offsets.time

-- a client asks: its end begins as the first of a pair of the law
abbrev pub Asked : Type 0
Asked = (w : Around) (from old new : Site) (address : Addr) (channels info word : ℕ) (name : PeerRef)
    → HappensAmong w from (Calls (call.Connect address channels info word (Ok name))) old new → HasNothingOf w.count old
    → (offer : Offer) × (offer.connect_id ≡ word) × Has new.ends (fresh_end w.count name)
    × Shows new (fresh_end w.count name) (asking_pair old.host.clock (time_drawn old.host.config name) offer (limits_of old.host.config)).one

-- a datagram that is brought to a host where an end begins is a CONNECT that the other end put out: the end is one that answers it. So it is
-- at each host that has no more than 2 ^ 32 - 1 generations
pub record Begins (far : End) (new : Site) (f : HostEnd) : Type 0 where
  pub event : Event
  pub own : End
  pub answers : HappensLaw no_end far event own
  pub shows : Shows new f own

abbrev pub Answered : Type 0
Answered = (k : ℕ) (answer : Received) (d : Logged) (from old new : Site) → old.host.config.generations ≤ greatest → BringsOne from (Some d) answer old new → slice_get from.log k ≡ Some d
    → HasNothingOf d.connection old → (f : HostEnd) → Has (begun d.connection from.address old.host new.host) f → (far : End) → ShowsFar from d.connection far → Begins far new f

-- a host shows an end of connection x, or has none of it
abbrev pub ShowsAt : Site → ℕ → End → Type 0
ShowsAt s x own = ((e : HostEnd) × Has s.ends e × (e.connection ≡ x) × Shows s e own) ⊎ (((e : HostEnd) → Has s.ends e → e.connection ≢ x) × (own ≡ no_end))

-- two ends of one connection, either of which may have asked
abbrev pub LawfulEither : Bool → End → End → Type 0
LawfulEither joined a b = IsLawful joined (record { one = a; two = b }) ⊎ IsLawful joined (record { one = b; two = a })

-- two hosts show the ends of connection x, of which the law of one connection holds, and that of its unsequenced packets
pub record IsPaired (joined : Bool) (a b : Site) (x : ℕ) : Type 0 where
  pub one : End
  pub two : End
  pub here : ShowsAt a x one
  pub there : ShowsAt b x two
  pub lawful : LawfulEither joined one two
  pub unsequenced : EachSubmitted one two × EachSubmitted two one

-- the law of one connection holds of each connection so far; `joined` says that connection 0 stands from the start
abbrev pub AreLawful : Bool → World → Type 0
AreLawful joined w = (x : ℕ) → x < w.count → IsPaired (joined && x == 0) w.a w.b x

-- of every world that comes of two hosts that begin with free slots, whatever happens at either
abbrev pub OfEachRun : (World → Type 0) → Type 0
OfEachRun P = (a b : Config) → (is_in_range a && is_in_range b) ≡ true → (es : List (Side × Happening)) (w : World) → AllHappen es (open_world a b) w → P w

-- and of two that have connection 0 from the start
abbrev pub OfEachJoinedRun : (World → Type 0) → Type 0
OfEachJoinedRun P = (a b : Config) → (is_in_range a && is_in_range b) ≡ true → (es : List (Side × Happening)) (w : World) → AllHappen es (joined_world a b) w → P w

-- the same of the events of a world, whatever is answered to them
abbrev pub OfEachList : (World → Type 0) → Type 0
OfEachList P = (a b : Config) → (is_in_range a && is_in_range b) ≡ true
    → (events : List WorldEvent) (answers : List (Result Answer Refusal)) (w : World) → Runs (open_world a b) events answers w → P w

abbrev pub OfEachJoinedList : (World → Type 0) → Type 0
OfEachJoinedList P = (a b : Config) → (is_in_range a && is_in_range b) ≡ true
    → (events : List WorldEvent) (answers : List (Result Answer Refusal)) (w : World) → Runs (joined_world a b) events answers w → P w
