-- Which events of the law of one connection a turn, a datagram that is brought, a tick and a take are to an end of it at their host. By
-- these a run of two hosts in which nothing is lost is seen to be one of the two ends.
use Rattle.std.specs.Prelude.{◌≡◌, ◌≢◌, ◌≤◌, ◌⊎◌, ◌++◌, ℕ, Bool, true, List, [], ◌∷◌, Option, Some, None, slice_get}
use Rattle.enet_codec.specs.declared.address.Addr.{Addr}
use Rattle.enet_codec.specs.declared.event.Event.{Event as Told}
use Rattle.enet_codec.specs.declared.event.PeerRef.{PeerRef}
use Rattle.enet_codec.specs.declared.event.Received.{Received}
use Rattle.enet_peer.specs.declared.parts.PeerState.TheVariants as state
use Rattle.enet_peer.specs.Peering.{Peering}
use Rattle.enet_peer.specs.Refusing.{heeded}
use Rattle.enet_rtt.specs.Clock.{told_time}
use Rattle.law_connection.specs.LinkSteps.{Has}
use Rattle.law_connection.specs.Law.{offset_of}
use Rattle.law_connection.specs.Connection.{Put, End}
use Rattle.law_connection.specs.Steps.{Happens, Emit, Tick, Take, Set, GiveWay, ThrottleLimit, InTime, with_peer}
use Rattle.enet_slot.specs.Receiving.{no_peer}
use Rattle.enet_slot.specs.Slot.{greatest}
use Rattle.enet_host.specs.Opening.{host_basis, seat}
use Rattle.enet_host.specs.Receiving.{is_full, listener_of}
use Rattle.enet_host.specs.Ticking.{clock_after}
use Rattle.law_network.specs.Calls as call
use Rattle.law_network.specs.Law.{AreNamed, Faces}
use Rattle.law_network.specs.Log.{Logged}
use Rattle.law_network.specs.Network.{HostEnd, Site}
use Rattle.law_network.specs.Shown.{IsLogged, Shows, ShowsFar, IsApart}
use Rattle.law_network.specs.Steps.{Around, CallsAmong, BringsOne}

-- an end of a host is there afterwards, and the host shows it as one of which this holds
pub record IsShownAs (new : Site) (e : HostEnd) (Holds : End → Type 0) : Type 0 where
  pub after : HostEnd
  pub there : Has new.ends after
  pub connection : after.connection ≡ e.connection
  pub name : after.name ≡ e.name
  pub end : End
  pub shows : Shows new after end
  pub holds : Holds end

-- a datagram has just the commands that an end put out, in order, and tells when they went by the end's own times, if any asks for its
-- acknowledgement
pub record HasPut (now : ℕ) (own new : End) (d : Logged) : Type 0 where
  pub is : IsLogged new.log d
  pub all : new.log ≡ own.log ++ is.puts
  pub sent : (x : Put) → Has is.puts x → x.message.head.acknowledge ≡ true → is.header.sent ≡ Some (told_time now (offset_of own))

-- nothing is logged of a connection
abbrev pub HasNothingNew : Site → Site → ℕ → Type 0
HasNothingNew old new x = (k : ℕ) (d : Logged) → slice_get new.log k ≡ Some d → d.connection ≡ x → slice_get old.log k ≡ Some d

-- an end is asked for a datagram in vain, or isn't asked
abbrev pub IsPassedBy : ℕ → End → End → End → Type 0
IsPassedBy now own far new = ((new ≡ own) ⊎ Happens own far (Emit now) new) × (new.log ≡ own.log)

-- the datagram that its host put out and logged last is an end's own
pub record Gave (now : ℕ) (old after : Site) (x : ℕ) (own far new : End) : Type 0 where
  pub datagram : Logged
  pub logged : after.log ≡ old.log ++ datagram ∷ []
  pub of : datagram.connection ≡ x
  pub emits : Happens own far (Emit now) new
  pub has : HasPut now own new datagram

-- commands come to an end, in order, and none stops its datagram; its host may be full
abbrev pub AllHeeded : Bool → ℕ → Option ℕ → List Put → End → End → End → Type 0
AllHeeded full now sent [] own far new = new ≡ own
AllHeeded full now sent (x ∷ xs) own far new = (p : Peering) × (own.peer ≡ Some p) × InTime own far x × ((heeded full p now sent x.message).stop ≡ None)
    × AllHeeded full now sent xs (with_peer own (heeded full p now sent x.message).after) far new

-- time goes on at an end, whose throttle its host may limit then
abbrev pub Ticks : ℕ → End → End → End → Type 0
Ticks now own far new = Happens own far (Tick now) new ⊎ ((limit : ℕ) × (between : End) × Happens own far (Tick now) between × Happens between far (Set (ThrottleLimit limit)) new)

-- an end with a peer that isn't free
abbrev pub IsLive : End → Type 0
IsLive own = (p : Peering) → own.peer ≡ Some p → p.state ≢ state.Free

-- an end at a host, among others, that has no more than 2 ^ 32 - 1 generations
pub record IsEnd (s : Site) (e : HostEnd) (own : End) : Type 0 where
  pub few : s.host.config.generations ≤ greatest
  pub there : Has s.ends e
  pub apart : IsApart s.ends e
  pub shows : Shows s e own

-- a turn by which a host puts a datagram out to another host: an end put it out, or is passed by, and nothing of its connection went
abbrev pub Turns : Type 0
Turns = (w : Around) (from old new : Site) (gave : PeerRef × Addr × ℕ) (buf : List ℕ) → CallsAmong w from (call.Service (Some gave) buf) old new → w.is_host gave.1 ≡ true
    → (e : HostEnd) (own far : End) → IsEnd old e own → Faces w old e far
    → IsShownAs new e (λ end. Gave old.host.clock old new e.connection own far end ⊎ (IsPassedBy old.host.clock own far end × HasNothingNew old new e.connection))

-- one by which it puts none out: each end was asked
abbrev pub Rests : Type 0
Rests = (w : Around) (from old new : Site) (buf : List ℕ) → CallsAmong w from (call.Service None buf) old new → (e : HostEnd) (own far : End) → IsEnd old e own → IsLive own
    → IsShownAs new e (λ end. Happens own far (Emit old.host.clock) end × (end.log ≡ own.log) × (new.log ≡ old.log))

-- a datagram of an end's own connection that is brought to its slot and isn't stopped: all its commands come
abbrev pub Brings : Type 0
Brings = (k : ℕ) (answer : Received) (d : Logged) (from old new : Site) → BringsOne from (Some d) answer old new → slice_get from.log k ≡ Some d → AreNamed from.log
    → (e : HostEnd) (own far : End) → IsEnd old e own → ShowsFar from e.connection far → IsLive own → (l : IsLogged far.log d) → d.connection ≡ e.connection → d.peer ≡ e.name.slot → d.peer ≢ no_peer → answer.stop ≡ None
    → IsShownAs new e (λ end. AllHeeded (is_full (listener_of old.host)) old.host.clock l.header.sent l.puts own far end)

-- a CONNECT of another connection gets an end's slot: its peer waits for its client, and is let go
abbrev pub GoesTo : Addr → Site → HostEnd → Logged → End → End → End → Type 0
GoesTo from old e d own far new = (d.peer ≡ no_peer) × (seat (host_basis old.host) from old.host.slots ≡ Some e.name.slot) × Happens own far GiveWay new

-- a datagram of another connection is nothing to an end, unless its slot goes to that connection
abbrev pub PassesOver : Type 0
PassesOver = (k : ℕ) (answer : Received) (d : Logged) (from old new : Site) → BringsOne from (Some d) answer old new → slice_get from.log k ≡ Some d → AreNamed from.log
    → (e : HostEnd) (own far : End) → IsEnd old e own → ShowsFar from e.connection far → d.connection ≢ e.connection → IsShownAs new e (λ end. (end ≡ own) ⊎ GoesTo from.address old e d own far end)

abbrev pub Times : Type 0
Times = (w : Around) (from old new : Site) (ms : ℕ) → CallsAmong w from (call.Tick ms) old new → (e : HostEnd) (own far : End) → IsEnd old e own → IsLive own
    → IsShownAs new e (λ end. Ticks (clock_after old.host.clock ms) own far end)

-- the user of a host takes an event, which may be another end's
abbrev pub TakesOne : Type 0
TakesOne = (w : Around) (from old new : Site) (answer : Option Told) → CallsAmong w from (call.NextEvent answer) old new → (e : HostEnd) (own far : End) → IsEnd old e own
    → IsShownAs new e (λ end. (end ≡ own) ⊎ Happens own far Take end)
