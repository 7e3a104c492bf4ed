-- What is kept of an end of a connection is what the calls of its host add up to: the packets that its user submitted, and the events that it took.
use Rattle.std.specs.Prelude.{◌≡◌, ◌≢◌, ◌<◌, ◌≤◌, ◌⊎◌, ℕ, ◌==◌, ◌&&◌, Bool, true, false, if◌then◌else◌, List, [], ◌∷◌, ◌++◌, length, Option, Some, None, Ok, slice_get}
use Rattle.enet_codec.specs.declared.address.Addr.{Addr}
use Rattle.enet_codec.specs.declared.event.Event.{Event}
use Rattle.enet_codec.specs.declared.event.PeerRef.{PeerRef}
use Rattle.enet_codec.specs.declared.packet.Packet.{Packet}
use Rattle.enet_slot.specs.Slot.{SlotState, greatest}
use Rattle.enet_host.specs.Host.{Host}
use Rattle.law_connection.specs.LinkSteps.{Has}
use Rattle.law_network.specs.Calls as call
use Rattle.enet_peer.specs.Peering.{Peering}
use Rattle.law_network.specs.Headline as owned
use Rattle.law_network.specs.Log.{packets_at}
use Rattle.law_network.specs.Network.{HostEnd, Site, is_same_name}
use Rattle.law_headline.specs.Page.{is_of}
use Rattle.law_network.specs.Steps.{Around, Happening, Calls, HappensAmong}

-- what a thing at a host adds to the packets that were submitted to a peer on a channel, and accepted
abbrev pub submitted_by : PeerRef → ℕ → Happening → List Packet
submitted_by name channel (Calls (call.Submit to number q (Ok done))) =
    if is_same_name name to && number == channel then (record { channel = number; flags = q.flags; body = q.body }) ∷ [] else []
submitted_by name channel what = []

-- and to the events that were taken of a peer
abbrev pub taken_by : PeerRef → Happening → List Event
taken_by name (Calls (call.NextEvent (Some event))) = if is_of name event then event ∷ [] else []
taken_by name what = []

-- an end keeps what was submitted to its peer and what was taken of it, where these are such lists
pub record Tells (submitted : PeerRef → ℕ → List Packet) (taken : PeerRef → List Event) (e : HostEnd) : Type 0 where
  pub long : length e.channels ≡ 256
  pub submitted_is : (channel : ℕ) → channel < 256 → (packets_at e.channels channel).submitted ≡ submitted e.name channel
  pub events_is : e.events ≡ taken e.name

-- nobody had this name yet, and somebody may get it
pub record IsUnborn (h : Host) (name : PeerRef) : Type 0 where
  pub slot : SlotState
  pub there : slice_get h.slots name.slot ≡ Some slot
  pub left : name.generation < h.config.generations
  pub future : (slot.generation < name.generation) ⊎ ((slot.generation ≡ name.generation) × (slot.peer ≡ None))

-- so it is of each end of a host; a name that nobody had yet was named by nothing
pub record IsRecorded (submitted : PeerRef → ℕ → List Packet) (taken : PeerRef → List Event) (s : Site) : Type 0 where
  pub few : s.host.config.generations ≤ greatest
  pub ends : (e : HostEnd) → Has s.ends e → Tells submitted taken e
  pub unborn : (name : PeerRef) → IsUnborn s.host name → ((channel : ℕ) → submitted name channel ≡ []) × (taken name ≡ [])

abbrev pub and_submitted : (PeerRef → ℕ → List Packet) → Happening → PeerRef → ℕ → List Packet
and_submitted submitted what name channel = submitted name channel ++ submitted_by name channel what

abbrev pub and_taken : (PeerRef → List Event) → Happening → PeerRef → List Event
and_taken taken what name = taken name ++ taken_by name what

-- whatever happens at a host keeps it so
abbrev pub StaysRecorded : Type 0
StaysRecorded = (submitted : PeerRef → ℕ → List Packet) (taken : PeerRef → List Event) (w : Around) (from old new : Site) (what : Happening)
    → HappensAmong w from what old new → IsRecorded submitted taken old → IsRecorded (and_submitted submitted what) (and_taken taken what) new

-- ---- who has an end
-- a stranger's datagram by which a connection may begin
abbrev pub is_guest : Happening → Bool
is_guest (Calls (call.Receive address bytes answer)) = answer.handled == 1
is_guest what = false

-- each peer of a host is at a host's address
abbrev pub AreHosts : (Addr → Bool) → Host → Type 0
AreHosts is_host h = (i : ℕ) (t : SlotState) (p : Peering) → slice_get h.slots i ≡ Some t → t.peer ≡ Some p → is_host t.address ≡ true

-- whoever was named is an end's peer
abbrev pub AreEnds : (PeerRef → ℕ → List Packet) → (PeerRef → List Event) → Site → Type 0
AreEnds submitted taken s = (name : PeerRef) → ((channel : ℕ) × (submitted name channel ≢ [])) ⊎ (taken name ≢ []) → (e : HostEnd) × Has s.ends e × (e.name ≡ name)

pub record IsCovered (is_host : Addr → Bool) (submitted : PeerRef → ℕ → List Packet) (taken : PeerRef → List Event) (s : Site) : Type 0 where
  pub hosts : AreHosts is_host s.host
  pub ends : AreEnds submitted taken s

-- as long as no stranger's datagram is taken in
abbrev pub StaysCovered : Type 0
StaysCovered = (submitted : PeerRef → ℕ → List Packet) (taken : PeerRef → List Event) (w : Around) (from old new : Site) (what : Happening)
    → HappensAmong w from what old new → is_guest what ≡ false → w.is_host from.address ≡ true → owned.AreEnds w.is_host old
    → IsCovered w.is_host submitted taken old → IsCovered w.is_host (and_submitted submitted what) (and_taken taken what) new
