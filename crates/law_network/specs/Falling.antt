-- Which of a host's calls fall to a slot, and as what deeds of its peer. Of the host this sees what its connections share alone.
use Rattle.std.specs.Prelude.{◌≡◌, ◌≢◌, ◌⊎◌, ℕ, ◌==◌, ◌&&◌, ◌+◌, Bool, min, nat_lt, is_some, if◌then◌else◌, false, Option, Some, None, Ok, Err, List, [], ◌∷◌, ◌++◌, take, true}
use Rattle.enet_codec.specs.declared.address.Addr.{Addr}
use Rattle.enet_codec.specs.declared.event.DisconnectMode.{DisconnectMode}
use Rattle.enet_codec.specs.declared.event.DisconnectMode.TheVariants as mode
use Rattle.enet_codec.specs.declared.event.Event.{Event}
use Rattle.enet_codec.specs.declared.event.Event.TheVariants as event
use Rattle.enet_codec.specs.declared.event.PeerRef.{PeerRef}
use Rattle.enet_codec.specs.declared.event.Received.{Received}
use Rattle.enet_codec.specs.declared.stop.Stop.{Stop}
use Rattle.enet_codec.specs.declared.stop.Stop.TheVariants as stop
use Rattle.enet_codec.specs.declared.command.Offer.{Offer}
use Rattle.enet_codec.specs.declared.header.Header.{Header}
use Rattle.enet_codec.specs.Message.{Message, Spells}
use Rattle.enet_peer.specs.declared.parts.PeerEvent.{PeerEvent}
use Rattle.enet_peer.specs.declared.parts.PeerEvent.TheVariants as told
use Rattle.enet_peer.specs.Peering.{Peering}
use Rattle.enet_peer.specs.Calls.{is_connected}
use Rattle.enet_peer.specs.Calls as peers
use Rattle.enet_peer.specs.Handling.{Arrival, SpellsNone, one_more}
use Rattle.enet_peer.specs.Handling as handling
use Rattle.enet_peer.specs.Heading.{IsUnreadable, IsRead, IsOffer}
use Rattle.enet_slot.specs.Slot.{SlotState, name_of, greatest}
use Rattle.enet_slot.specs.Giving.{asking, answering}
use Rattle.enet_slot.specs.Entering.{awaits}
use Rattle.enet_slot.specs.Receiving.{no_peer, refused_by_slot, stopped, was_refused}
use Rattle.enet_slot.specs.Sharing.{limit_for}
use Rattle.enet_host.specs.Host.{slot_named}
use Rattle.enet_host.specs.Receiving.{handled_one, offer_refused}
use Rattle.enet_host.specs.Ticking.{clock_after}
use Rattle.law_connection.specs.Steps.{Way, Asking, Now, Later}
use Rattle.law_connection.specs.Steps as setting
use Rattle.law_network.specs.Calls as call
use Rattle.law_network.specs.Calls.{Call, Series, later}
use Rattle.law_network.specs.Common.{Common, common_of, common_basis}
use Rattle.law_network.specs.Deeds.{Deed, Submit, Emit, Come, Tick, Take, Disconnect, Set, GiveWay, TellAgain}

abbrev pub deeds_if : Bool → Deed → List Deed
deeds_if does d = if does then d ∷ [] else []

-- whether a name means the peer of slot i, which is s
abbrev pub is_meant : PeerRef → ℕ → SlotState → Bool
is_meant name i s = name.slot == i && s.generation == name.generation

-- the commands that bytes spell come to a peer, `handled` having counted before: each is a deed, until none is left or one stops
-- them, and this is answered of all. The count stops at its greatest number, for which a datagram must have more than 16 GiB
pub data Falls (a : Arrival) : ℕ → List ℕ → Received → List Deed → Type 0 where
  nothing_left : (handled : ℕ) → Falls a handled [] (record { handled = handled; stop = None }) []
  no_command : (handled : ℕ) (bytes : List ℕ) → bytes ≢ [] → SpellsNone bytes → Falls a handled bytes (record { handled = handled; stop = Some stop.BadCommand }) []
  stops : (handled : ℕ) (text rest : List ℕ) (m : Message) (why : Stop) → Spells text m
      → Falls a handled (text ++ rest) (record { handled = handling.counted handled why; stop = Some why }) (Come a m (Err why) ∷ [])
  goes_on : (handled : ℕ) (text rest : List ℕ) (m : Message) (answer : Received) (ds : List Deed) → Spells text m
      → Falls a (one_more handled) rest answer ds → Falls a handled (text ++ rest) answer (Come a m (Ok tt) ∷ ds)

-- a call of receive: what the connections share, the address that the datagram came from, its bytes, and what was answered
pub record Receipt : Type 0 where
  pub host : Common
  pub from : Addr
  pub bytes : List ℕ
  pub answer : Received

-- whether an offer gets slot i, whose peer gives way
pub record GetsSeat (i : ℕ) (r : Receipt) (header : Header) (commands : List ℕ) : Type 0 where
  pub offer : Offer
  pub stranger : header.peer ≡ no_peer
  pub is : IsOffer commands offer
  pub taken : offer_refused offer ≡ None
  pub new : r.host.knows r.from offer.connect_id ≡ false
  pub seat : r.host.seat r.from ≡ Some i
  pub answered : r.answer ≡ handled_one

-- what of a datagram reaches the peer of slot i, which is s: nothing where it can't be read, doesn't name this slot or the slot
-- turns it away, and else its commands. A peer that was refused is told so again if the datagram tells a sent time. An offer may make the
-- peer give way
pub data Reaches (i : ℕ) (s : SlotState) (r : Receipt) : List Deed → Type 0 where
  unreadable : (why : Stop) → IsUnreadable r.bytes why → Reaches i s r []
  elsewhere : (header : Header) (commands : List ℕ) → IsRead r.bytes header commands → ((header.peer ≡ no_peer) ⊎ (header.peer ≢ i)) → (GetsSeat i r header commands → ⊥) → Reaches i s r []
  gives_way : (header : Header) (commands : List ℕ) → IsRead r.bytes header commands → GetsSeat i r header commands → Reaches i s r (GiveWay ∷ [])
  turned_away : (header : Header) (commands : List ℕ) (why : Stop) → IsRead r.bytes header commands → header.peer ≢ no_peer → header.peer ≡ i
      → refused_by_slot r.from header.session (Some s) ≡ Some why → r.answer ≡ stopped why → Reaches i s r []
  here : (header : Header) (commands : List ℕ) (ds : List Deed) → IsRead r.bytes header commands → header.peer ≢ no_peer → header.peer ≡ i
      → refused_by_slot r.from header.session (Some s) ≡ None → was_refused s ≡ false
      → Falls (record { now = r.host.clock; sent = header.sent; full = awaits s && r.host.full }) 0 commands r.answer ds → Reaches i s r ds
  told_again : (header : Header) (commands : List ℕ) → IsRead r.bytes header commands → header.peer ≢ no_peer → header.peer ≡ i
      → refused_by_slot r.from header.session (Some s) ≡ None → was_refused s ≡ true → r.answer ≡ stopped stop.NotConnected → Reaches i s r (deeds_if (is_some header.sent) TellAgain)

-- slots are asked in turn, up to slot j: this falls to slot j, and that to each before it
abbrev pub up_to : (turn : ℕ → ℕ) (j i : ℕ) (gives passes : Deed) → List Deed
up_to turn j i gives passes = if j == i then gives ∷ [] else deeds_if (nat_lt (turn i) (turn j)) passes

-- a call of service asks the slots up to the one that gives a datagram, which stands at the front of the buffer
abbrev pub asked_for : Common → ℕ → Option (PeerRef × Addr × ℕ) → List ℕ → List Deed
asked_for h i None buf = Emit h.clock None ∷ []
asked_for h i (Some gave) buf = up_to h.turn gave.0.slot i (Emit h.clock (Some (take gave.2 buf))) (Emit h.clock None)

-- once a second a tick limits the throttle of a peer that is connected then
abbrev pub share_of : Common → (now sent : ℕ) → Peering → List Deed
share_of h now sent p =
    deeds_if (h.is_due now && is_connected p.state) (Set (setting.ThrottleLimit (limit_for h.config.outgoing (h.standing now) sent p)) (Ok tt))

abbrev pub way_of : DisconnectMode → Way
way_of mode.Ask = Asking
way_of mode.Now = Now
way_of mode.Later = Later

-- a call of next_event asks the slots up to the one that gives an event
abbrev pub taken_up_to : Common → ℕ → PeerRef → PeerEvent → List Deed
taken_up_to h i name e = up_to h.event_turn name.slot i (Take (Some e)) (Take None)

abbrev pub taken_from : Common → ℕ → Option Event → List Deed
taken_from h i None = Take None ∷ []
taken_from h i (Some (event.Connect name info)) = taken_up_to h i name (told.Connect info)
taken_from h i (Some (event.Receive name packet)) = taken_up_to h i name (told.Receive packet)
taken_from h i (Some (event.Disconnect name info)) = taken_up_to h i name (told.Disconnect info)
taken_from h i (Some (event.Refused seat number why)) = []

-- a slot that holds a peer: its number, what stands in it, and the peer
pub record Occupied : Type 0 where
  pub number : ℕ
  pub slot : SlotState
  pub peer : Peering

-- the deeds by which a call on a host fell to the peer of a slot. A refused call of the whole host falls to nobody: the memory that it
-- wanted may be another peer's
abbrev pub Fell : Common → Occupied → Call → List Deed → Type 0
Fell h x (call.Connect address channels info word answer) ds = ds ≡ []
Fell h x (call.Submit name channel q answer) ds =
    ds ≡ deeds_if (is_meant name x.number x.slot) (Submit (record { channel = channel; flags = q.flags; body = q.body }) h.send_limit answer)
Fell h x (call.Receive from bytes answer) ds =
    Reaches x.number x.slot (record { host = h; from = from; bytes = bytes; answer = answer }) ds
Fell h x (call.Service answer buf) ds = ds ≡ asked_for h x.number answer buf
Fell h x (call.Tick ms) ds =
    ds ≡ Tick (clock_after h.clock ms) (h.short x.number)
    ∷ share_of h (clock_after h.clock ms) x.slot.emitted (peers.moved (h.short x.number) x.peer (clock_after h.clock ms))
Fell h x (call.Disconnect mode name info answer) ds = ds ≡ deeds_if (is_meant name x.number x.slot) (Disconnect (way_of mode) info answer)
Fell h x (call.SetBandwidth incoming outgoing (Ok done)) ds = ds ≡ Set (setting.Bandwidth incoming outgoing) (Ok done) ∷ []
Fell h x (call.SetBandwidth incoming outgoing (Err why)) ds = ds ≡ []
Fell h x (call.ConfigureThrottle name interval acceleration deceleration answer) ds =
    ds ≡ deeds_if (is_meant name x.number x.slot) (Set (setting.Throttle interval acceleration deceleration) answer)
Fell h x (call.SetPingInterval name ms answer) ds = ds ≡ deeds_if (is_meant name x.number x.slot) (Set (setting.PingInterval ms) answer)
Fell h x (call.SetTimeout name limit minimum maximum answer) ds =
    ds ≡ deeds_if (is_meant name x.number x.slot) (Set (setting.Timeout limit minimum maximum) answer)
Fell h x (call.NextEvent answer) ds = ds ≡ taken_from h x.number answer
Fell h x (call.Admit what answer) ds = ds ≡ []
Fell h x (call.SetSendLimit bytes commands) ds = ds ≡ []

-- slot i, which is s, if it holds a peer
abbrev pub occupied_in : ℕ → SlotState → Option Peering → Option Occupied
occupied_in i s None = None
occupied_in i s (Some p) = Some (record { number = i; slot = s; peer = p })

-- the deeds that fell to a slot that may be free
abbrev pub fell_in : Common → Option Occupied → Call → List Deed → Type 0
fell_in h None c ds = ds ≡ []
fell_in h (Some x) c ds = Fell h x c ds

abbrev pub fell_to : Common → ℕ → Option SlotState → Call → List Deed → Type 0
fell_to h i None c ds = ds ≡ []
fell_to h i (Some s) c ds = fell_in h (occupied_in i s s.peer) c ds

-- how many bytes slot i, which is s, counts after a call for its next share of bandwidth: a datagram that it gave is added, and
-- once the bandwidth is shared out the count begins anew
abbrev pub counted : Call → Common → ℕ → SlotState → ℕ
counted (call.Service (Some gave) buf) h i s = if gave.0.slot == i then min (s.emitted + gave.2) greatest else s.emitted
counted (call.Tick ms) h i s = if h.is_due (clock_after h.clock ms) then 0 else s.emitted
counted c h i s = s.emitted

-- by a call a connection begins in slot i, which is s, and leaves it so. The user asks from the lowest slot that is free and has a generation
-- left; a CONNECT whose connection isn't there yet is answered from that one or from one whose peer gave way
pub data Begins (c : Call) (h : Common) (i : ℕ) (s : SlotState) : SlotState → Type 0 where
  asks : (address : Addr) (channels info word : ℕ) → c ≡ call.Connect address channels info word (Ok (name_of i s)) → channels ≢ 0
      → h.available ≡ Some i
      → Begins c h i s (asking (common_basis h) i s (record { address = address; channels = channels; info = info; word = word }))
  answers : (from : Addr) (bytes commands : List ℕ) (header : Header) (o : Offer) → c ≡ call.Receive from bytes handled_one
      → IsRead bytes header commands → header.peer ≡ no_peer → IsOffer commands o → offer_refused o ≡ None → h.knows from o.connect_id ≡ false
      → h.seat from ≡ Some i → Begins c h i s (answering (common_basis h) i s from o)

-- the deeds by which a list of calls fell to the peer of this name, one call after another; none once the name is spent
abbrev pub FellAll : PeerRef → (cs : List Call) → Series cs → List Deed → Type 0
FellAll name [] series ds = ds ≡ []
FellAll name (c ∷ cs) series ds =
    (first rest : List Deed) × (ds ≡ first ++ rest) × fell_to (common_of series.before) name.slot (slot_named series.before.slots name) c first
    × FellAll name cs (later series) rest
