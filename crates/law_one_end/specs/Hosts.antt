-- A peer of a host among any others, by the calls of the host alone: what the user was told of it and submitted to it, what came from where
-- the host has it, and what was put out to it.
use Rattle.std.specs.Prelude.{◌≡◌, ◌⊎◌, ℕ, false, if◌then◌else◌, List, [], ◌∷◌, ◌++◌, take, flat_map, Some, None, Ok, Err}
use Rattle.enet_codec.specs.declared.address.Addr.{Addr}
use Rattle.enet_codec.specs.declared.event.Event.TheVariants as event
use Rattle.enet_codec.specs.declared.event.PeerRef.{PeerRef}
use Rattle.enet_codec.specs.declared.header.Header.{Header}
use Rattle.enet_codec.specs.declared.packet.Packet.{Packet}
use Rattle.enet_codec.specs.declared.stop.Stop.TheVariants as stop
use Rattle.enet_codec.specs.Message.{Message}
use Rattle.enet_host.specs.Host.{Host, named}
use Rattle.enet_host.specs.Calls.{address_named}
use Rattle.enet_outbox.specs.declared.parts.Destination.{Destination}
use Rattle.enet_outbox.specs.Emission.{datagram}
use Rattle.enet_peer.specs.declared.parts.PeerEvent.{PeerEvent}
use Rattle.enet_peer.specs.declared.parts.PeerEvent.TheVariants as told
use Rattle.enet_peer.specs.declared.parts.PeerState.TheVariants as state
use Rattle.enet_peer.specs.Heading.{IsRead}
use Rattle.enet_peer.specs.Peering.{Peering}
use Rattle.enet_slot.specs.Receiving.{is_same_address}
use Rattle.law_network.specs.Beginnings.{BeginsAs}
use Rattle.law_network.specs.Calls.{Call, Steps, Series, later}
use Rattle.law_network.specs.Calls as call
use Rattle.law_network.specs.Deeds.{Deed}
use Rattle.law_network.specs.Deeds as deed
use Rattle.law_network.specs.Falling.{FellAll}
use Rattle.law_network.specs.Network.{is_same_name}
use Rattle.law_one_end.specs.OneEnd.{OneEnd, Event, Submit, Emit, Come, Tick, Take, Disconnect, Set, GiveWay, TellAgain, Runs, beginning}
use Rattle.law_one_end.specs.Datagrams.{Begins}
use Rattle.law_one_end.specs.Law.{HasOneLife, IsHeard}
use Rattle.law_one_end.specs.Sent.{IsSent, TellsSlot}
use Rattle.law_one_end.specs.Confirmed.{IsToldConfirmed}

-- what a call told the user of the peer of this name
abbrev pub told_by : PeerRef → Call → List PeerEvent
told_by name (call.NextEvent (Some (event.Connect peer info))) = if is_same_name name peer then told.Connect info ∷ [] else []
told_by name (call.NextEvent (Some (event.Receive peer packet))) = if is_same_name name peer then told.Receive packet ∷ [] else []
told_by name (call.NextEvent (Some (event.Disconnect peer info))) = if is_same_name name peer then told.Disconnect info ∷ [] else []
told_by name c = []

-- the packet that the user submitted to it, if it was accepted
abbrev pub accepted_by : PeerRef → Call → List Packet
accepted_by name (call.Submit peer channel q (Ok done)) = if is_same_name name peer then (record { channel = channel; flags = q.flags; body = q.body }) ∷ [] else []
accepted_by name c = []

-- the datagram that came from an address
abbrev pub brought_by : Addr → Call → List (List ℕ)
brought_by a (call.Receive from bytes answer) = if is_same_address a from then bytes ∷ [] else []
brought_by a c = []

-- the datagram that the peer put out, and where to it went
abbrev pub given_by : PeerRef → Call → List (Addr × List ℕ)
given_by name (call.Service (Some gave) buf) = if is_same_name name gave.0 then (gave.1, take gave.2 buf) ∷ [] else []
given_by name c = []

-- the command that came by a deed
abbrev pub message_in : Deed → List Message
message_in (deed.Come a m answer) = m ∷ []
message_in d = []

-- a datagram names this slot, and these commands stand at its front, one after another
pub record AreFirst (slot : ℕ) (bytes : List ℕ) (ms : List Message) : Type 0 where
  pub header : Header
  pub commands : List ℕ
  pub read : IsRead bytes header commands
  pub names : header.peer ≡ slot
  pub begins : Begins commands ms

-- these commands came by these datagrams, one after another: from each none, or those at its front where it names this slot
abbrev pub CameBy : ℕ → List (List ℕ) → List Message → Type 0
CameBy slot [] ms = ms ≡ []
CameBy slot (d ∷ ds) ms = (first rest : List Message) × ((first ≡ []) ⊎ AreFirst slot d first) × (ms ≡ first ++ rest) × CameBy slot ds rest

-- these datagrams went to this address and have these commands, one after another
abbrev pub AreOf : Addr → List (Addr × List ℕ) → List Message → Type 0
AreOf a [] ms = ms ≡ []
AreOf a (d ∷ ds) ms = (now : ℕ) × (to : Destination) × (first rest : List Message) × (d ≡ (a, datagram now to first)) × (ms ≡ first ++ rest) × AreOf a ds rest

-- before, between and after these calls the host has the peer of this name at this address, if it has it
abbrev pub StaysAt : PeerRef → Addr → (cs : List Call) → Series cs → Type 0
StaysAt name a [] series = (b : Addr) → address_named series.before.slots name ≡ Some b → b ≡ a
StaysAt name a (c ∷ cs) series = ((b : Addr) → address_named series.before.slots name ≡ Some b → b ≡ a) × StaysAt name a cs (later series)

-- by one of these calls the peer of this name began so, at this address, and since then these deeds fell to it; the commands that came came by
-- the datagrams from there
abbrev pub BeganAt : PeerRef → Addr → (cs : List Call) → Series cs → Peering → List Deed → Type 0
BeganAt name a [] series first ds = ⊥
BeganAt name a (c ∷ cs) series first ds =
    ((began : BeginsAs c series.before name first) × (began.given.address ≡ a) × FellAll name cs (later series) ds
    × CameBy name.slot (flat_map (brought_by a) cs) (flat_map message_in ds)) ⊎ BeganAt name a cs (later series) first ds

-- what a deed is to the peer's end: nothing where it was refused, where memory was wanting, or where no event was there to be taken
abbrev pub event_in : Deed → List Event
event_in (deed.Submit q limit (Ok done)) = Submit q ∷ []
event_in (deed.Emit now given) = Emit now ∷ []
event_in (deed.Come a m (Err stop.Memory)) = []
event_in (deed.Come a m answer) = Come m a.now a.sent ∷ []
event_in (deed.Tick now short) = Tick now ∷ []
event_in (deed.Take (Some e)) = Take ∷ []
event_in (deed.Disconnect way info (Ok done)) = Disconnect way info ∷ []
event_in (deed.Set setting (Ok done)) = Set setting ∷ []
event_in deed.GiveWay = GiveWay ∷ []
event_in deed.TellAgain = TellAgain ∷ []
event_in d = []

-- the peer of this name began by one of these calls, at an address where it stayed, and is one end since: what happens there is what fell to
-- it. All that the user was told of it, which is one life, and all that it accepted is that end's, and all that it put out went to that address.
-- If it answered, its user was told of the connection only once the answer was confirmed, and the answer tells the slot of its name
pub record IsEnd (name : PeerRef) (cs : List Call) (series : Series cs) : Type 0 where
  pub address : Addr
  pub first : Peering
  pub deeds : List Deed
  pub began : BeganAt name address cs series first deeds
  pub end : OneEnd
  pub runs : Runs (flat_map event_in deeds) (beginning first) end
  pub taken : end.taken ≡ flat_map (told_by name) cs
  pub submitted : end.submitted ≡ flat_map (accepted_by name) cs
  pub put : AreOf address (flat_map (given_by name) cs) end.put
  pub stays : StaysAt name address cs series
  pub life : HasOneLife false end
  pub heard : IsHeard end
  pub sent : IsSent end
  pub slot : TellsSlot name.slot end
  pub confirmed : first.state ≡ state.Answering → IsToldConfirmed first (flat_map event_in deeds) end

-- or nobody was called so: nothing was told of it, submitted to it or put out by it
pub record IsNobody (name : PeerRef) (cs : List Call) : Type 0 where
  pub told : flat_map (told_by name) cs ≡ []
  pub accepted : flat_map (accepted_by name) cs ≡ []
  pub given : flat_map (given_by name) cs ≡ []

-- whatever is called on this host, so it is of each name that nobody has there
abbrev pub EachIsOneEnd : Host → Type 0
EachIsOneEnd h = (cs : List Call) (new : Host) (steps : Steps cs h new) (name : PeerRef) → named h.slots name ≡ None → IsNobody name cs ⊎ IsEnd name cs (record { before = h; after = new; steps = steps })
