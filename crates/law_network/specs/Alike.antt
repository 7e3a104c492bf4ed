-- That connections share nothing else: how a slot fares is fixed by the slot, the call and what connections share.
use Rattle.std.specs.Prelude.{◌≡◌, ◌≢◌, ◌≤◌, ℕ, ◌==◌, Bool, nat_lt, true, false, List, length, Option, Some, None, Ok, Err, slice_get}
use Rattle.enet_codec.specs.declared.address.Addr.{Addr}
use Rattle.enet_codec.specs.declared.event.Event.TheVariants as event
use Rattle.enet_codec.specs.declared.refusal.Refusal.{Refusal}
use Rattle.enet_codec.specs.declared.refusal.Refusal.TheVariants as refusal
use Rattle.enet_codec.specs.declared.stop.Stop.TheVariants as stop
use Rattle.enet_codec.specs.declared.command.Offer.{Offer}
use Rattle.enet_codec.specs.declared.header.Header.{Header}
use Rattle.enet_peer.specs.declared.parts.PeerState.TheVariants as state
use Rattle.enet_peer.specs.Peering.{Peering}
use Rattle.enet_peer.specs.Calls.{is_answering}
use Rattle.enet_peer.specs.Heading.{IsRead, IsOffer}
use Rattle.enet_slot.specs.Slot.{SlotState, greatest}
use Rattle.enet_slot.specs.Receiving.{no_peer}
use Rattle.enet_host.specs.Host.{Host, Keeps}
use Rattle.enet_host.specs.Ticking.{clock_after}
use Rattle.law_network.specs.Calls.{Call, Connect, Receive, Service, Tick, NextEvent, Acts}
use Rattle.law_network.specs.Common.{Common, common_of}
use Rattle.law_network.specs.Deeds.{Deed, Alone}
use Rattle.law_network.specs.Deeds as deed
use Rattle.law_network.specs.IsolationLaw.{Fares}

-- what a peer is asked by a deed, whatever it answers
abbrev pub asked : Deed → Deed
asked (deed.Submit q limit answer) = deed.Submit q limit (Ok tt)
asked (deed.Emit now given) = deed.Emit now None
asked (deed.Come a m answer) = deed.Come a m (Ok tt)
asked (deed.Tick now short) = deed.Tick now short
asked (deed.Take given) = deed.Take None
asked (deed.Disconnect way info answer) = deed.Disconnect way info (Ok tt)
asked (deed.Set setting answer) = deed.Set setting (Ok tt)
asked deed.GiveWay = deed.GiveWay
asked deed.TellAgain = deed.TellAgain

-- whether memory was wanting
abbrev pub is_memory : Refusal → Bool
is_memory refusal.Memory = true
is_memory why = false

abbrev pub is_wanting : Deed → Bool
is_wanting (deed.Submit q limit (Err e)) = is_memory e.0
is_wanting (deed.Come a m (Err stop.Memory)) = true
is_wanting (deed.Set setting (Err why)) = is_memory why
is_wanting d = false

-- what a peer is asked it answers in one way, and goes on in one way, want of memory apart: a submission by the peer and the limit
abbrev pub OneAnswer : Type 0
OneAnswer = (d e : Deed) (p q r : Peering) → asked d ≡ asked e → is_wanting d ≡ false → is_wanting e ≡ false → Alone d p q → Alone e p r → (d ≡ e) × (q ≡ r)

-- the commands of a datagram are told by their count, which must not have stopped. Want of memory is told by the answer
abbrev pub IsCounted : Call → Type 0
IsCounted (Receive from bytes answer) = length bytes ≤ greatest
IsCounted c = Unit {0}

-- a slot that holds no free peer, as each slot of a host
abbrev pub IsHeld : SlotState → Type 0
IsHeld s = (p : Peering) → s.peer ≡ Some p → p.state ≢ state.Free

-- the slot that gave what a call answers
abbrev pub giving : Call → Option ℕ
giving (Service (Some gave) buf) = Some gave.0.slot
giving (NextEvent (Some (event.Connect name info))) = Some name.slot
giving (NextEvent (Some (event.Receive name packet))) = Some name.slot
giving (NextEvent (Some (event.Disconnect name info))) = Some name.slot
giving c = None

-- two hosts agree on whether slot i is asked before the one that gave,
abbrev pub AgreeInTurn : Option ℕ → ℕ → (ℕ → ℕ) → (ℕ → ℕ) → Type 0
AgreeInTurn None i g h = Unit {0}
AgreeInTurn (Some j) i g h = nat_lt (g i) (g j) ≡ nat_lt (h i) (h j)

-- on whether the bandwidth is shared out at a moment, and, where it is, on how much and among how many,
abbrev pub AgreeOnShares : ℕ → Common → Common → Type 0
AgreeOnShares now g h = (g.is_due now ≡ h.is_due now) × (g.is_due now ≡ true → (g.config.outgoing ≡ h.config.outgoing) × (g.standing now ≡ h.standing now))

-- whether slot i is this one, if any is
abbrev pub is_next : Option ℕ → ℕ → Bool
is_next None i = false
is_next (Some j) i = j == i

-- on what decides whether the next connection begins in slot i, and how: its user asks for it,
abbrev pub AgreeOnNext : ℕ → Common → Common → Type 0
AgreeOnNext i g h = (g.config ≡ h.config) × (g.clock ≡ h.clock) × (is_next g.available i ≡ is_next h.available i)

-- or an offer from an address does,
abbrev pub AgreeOnSeat : Addr → ℕ → Common → Common → Type 0
AgreeOnSeat from i g h = (g.config ≡ h.config) × (g.clock ≡ h.clock) × (is_next (g.seat from) i ≡ is_next (h.seat from) i)

-- if a datagram is one,
abbrev pub AgreeOnOffers : Addr → List ℕ → ℕ → Common → Common → Type 0
AgreeOnOffers from bytes i g h =
    (header : Header) (commands : List ℕ) (o : Offer) → IsRead bytes header commands → header.peer ≡ no_peer → IsOffer commands o
    → AgreeOnSeat from i g h × (g.knows from o.connect_id ≡ h.knows from o.connect_id)

-- on what a call with its answer looks at where slot i holds this peer: on nothing where the user asks or tells a peer something. Of a
-- datagram only one that waits for its client asks for more than the clock: whether the host is full, and who gets a slot
abbrev pub AgreeOnPeer : Call → ℕ → Peering → Common → Common → Type 0
AgreeOnPeer (Receive from bytes answer) i p g h =
    (g.clock ≡ h.clock) × (is_answering p.state ≡ true → (g.full ≡ h.full) × AgreeOnOffers from bytes i g h)
AgreeOnPeer (Service answer buf) i p g h = (g.clock ≡ h.clock) × AgreeInTurn (giving (Service answer buf)) i g.turn h.turn
AgreeOnPeer (NextEvent answer) i p g h = AgreeInTurn (giving (NextEvent answer)) i g.event_turn h.event_turn
AgreeOnPeer (Tick ms) i p g h = (g.clock ≡ h.clock) × (g.short i ≡ h.short i) × AgreeOnShares (clock_after g.clock ms) g h
AgreeOnPeer c i p g h = Unit {0}

-- on what a call with its answer looks at where slot i is free: on this where a connection may begin, and on whether the count of its
-- bytes begins anew,
abbrev pub AgreeOnFree : Call → ℕ → Common → Common → Type 0
AgreeOnFree (Connect address channels info word answer) i g h = AgreeOnNext i g h
AgreeOnFree (Receive from bytes answer) i g h = AgreeOnOffers from bytes i g h
AgreeOnFree (Tick ms) i g h = g.is_due (clock_after g.clock ms) ≡ h.is_due (clock_after h.clock ms)
AgreeOnFree c i g h = Unit {0}

-- on what a call with its answer looks at in slot i, which holds this
abbrev pub Agree : Call → ℕ → Option Peering → Common → Common → Type 0
Agree c i (Some p) g h = AgreeOnPeer c i p g h
Agree c i None g h = AgreeOnFree c i g h

-- a slot fares in one way by a call with its answer, whatever else the host holds
abbrev pub OneWay : Type 0
OneWay = (c : Call) (g h : Common) (i : ℕ) (s t u : SlotState) → IsCounted c → IsHeld s → Agree c i s.peer g h → Fares c g i s t → Fares c h i s u → t ≡ u

-- so two hosts that hold the same in a slot, and agree on what the call looks at there, leave that slot alike
abbrev pub Alike : Type 0
Alike = (c : Call) (g after h after' : Host) (i : ℕ) (s : SlotState) → IsCounted c → Keeps g → Agree c i s.peer (common_of g) (common_of h) → slice_get g.slots i ≡ Some s → slice_get h.slots i ≡ Some s
    → Acts c g after → Acts c h after' → slice_get after.slots i ≡ slice_get after'.slots i
