-- What a call leaves of a slot.
use Rattle.std.proofs.Common.{◌≡◌, ℕ, ◌+◌, min, true, false, Option, Some, None, List, refl, sym, ap, subst, ◌∙◌}
use Rattle.enet_codec.specs.declared.event.Event.{Event}
use Rattle.enet_codec.specs.declared.event.Received.{Received}
use Rattle.enet_peer.specs.declared.parts.PeerState.{PeerState}
use Rattle.enet_peer.specs.declared.parts.PeerState.TheVariants as state
use Rattle.enet_peer.specs.declared.parts.PeerEvent.{PeerEvent}
use Rattle.enet_peer.specs.Peering.{Peering}
use Rattle.enet_peer.specs.Calls.{PutsOut, next_event}
use Rattle.enet_peer.specs.Handling.{Arrival, Hears}
use Rattle.enet_peer.specs.Handling as handling
use Rattle.enet_slot.specs.Slot.{SlotState, greatest, with_peer, with_peer_in, name_of}
use Rattle.enet_slot.specs.Receiving.{IsHeardAlike, PeerReceives}
use Rattle.enet_slot.specs.Emitting.{with_emitted, PeerEmits, passes_by, Passes}
use Rattle.enet_slot.specs.Calls.{event_of, GivesEvent}

over-in : (st : PeerState) (s : SlotState) (q : Option Peering) (p : Peering) → with_peer_in st (record s { peer = q }) p ≡ with_peer_in st s p
over-in state.Free s q p = refl
over-in state.Connecting s q p = refl
over-in state.Answering s q p = refl
over-in state.Connected s q p = refl
over-in state.DisconnectLater s q p = refl
over-in state.Disconnecting s q p = refl
over-in state.AckDisconnect s q p = refl
over-in state.Ended s q p = refl
over-in state.Parting s q p = refl

-- what a slot held before plays no part
with-peer-over : (s : SlotState) (q : Option Peering) (p : Peering) → with_peer (record s { peer = q }) p ≡ with_peer s p
with-peer-over s q p = over-in p.state s q p

-- `v` is what was seen of the slot before
pub hears-of : (a : Arrival) (commands : List ℕ) (v s t : SlotState) (p q : Peering) (answer : Received) → v ≡ s → v.peer ≡ Some p
    → Hears a commands p answer q → t ≡ with_peer (record v { peer = Some q }) q → PeerReceives a commands s answer t
hears-of a commands v s t p q answer same held heard left =
    subst (λ (u : SlotState). PeerReceives a commands u answer t) same
    (record { peer = p; after = q; held = held; heard = heard; left = left ∙ with-peer-over v (Some q) q })

-- what comes alike to the peer of a slot comes alike to the slot
peer-alike : (commands : List ℕ) (p q : Peering) → p ≡ q → handling.IsHeardAlike commands p → (now : ℕ) (sent : Option ℕ) (answer : Received) (after : Peering)
    → Hears (record { now = now; sent = sent; full = false }) commands q answer after → Hears (record { now = now; sent = sent; full = true }) commands q answer after
peer-alike commands p q same alike = subst (handling.IsHeardAlike commands) same alike

pub alike-of : (commands : List ℕ) (v s : SlotState) (p : Peering) → v ≡ s → v.peer ≡ Some p → handling.IsHeardAlike commands p → IsHeardAlike commands s
alike-of commands v s p same held alike = subst (IsHeardAlike commands) same (λ now sent answer t h.
    record {
      peer = h.peer;
      after = h.after;
      held = h.held;
      heard = peer-alike commands p h.peer (let both : Some p ≡ Some h.peer = sym held ∙ h.held in cc) alike now sent answer h.after h.heard;
      left = h.left;
    })

-- nothing comes to a free one
pub free-alike : (commands : List ℕ) (v s : SlotState) → v ≡ s → v.peer ≡ None → IsHeardAlike commands s
free-alike commands v s same free = subst (IsHeardAlike commands) same (λ now sent answer t h. absurd (let both : None ≡ Some h.peer = sym free ∙ h.held in cc))

pub passes-of : (now : ℕ) (buf : List ℕ) (v s t : SlotState) (p q : Peering) → v ≡ s → v.peer ≡ Some p → PutsOut now None p q buf
    → t ≡ with_peer (record v { peer = Some q }) q → Passes now s t
passes-of now buf v s t p q same held puts left =
    subst (λ (u : SlotState). Passes now u t) same
    (subst (λ (o : Option Peering). passes_by now v t o) (sym held)
    (record { after = q; buf = buf; puts = puts; left = left ∙ with-peer-over v (Some q) q }))

pub gives-of : (now len emitted : ℕ) (buf : List ℕ) (v s t : SlotState) (p q : Peering) → v ≡ s → v.peer ≡ Some p → PutsOut now (Some len) p q buf
    → emitted ≡ min (v.emitted + len) greatest → t ≡ with_peer (record v { emitted = emitted; peer = Some q }) q → PeerEmits now len buf s t
gives-of now len emitted buf v s t p q same held puts counted left =
    subst (λ (u : SlotState). PeerEmits now len buf u t) same
    (record {
      peer = p;
      after = q;
      held = held;
      puts = puts;
      left = left ∙ ap (λ (n : ℕ). with_peer (record v { emitted = n; peer = Some q }) q) counted ∙ with-peer-over (with_emitted v len) (Some q) q;
    })

pub gives-event-of : (i : ℕ) (event : Event) (told : PeerEvent) (v s t : SlotState) (p q : Peering) → v ≡ s → v.peer ≡ Some p
    → next_event p ≡ Some (record { event = told; after = q }) → event ≡ event_of (name_of i v) told
    → t ≡ with_peer (record v { peer = Some q }) q → GivesEvent i event s t
gives-event-of i event told v s t p q same held next is left =
    subst (λ (u : SlotState). GivesEvent i event u t) same
    (record { peer = p; held = held; taken = record { event = told; after = q }; next = next; told = is; left = left ∙ with-peer-over v (Some q) q })
