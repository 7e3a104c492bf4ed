-- What a host tells of what is to come.
use Rattle.std.proofs.Common.{◌≡◌, ℕ, Bool, true, false, cond, nat_lt, Option, Some, None, List, [], ◌∷◌, length, slice_get, arith, refl, sym, ap, subst, ◌∙◌}
use Rattle.std.proofs.lemmas.Bool.Decides.{nat_tests}
use Rattle.std.proofs.lemmas.Option.{slice_get_within}
use Rattle.std.specs.Option.{option_map, option_and_then}
use Rattle.enet_codec.specs.declared.event.Event.{Event}
use Rattle.enet_codec.specs.declared.event.PeerRef.{PeerRef}
use Rattle.enet_codec.specs.declared.config.Config.{Config}
use Rattle.enet_codec.specs.declared.packet.Packet.{Packet}
use Rattle.enet_codec.specs.declared.refusal.Refusal.{Refusal}
use Rattle.enet_peer.specs.declared.parts.PeerEvent.{PeerEvent}
use Rattle.enet_peer.specs.declared.parts.PeerEvent.TheVariants as told
use Rattle.enet_peer.specs.declared.parts.PeerState.{PeerState}
use Rattle.enet_peer.specs.declared.parts.PeerState.TheVariants as state
use Rattle.enet_sender.specs.CommandChoice as command_choice
use Rattle.enet_peer.specs.Peering.{Peering}
use Rattle.enet_peer.specs.Calls as peers
use Rattle.enet_peer.specs.Next.{packet_after}
use Rattle.enet_slot.specs.Slot.{SlotState, name_of}
use Rattle.enet_host.specs.Host.{Host, peer_in, slot_named}
use Rattle.enet_host.specs.Turns.{turn_of, IsFirst, HoldsNowhere}
use Rattle.enet_outbox.specs.declared.parts.SendLimit.{SendLimit}
use Rattle.enet_outbox.specs.Outstanding.{is_full}
use Rattle.enet_slot.specs.Calls.{tells, event_of, GivesEvent, peer_packet, or_else_full, or_full, refused_in, submission, submitted_unless, unless_full, kept, on_peer_in}
use Rattle.enet_host.specs.Calls.{on_slot, on_named, put_back}
use Rattle.enet_host.specs.Opening.{available}
use Rattle.enet_host.specs.Foretelling.{next_name, submission_refusal, refusal_of, teller_of, packet_of, Foretells, IsTeller}
use Rattle.enet_host.specs.Private.Shown.{SlotIsNamed, SlotShows}
use Rattle.enet_sleepers.proofs.Keeping.{some-same}
use Rattle.enet_host.proofs.Turning.{turns-apart}

-- there is one first slot in turn
same-first : (holds : SlotState → Bool) (slots : List SlotState) (from i j : ℕ) (a : IsFirst holds slots from i) (b : IsFirst holds slots from j) → i ≡ j
same-first holds slots from i j a b = by (nat_lt (turn i) (turn j)) (nat_lt (turn j) (turn i)) refl refl
  where
    turn : ℕ → ℕ
    turn k = turn_of (length slots) from k

    by : (x y : Bool) → nat_lt (turn i) (turn j) ≡ x → nat_lt (turn j) (turn i) ≡ y → i ≡ j
    by true y e f = let x = sym a.here ∙ b.before i a.slot a.there (grind (arith, nat_tests)) in absurd (cc)
    by false true e f = let x = sym b.here ∙ a.before j b.slot b.there (grind (arith, nat_tests)) in absurd (cc)
    by false false e f =
        turns-apart (length slots) from i j (slice_get_within slots i a.slot a.there) (slice_get_within slots j b.slot b.there) (grind (arith, nat_tests))

same-slot : (holds : SlotState → Bool) (slots : List SlotState) (from i j : ℕ) (a : IsFirst holds slots from i) (b : IsFirst holds slots from j) → a.slot ≡ b.slot
same-slot holds slots from i j a b =
    some-same (slice_get slots i) a.slot b.slot a.there (subst (λ (k : ℕ). slice_get slots k ≡ Some b.slot) (sym (same-first holds slots from i j a b)) b.there)

-- where no slot has an event, nothing is foretold
pub foretells-nothing : {X : Type 0} (of : Event → Option X) (v old : Host) → v ≡ old → HoldsNowhere tells v.slots → Foretells of old None
foretells-nothing {X} of v old same none = subst (λ (h : Host). Foretells of h None) same by
  where
    by : Foretells of v None
    by None after takes = refl
    by (Some event) after takes = let x = sym takes.first.here ∙ none takes.from takes.first.slot takes.first.there in absurd (cc)

-- the packet of an event
by-state : (name : PeerRef) (st : PeerState) (p : Peering) (x : peers.Taken) → peers.last_event st p ≡ Some x → ◌≡◌ {A = Option Packet} None (packet_of (event_of name x.event))
by-state name state.Ended p x e = let same : told.Disconnect p.info ≡ x.event = cc in ap (λ (y : PeerEvent). packet_of (event_of name y)) same
by-state name st p x e = absurd (cc)

by-packets : (name : PeerRef) (p : Peering) (packets : List Packet) (x : peers.Taken) → peers.packet_event p packets ≡ Some x
    → slice_get packets 0 ≡ packet_of (event_of name x.event)
by-packets name p [] x e = by-state name p.state p x e
by-packets name p (q ∷ rest) x e = let same : told.Receive q ≡ x.event = cc in ap (λ (y : PeerEvent). packet_of (event_of name y)) same

by-greeting : (name : PeerRef) (p : Peering) (greeting : Option ℕ) (x : peers.Taken) → peers.event_after p greeting ≡ Some x
    → packet_after greeting p.inbox.untaken ≡ packet_of (event_of name x.event)
by-greeting name p None x e = by-packets name p p.inbox.untaken x e
by-greeting name p (Some info) x e = let same : told.Connect info ≡ x.event = cc in ap (λ (y : PeerEvent). packet_of (event_of name y)) same

gives-packet : (i : ℕ) (event : Event) (s t : SlotState) → GivesEvent i event s t → peer_packet s.peer ≡ packet_of event
gives-packet i event s t g = ap peer_packet g.held ∙ by-greeting (name_of i s) g.peer g.peer.greeting g.taken g.next ∙ ap packet_of (sym g.told)

pub foretells-packet : (v old : Host) (i : ℕ) (packet : Option Packet) → v ≡ old → IsFirst tells v.slots v.event_from i → SlotShows v.slots i packet → Foretells packet_of old packet
foretells-packet v old i packet same first shows = subst (λ (h : Host). Foretells packet_of h packet) same by
  where
    by : Foretells packet_of v packet
    by None after takes = let x = sym first.here ∙ takes.0 i first.slot first.there in absurd (cc)
    by (Some event) after takes =
        let one : shows.slot ≡ first.slot = some-same (slice_get v.slots i) shows.slot first.slot shows.there first.there in
        let two : first.slot ≡ takes.first.slot = same-slot tells v.slots v.event_from i takes.from first takes.first in
        shows.shows ∙ ap (λ (s : SlotState). peer_packet s.peer) (one ∙ two) ∙ gives-packet takes.from event takes.first.slot takes.after takes.gives

-- whose event it is
event-teller : (name : PeerRef) (event : PeerEvent) → teller_of (event_of name event) ≡ Some name
event-teller name (told.Connect info) = refl
event-teller name (told.Receive q) = refl
event-teller name (told.Disconnect info) = refl

pub is-teller : (v old : Host) (i : ℕ) (name : PeerRef) → v ≡ old → IsFirst tells v.slots v.event_from i → SlotIsNamed v.slots i name → IsTeller old name
is-teller v old i name same first is =
    let slot_is : name.slot ≡ i = ap (λ (n : PeerRef). n.slot) is.named in
    let one : is.slot ≡ first.slot = some-same (slice_get v.slots i) is.slot first.slot is.there first.there in
    subst (λ (h : Host). IsTeller h name) same
    (subst (λ (n : PeerRef). IsTeller v n) (sym (is.named ∙ ap (λ (s : SlotState). name_of i s) one)) (record { first = first; named = refl }))

pub foretells-teller : (v old : Host) (i : ℕ) (name : PeerRef) → v ≡ old → IsFirst tells v.slots v.event_from i → SlotIsNamed v.slots i name → Foretells teller_of old (Some name)
foretells-teller v old i name same first is = subst (λ (h : Host). Foretells teller_of h (Some name)) same by
  where
    by : Foretells teller_of v (Some name)
    by None after takes = let x = sym first.here ∙ takes.0 i first.slot first.there in absurd (cc)
    by (Some event) after takes =
        let one : is.slot ≡ first.slot = some-same (slice_get v.slots i) is.slot first.slot is.there first.there in
        let two : first.slot ≡ takes.first.slot = same-slot tells v.slots v.event_from i takes.from first takes.first in
        let here : i ≡ takes.from = same-first tells v.slots v.event_from i takes.from first takes.first in
        let named : name ≡ name_of takes.from takes.first.slot =
        is.named ∙ ap (λ (s : SlotState). name_of i s) (one ∙ two) ∙ ap (λ (j : ℕ). name_of j takes.first.slot) here in
        sym (ap teller_of takes.gives.told ∙ event-teller (name_of takes.from takes.first.slot) takes.gives.taken.event ∙ ap (λ (n : PeerRef). Some n) (sym named))

-- the name of the next peer
pub next-named : (c : Config) (slots : List SlotState) (i : ℕ) (name : PeerRef) → available c slots ≡ Some i → SlotIsNamed slots i name → Some name ≡ next_name c slots
next-named c slots i name found is =
    ap (λ (n : PeerRef). Some n) is.named ∙ ap (λ (o : Option SlotState). option_map (name_of i) o) (sym is.there)
    ∙ ap (λ (o : Option ℕ). option_and_then (λ j. option_map (name_of j) (slice_get slots j)) o) (sym found)

-- the refusal of a submission
agrees-in : (slots : List SlotState) (i channel : ℕ) (s : SlotState) (p : Peering) (q : command_choice.Packet) (full : Bool) (o : Option Refusal)
    → or_else_full full o ≡ refusal_of (put_back slots i (kept s (cond full (or_full (submitted_unless p channel q o)) (submitted_unless p channel q o))))
agrees-in slots i channel s p q true None = refl
agrees-in slots i channel s p q false None = refl
agrees-in slots i channel s p q true (Some why) = refl
agrees-in slots i channel s p q false (Some why) = refl

agrees-peer : (limit : Option SendLimit) (slots : List SlotState) (i channel : ℕ) (s : SlotState) (q : command_choice.Packet) (o : Option Peering)
    → refused_in limit channel (length q.body) o ≡ refusal_of (put_back slots i (on_peer_in s (unless_full limit (submission channel q)) o))
agrees-peer limit slots i channel s q None = refl
agrees-peer limit slots i channel s q (Some p) = agrees-in slots i channel s p q (is_full limit p.outbox) (peers.submission_refusal p channel (length q.body))

agrees-slot : (limit : Option SendLimit) (slots : List SlotState) (i channel : ℕ) (q : command_choice.Packet) (o : Option SlotState)
    → refused_in limit channel (length q.body) (peer_in o) ≡ refusal_of (on_slot slots i (unless_full limit (submission channel q)) o)
agrees-slot limit slots i channel q None = refl
agrees-slot limit slots i channel q (Some s) = agrees-peer limit slots i channel s q s.peer

pub agrees-named : (limit : Option SendLimit) (slots : List SlotState) (name : PeerRef) (channel len : ℕ) (q : command_choice.Packet) → length q.body ≡ len
    → submission_refusal limit slots name channel len ≡ refusal_of (on_named slots name (unless_full limit (submission channel q)))
agrees-named limit slots name channel len q e =
    ap (λ (n : ℕ). submission_refusal limit slots name channel n) (sym e) ∙ agrees-slot limit slots name.slot channel q (slot_named slots name)
