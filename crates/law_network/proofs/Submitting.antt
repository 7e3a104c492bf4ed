-- A packet that is submitted, and an event that is taken.
use Rattle.std.proofs.Common.{◌≡◌, ◌≢◌, ◌≤◌, ◌<◌, ℕ, ◌⊎◌, inl, inr, Bool, true, false, cond, ◌==◌, nat_lt, List, [], ◌∷◌, ◌++◌, length, refl, sym, ap, subst, ◌∙◌, arith, append-nil, Option, Some, None, Ok, slice_get}
use Rattle.std.proofs.lemmas.Bool.Decides.{nat_tests}
use Rattle.std.proofs.lemmas.List.{map-append}
use Rattle.enet_codec.specs.declared.event.Event.{Event as Told}
use Rattle.enet_codec.specs.declared.event.PeerRef.{PeerRef}
use Rattle.enet_codec.specs.declared.packet.Packet.{Packet}
use Rattle.enet_sender.specs.CommandChoice as command_choice
use Rattle.enet_peer.specs.declared.parts.PeerEvent.{PeerEvent}
use Rattle.enet_peer.specs.declared.parts.PeerEvent.TheVariants as told
use Rattle.enet_peer.specs.Peering.{Peering}
use Rattle.enet_peer.specs.Calls.{next_event, submission_refusal}
use Rattle.law_connection.specs.Connection.{End, packets_of}
use Rattle.law_connection.specs.Law.{mtu_in}
use Rattle.law_connection.specs.Steps.{with_submission}
use Rattle.law_connection.specs.Steps as event
use Rattle.law_connection.proofs.Moves.{packets-push}
use Rattle.enet_slot.specs.Slot.{SlotState, name_of, greatest}
use Rattle.enet_host.specs.Host.{named}
use Rattle.enet_slot.specs.Calls.{submission, unless_full, event_of}
use Rattle.enet_host.specs.Calls.{TakesOne}
use Rattle.law_network.specs.Calls.{Call, Acts}
use Rattle.law_network.specs.Calls as call
use Rattle.law_network.specs.Common.{Common, common_of}
use Rattle.law_network.specs.Deeds.{Deed, AllAlone, Submit, Take}
use Rattle.law_network.specs.Falling.{deeds_if, is_meant, taken_from}
use Rattle.law_network.proofs.Accepting.{accepted}
use Rattle.law_network.proofs.Lists.{same-or}
use Rattle.law_network.proofs.Names.{IsThere, there-named}
use Rattle.law_network.proofs.IsolationServing.{taken-event}
use Rattle.law_network.proofs.Single.{Does, does-named, meant-elsewhere}
use Rattle.law_network.specs.Log.{ChannelPackets, packets_at, with_submitted_packet, with_taken}
use Rattle.law_network.specs.Network.{HostEnd, Site, is_same_name}
use Rattle.law_network.specs.Shown.{ShowsPeer, Shows, RunsAt, Went, on_channel}
use Rattle.law_network.specs.Steps.{with_packet, packets_by, with_event}
use Rattle.law_network.proofs.Keeping.{part-stays, part-grows, with-long}
use Rattle.law_network.proofs.Peers.{Moved, is_gone, goes, moved}
use Rattle.law_network.proofs.Quiet.{KeepsLog, goes-still}
use Rattle.law_network.proofs.Steady.{mtu-stays, mtu-submitted}

-- names

pub same-name : (a b : PeerRef) → a.slot ≡ b.slot → a.generation ≡ b.generation → is_same_name a b ≡ true
same-name a b s g = grind (arith, nat_tests)

name-slot : (a b : PeerRef) → is_same_name a b ≡ true → a.slot ≡ b.slot
name-slot a b h = grind (arith, nat_tests)

name-generation : (a b : PeerRef) → is_same_name a b ≡ true → a.generation ≡ b.generation
name-generation a b h = grind (arith, nat_tests)

pub other-slot : (a b : PeerRef) → a.slot ≢ b.slot → is_same_name a b ≡ false
other-slot a b n = grind (arith, nat_tests)

-- an end that isn't there has never name that is
pub not-there : (slots : List SlotState) (a b : PeerRef) (s : SlotState) (p : Peering) → slice_get slots b.slot ≡ Some s → s.generation ≡ b.generation → s.peer ≡ Some p → ((q : Peering) → IsThere slots a q → ⊥)
    → is_same_name a b ≡ false
not-there slots a b s p there same has never = by (is_same_name a b) refl
  where
    by : (t : Bool) → is_same_name a b ≡ t → is_same_name a b ≡ false
    by false e = e
    by true e = absurd (never p (record {
      slot = s;
      there = ap (λ (i : ℕ). slice_get slots i) (name-slot a b e) ∙ there;
      same = same ∙ sym (name-generation a b e);
      peer = has;
    }))

pub same-some : {X : Type 0} (x y : X) → ◌≡◌ {A = Option X} (Some x) (Some y) → x ≡ y
same-some x y e = cc

pub same-slot : (xs : List SlotState) (i j : ℕ) (s t : SlotState) → i ≡ j → slice_get xs i ≡ Some s → slice_get xs j ≡ Some t → s ≡ t
same-slot xs i j s t e a b = same-some s t (sym a ∙ ap (λ (k : ℕ). slice_get xs k) e ∙ b)

-- a name that a slot has
meant : (name other : PeerRef) (s : SlotState) → name.slot ≡ other.slot → name.generation ≡ other.generation → s.generation ≡ other.generation → is_meant name other.slot s ≡ true
meant name other s same g is = grind (arith, nat_tests)

-- an end that is as it was, or changed
pub stays-as : (own far : End) (s : Site) (b : Bool) (f e : HostEnd) → b ≡ false → Went own far s e → Went own far s (cond b f e)
stays-as own far s b f e never w = subst (λ (t : Bool). Went own far s (cond t f e)) (sym never) w

pub changes-as : (own far : End) (s : Site) (b : Bool) (f e : HostEnd) → b ≡ true → Went own far s f → Went own far s (cond b f e)
changes-as own far s b f e sure w = subst (λ (t : Bool). Went own far s (cond t f e)) (sym sure) w

-- a packet is submitted

pub goes-submitted : (name : PeerRef) (channel mtu : ℕ) (q : command_choice.Packet) (done : Unit {0}) (old new : Site) (e : HostEnd) (own far : End) → old.host.config.generations ≤ greatest
    → Acts (call.Submit name channel q (Ok done)) old.host new.host → KeepsLog old new e.connection → Shows old e own → mtu ≡ mtu_in (named old.host.slots name)
    → Went own far new (cond (is_same_name e.name name) (with_packet mtu (record { channel = channel; flags = q.flags; body = q.body }) e) e)
goes-submitted name channel mtu q done old new e own far low acts same k goes-by = by (moved c old.host new.host e.name k.peer low acts k.shows)
  where
    c : Call
    c = call.Submit name channel q (Ok done)

    packet : Packet
    packet = record { channel = channel; flags = q.flags; body = q.body }

    f : HostEnd
    f = with_packet mtu packet e

    does : Does old.host.slots name (unless_full old.host.send_limit (submission channel q)) new.host.slots
    does = does-named old.host.slots name (unless_full old.host.send_limit (submission channel q)) new.host.slots acts.0

    d : Deed
    d = Submit packet old.host.send_limit (Ok done)

    by : Moved c old.host new.host e.name k.peer → Went own far new (cond (is_same_name e.name name) f e)
    by (is_gone shows never) = stays-as own far new (is_same_name e.name name) f e (not-there old.host.slots e.name name does.slot does.peer does.there does.same does.held never) (goes-still old new e own far k same shows)
    by (goes x ds r fell alone shows) = at (same-or name.slot e.name.slot)
      where
        at : (name.slot ≡ e.name.slot) ⊎ (name.slot ≢ e.name.slot) → Went own far new (cond (is_same_name e.name name) f e)
        at (inr n) =
            let none : ds ≡ [] = fell ∙ ap (λ (b : Bool). deeds_if b d) (meant-elsewhere name e.name.slot x.slot n) in
            let is : k.peer ≡ r = subst (λ (l : List Deed). AllAlone l k.peer r) none alone in
            stays-as own far new (is_same_name e.name name) f e (other-slot e.name name (λ z. n (sym z)))
            (goes-still old new e own far k same (subst (λ (y : Peering). ShowsPeer new.host e.name y) (sym is) shows))
        at (inl here) =
            let slot : does.slot ≡ x.slot = same-slot old.host.slots name.slot e.name.slot does.slot x.slot here does.there x.there in
            let g : e.name.generation ≡ name.generation = sym x.same ∙ ap (λ (s : SlotState). s.generation) (sym slot) ∙ does.same in
            let one : ds ≡ d ∷ [] = fell ∙ ap (λ (b : Bool). deeds_if b d) (meant name e.name x.slot here (sym g) x.same) in
            let a : AllAlone (d ∷ []) k.peer r = subst (λ (l : List Deed). AllAlone l k.peer r) one alone in
            let free : submission_refusal k.peer channel (length q.body) ≡ None = accepted old.host.send_limit k.peer channel q a.1.0 in
            let called : name ≡ e.name = (λ i. record { slot = here i; generation = sym g i }) in
            let held : named old.host.slots name ≡ Some k.peer = ap (λ (y : PeerRef). named old.host.slots y) called ∙ there-named old.host.slots e.name k.peer x in
            changes-as own far new (is_same_name e.name name) f e (same-name e.name name (sym here) g) (record {
              new = with_submission own k.peer packet;
              events = event.Submit packet ∷ [];
              runs = (with_submission own k.peer packet, (k.peer, k.has, free, refl), refl);
              shows = record {
                peer = r;
                has = ap (λ (y : Peering). Some y) (sym a.1.1 ∙ a.2);
                shows = shows;
                long = with-long e.channels channel (with_submitted_packet packet) k.long;
                numbers = k.numbers;
                log = λ n d h of. k.log n d (same n d h of) of;
                greatest = k.greatest;
                mtu = mtu-submitted mtu k.peer r channel q (own.submitted ++ packet ∷ []) free (sym (goes-by ∙ ap mtu_in held)) (sym a.1.1 ∙ a.2);
                submitted = λ j few. part-grows (λ (y : ChannelPackets). y.submitted) (with_submitted_packet packet) packet (λ y. refl) e.channels j own.submitted k.long few (k.submitted j few);
                taken = λ j few. part-stays (λ (y : ChannelPackets). y.taken) (with_submitted_packet packet) (λ y. refl) e.channels channel j k.long few ∙ k.taken j few;
                events = k.events;
              };
            })

-- an event is taken

event-long : (t : PeerEvent) (name : PeerRef) (xs : List ChannelPackets) → length xs ≡ 256 → length (packets_by (event_of name t) xs) ≡ 256
event-long (told.Connect info) name xs long = long
event-long (told.Receive q) name xs long = with-long xs q.channel (with_taken q) long
event-long (told.Disconnect info) name xs long = long

event-part : {A : Type 0} (part : ChannelPackets → A) → ((q : Packet) (x : ChannelPackets) → part (with_taken q x) ≡ part x) → (t : PeerEvent) (name : PeerRef) (xs : List ChannelPackets) (j : ℕ) → length xs ≡ 256 → j < 256
    → part (packets_at (packets_by (event_of name t) xs) j) ≡ part (packets_at xs j)
event-part part same (told.Connect info) name xs j long low = refl
event-part part same (told.Receive q) name xs j long low = part-stays part (with_taken q) (same q) xs q.channel j long low
event-part part same (told.Disconnect info) name xs j long low = refl

event-taken : (t : PeerEvent) (name : PeerRef) (xs : List ChannelPackets) (j : ℕ) (es : List PeerEvent) → length xs ≡ 256 → j < 256 → (packets_at xs j).taken ≡ on_channel j (packets_of es)
    → (packets_at (packets_by (event_of name t) xs) j).taken ≡ on_channel j (packets_of (es ++ t ∷ []))
event-taken (told.Connect info) name xs j es long low before = before ∙ ap (on_channel j) (sym (packets-push es (told.Connect info) ∙ append-nil (packets_of es)))
event-taken (told.Receive q) name xs j es long low before =
    part-grows (λ (x : ChannelPackets). x.taken) (with_taken q) q (λ x. refl) xs j (packets_of es) long low before ∙ ap (on_channel j) (sym (packets-push es (told.Receive q)))
event-taken (told.Disconnect info) name xs j es long low before = before ∙ ap (on_channel j) (sym (packets-push es (told.Disconnect info) ∙ append-nil (packets_of es)))

-- slots that were asked in vain
stays-if : (b : Bool) (ds : List Deed) (p r : Peering) → ds ≡ deeds_if b (Take None) → AllAlone ds p r → p ≡ r
stays-if true ds p r is alone = let a : AllAlone (Take None ∷ []) p r = subst (λ (l : List Deed). AllAlone l p r) is alone in sym a.1.1 ∙ a.2
stays-if false ds p r is alone = subst (λ (l : List Deed). AllAlone l p r) is alone

-- the slot `from`, which held a peer, gave it
-- whatever is to be shown of an end afterwards: its peer is as it was, or its user takes
pub taken-by : (M : HostEnd → Type 0) (told' : Told) (old new : Site) (e : HostEnd) (own far : End) → old.host.config.generations ≤ greatest → (acts : TakesOne old.host told' new.host) → KeepsLog old new e.connection → (k : Shows old e own)
    → (ShowsPeer new.host e.name k.peer → M e) → ((end : End) → event.Happens own far event.Take end → Shows new (with_event told' e) end → M (with_event told' e))
    → M (cond (is_same_name e.name (name_of acts.from acts.first.slot)) (with_event told' e) e)
taken-by M told' old new e own far low acts same k still takes = by (moved c old.host new.host e.name k.peer low acts k.shows)
  where
    c : Call
    c = call.NextEvent (Some told')

    name : PeerRef
    name = name_of acts.from acts.first.slot

    t : PeerEvent
    t = acts.gives.taken.event

    f : HostEnd
    f = with_event told' e

    is : told' ≡ event_of name t
    is = acts.gives.told

    h : Common
    h = common_of old.host

    before : Bool
    before = nat_lt (h.event_turn e.name.slot) (h.event_turn acts.from)

    fallen : (b : Bool) → (acts.from == e.name.slot) ≡ b → taken_from h e.name.slot (Some told') ≡ cond b (Take (Some t) ∷ []) (deeds_if before (Take None))
    fallen b z = ap (λ (x : Told). taken_from h e.name.slot (Some x)) is ∙ taken-event h e.name.slot name t ∙ ap (λ (y : Bool). cond y (Take (Some t) ∷ []) (deeds_if before (Take None))) z

    taken-end : Peering → End
    taken-end p = record own { peer = Some p; events = own.events ++ t ∷ [] }

    stays : is_same_name e.name name ≡ false → M e → M (cond (is_same_name e.name name) f e)
    stays never m = subst (λ (b : Bool). M (cond b f e)) (sym never) m

    changes : is_same_name e.name name ≡ true → M f → M (cond (is_same_name e.name name) f e)
    changes sure m = subst (λ (b : Bool). M (cond b f e)) (sym sure) m

    runs : (p : Peering) → next_event k.peer ≡ Some (record { event = t; after = p }) → RunsAt (event.Take ∷ []) own far (taken-end p)
    runs p next = (taken-end p, (k.peer, p, t, k.has, next, refl), refl)

    by : Moved c old.host new.host e.name k.peer → M (cond (is_same_name e.name name) f e)
    by (is_gone shows never) = stays (not-there old.host.slots e.name name acts.first.slot acts.gives.peer acts.first.there refl acts.gives.held never) (still shows)
    by (goes x ds r fell alone shows) = at (same-or acts.from e.name.slot)
      where
        at : (acts.from ≡ e.name.slot) ⊎ (acts.from ≢ e.name.slot) → M (cond (is_same_name e.name name) f e)
        at (inr n) =
            let remains : k.peer ≡ r = stays-if before ds k.peer r (fell ∙ fallen false (grind (arith, nat_tests))) alone in
            stays (other-slot e.name name (λ z. n (sym z))) (still (subst (λ (y : Peering). ShowsPeer new.host e.name y) (sym remains) shows))
        at (inl here) =
            let one : ds ≡ Take (Some t) ∷ [] = fell ∙ fallen true (grind (arith, nat_tests)) in
            let a : AllAlone (Take (Some t) ∷ []) k.peer r = subst (λ (l : List Deed). AllAlone l k.peer r) one alone in
            let slot : acts.first.slot ≡ x.slot = same-slot old.host.slots acts.from e.name.slot acts.first.slot x.slot here acts.first.there x.there in
            let g : e.name.generation ≡ name.generation = sym x.same ∙ ap (λ (s : SlotState). s.generation) (sym slot) in
            let called : name ≡ e.name = (λ i. record { slot = here i; generation = sym g i }) in
            let event' : told' ≡ event_of e.name t = is ∙ ap (λ (y : PeerRef). event_of y t) called in
            let shown : Shows new (with_event (event_of e.name t) e) (taken-end a.0) = record {
              peer = r;
              has = ap (λ (y : Peering). Some y) a.2;
              shows = shows;
              long = event-long t e.name e.channels k.long;
              numbers = k.numbers;
              log = λ n d h of. k.log n d (same n d h of) of;
              greatest = k.greatest;
              mtu = mtu-stays e.mtu (event.Take ∷ []) own far (taken-end a.0) k.peer r k.has (runs a.0 a.1) (ap (λ (y : Peering). Some y) a.2) refl k.mtu;
              submitted = λ j few. event-part (λ (y : ChannelPackets). y.submitted) (λ q y. refl) t e.name e.channels j k.long few ∙ k.submitted j few;
              taken = λ j few. event-taken t e.name e.channels j own.events k.long few (k.taken j few);
              events = ap (λ (l : List Told). l ++ event_of e.name t ∷ []) k.events ∙ sym (map-append (event_of e.name) own.events (t ∷ []));
            } in
            changes (same-name e.name name (sym here) g)
            (takes (taken-end a.0) (k.peer, a.0, t, k.has, a.1, refl) (subst (λ (y : Told). Shows new (with_event y e) (taken-end a.0)) (sym event') shown))

pub goes-taken : (told' : Told) (old new : Site) (e : HostEnd) (own far : End) → old.host.config.generations ≤ greatest → (acts : TakesOne old.host told' new.host) → KeepsLog old new e.connection → Shows old e own
    → Went own far new (cond (is_same_name e.name (name_of acts.from acts.first.slot)) (with_event told' e) e)
goes-taken told' old new e own far low acts same k =
    taken-by (Went own far new) told' old new e own far low acts same k (λ shows. goes-still old new e own far k same shows)
    (λ end takes shows. record { new = end; events = event.Take ∷ []; runs = (end, takes, refl); shows = shows })
