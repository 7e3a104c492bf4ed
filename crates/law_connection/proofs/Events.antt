-- Each event keeps all links.
use Rattle.std.proofs.Common.{◌≡◌, ℕ, zero, suc, ◌<◌, ◌≤◌, Bool, true, false, cond, ltb, leb, ◌||◌, not, List, [], ◌∷◌, ◌++◌, refl, sym, ap, subst, ◌∙◌, arith, Option, Some, None, length}
use Rattle.std.proofs.lemmas.Bool.Decides.{nat_tests}
use Rattle.std.specs.List.{slice_get}
use Rattle.enet_codec.specs.declared.packet.Packet.{Packet}
use Rattle.enet_codec.specs.declared.refusal.Refusal.TheVariants.{NotConnected, NoSuchChannel, TooLarge}
use Rattle.enet_fragment.specs.Cutting.{piece_count}
use Rattle.enet_sender.specs.CommandChoice.{fragment_limit}
use Rattle.enet_peer.specs.Peering.{Peering}
use Rattle.enet_peer.specs.declared.parts.PeerEvent.{PeerEvent}
use Rattle.enet_peer.specs.declared.parts.PeerEvent.TheVariants as told
use Rattle.enet_peer.specs.declared.parts.PeerState.{PeerState}
use Rattle.enet_peer.specs.declared.parts.PeerState.TheVariants as state
use Rattle.enet_peer.specs.Calls.{Taken, is_connected, next_event, event_after, packet_event, last_event}
use Rattle.law_connection.specs.Connection.{End}
use Rattle.law_connection.specs.Steps.{Event, Answer, Submit, Emit, Come, Tick, Take, Disconnect, Set, GiveWay, TellAgain, Happens, with_peer}
use Rattle.law_connection.specs.Linked.{sends_in, dispatches_in, IsClean}
use Rattle.law_connection.specs.Invariant.{IsTidy, is_agreed, AreLinked}
use Rattle.law_connection.proofs.Moves.{both-taken}
use Rattle.law_connection.proofs.Calls.{holds-moved, holds-left, holds-set, holds-heeded, holds-given_way, holds-told_again, both-emitted}
use Rattle.law_connection.proofs.Submits.{both-submitted}
use Rattle.law_connection.proofs.Beginnings.{both-answered}
use Rattle.law_connection.proofs.Arrivals.{holds-coming}

-- where nothing refuses a submission
pub accepted : (a b c : Bool) → cond (not a) (Some NotConnected) (cond b (Some NoSuchChannel) (cond c (Some TooLarge) None)) ≡ None → (a ≡ true) × (b ≡ false) × (c ≡ false)
accepted true false false e = (refl, refl, refl)
accepted true false true e = absurd (cc)
accepted true true c e = absurd (cc)
accepted false b c e = absurd (cc)

inside : {X : Type 0} (xs : List X) (i : ℕ) → leb (length xs) i ≡ false → (x : X) × (slice_get xs i ≡ Some x)
inside [] i e = absurd (let t : leb 0 i ≡ true = grind (arith, nat_tests) in let x : true ≡ false = sym t ∙ e in cc)
inside (x ∷ xs) zero e = (x, refl)
inside (x ∷ xs) (suc i) e = inside xs i (let low : i < length xs = (let h : leb (suc (length xs)) (suc i) ≡ false = e in grind (arith, nat_tests)) in grind (arith, nat_tests))

or-right : (a b : Bool) → (a || b) ≡ false → b ≡ false
or-right true b e = absurd (cc)
or-right false b e = e

connected-sends : (s : PeerState) → is_connected s ≡ true → sends_in s ≡ true
connected-sends state.Connected e = refl
connected-sends state.Connecting e = refl
connected-sends state.Answering e = refl
connected-sends state.DisconnectLater e = refl
connected-sends state.Free e = absurd (cc)
connected-sends state.Disconnecting e = absurd (cc)
connected-sends state.AckDisconnect e = absurd (cc)
connected-sends state.Ended e = absurd (cc)
connected-sends state.Parting e = absurd (cc)

connected-agreed : (s : PeerState) → is_connected s ≡ true → is_agreed s ≡ true
connected-agreed state.Connected e = refl
connected-agreed state.Answering e = refl
connected-agreed state.Connecting e = absurd (cc)
connected-agreed state.DisconnectLater e = absurd (cc)
connected-agreed state.Free e = absurd (cc)
connected-agreed state.Disconnecting e = absurd (cc)
connected-agreed state.AckDisconnect e = absurd (cc)
connected-agreed state.Ended e = absurd (cc)
connected-agreed state.Parting e = absurd (cc)

-- the events that can be taken

taken-some : (P : Peering → PeerEvent → Type 0) (t : Taken) (e : PeerEvent) (q : Peering) → P t.after t.event → Some t ≡ Some (record { event = e; after = q }) → P q e
taken-some P t e q h s = (let same : t ≡ (record { event = e; after = q }) = cc in subst (λ (x : Taken). P x.after x.event) same h)

taken-none : {A : Type 0} (t : Taken) → None ≡ Some t → A
taken-none t e = absurd (cc)

pub took : (P : Peering → PeerEvent → Type 0) (p q : Peering) (e : PeerEvent) → next_event p ≡ Some (record { event = e; after = q })
    → ((info : ℕ) → p.greeting ≡ Some info → P (record p { greeting = None }) (told.Connect info))
    → ((x : Packet) (rest : List Packet) → p.greeting ≡ None → p.inbox.untaken ≡ x ∷ rest → P (record p { inbox = record p.inbox { untaken = rest } }) (told.Receive x))
    → (p.greeting ≡ None → p.inbox.untaken ≡ [] → p.state ≡ state.Ended → P (record p { state = state.Free }) (told.Disconnect p.info))
    → P q e
took P p q e next greets receives ends = by-greeting p.greeting refl next
  where
    by-state : (s : PeerState) → p.state ≡ s → p.greeting ≡ None → p.inbox.untaken ≡ [] → last_event s p ≡ Some (record { event = e; after = q }) → P q e
    by-state state.Ended at g u h = taken-some P (record { event = told.Disconnect p.info; after = record p { state = state.Free } }) e q (ends g u at) h
    by-state state.Free at g u h = taken-none (record { event = e; after = q }) h
    by-state state.Connecting at g u h = taken-none (record { event = e; after = q }) h
    by-state state.Answering at g u h = taken-none (record { event = e; after = q }) h
    by-state state.Connected at g u h = taken-none (record { event = e; after = q }) h
    by-state state.DisconnectLater at g u h = taken-none (record { event = e; after = q }) h
    by-state state.Disconnecting at g u h = taken-none (record { event = e; after = q }) h
    by-state state.AckDisconnect at g u h = taken-none (record { event = e; after = q }) h
    by-state state.Parting at g u h = taken-none (record { event = e; after = q }) h

    by-packets : (qs : List Packet) → p.inbox.untaken ≡ qs → p.greeting ≡ None → packet_event p qs ≡ Some (record { event = e; after = q }) → P q e
    by-packets [] u g h = by-state p.state refl g u h
    by-packets (x ∷ rest) u g h = taken-some P (record { event = told.Receive x; after = record p { inbox = record p.inbox { untaken = rest } } }) e q (receives x rest g u) h

    by-greeting : (g : Option ℕ) → p.greeting ≡ g → event_after p g ≡ Some (record { event = e; after = q }) → P q e
    by-greeting (Some info) g h = taken-some P (record { event = told.Connect info; after = record p { greeting = None } }) e q (greets info g) h
    by-greeting None g h = by-packets p.inbox.untaken refl g h

both-took : (own other : End) (p q : Peering) (e : PeerEvent) → own.peer ≡ Some p → next_event p ≡ Some (record { event = e; after = q }) → AreLinked own other → AreLinked (record own { peer = Some q; events = own.events ++ e ∷ [] }) other
both-took own other p q e is next b =
    took (λ q e. AreLinked (record own { peer = Some q; events = own.events ++ e ∷ [] }) other) p q e next
    (λ info g. both-taken own other p (record p { greeting = None }) (told.Connect info) is refl refl refl refl refl refl b)
    (λ x rest g u. both-taken own other p (record p { inbox = record p.inbox { untaken = rest } }) (told.Receive x) is refl refl refl refl refl (sym u) b)
    (λ g u at. both-taken own other p (record p { state = state.Free }) (told.Disconnect p.info) is (sym (ap sends_in at)) (sym (ap dispatches_in at)) refl refl refl refl b)

-- an end with its peer named
named : (own other : End) (p : Peering) → own.peer ≡ Some p → AreLinked own other → AreLinked (with_peer own p) other
named own other p is b = subst (λ (o : Option Peering). AreLinked (record own { peer = o }) other) is b

-- every event
pub both-happens : (own other new : End) (e : Event) → ((p : Peering) → own.peer ≡ Some p → IsTidy own.submitted p) → IsClean other → AreLinked own other → Happens own other e new → AreLinked new other
both-happens own other new (Answer put offer now offsets server limits) tidy clean b h = subst (λ x. AreLinked x other) (sym h.4) (both-answered own other now offsets offer server limits h.0 b)
both-happens own other new (Submit q) tidy clean b h =
    let p : Peering = h.0 in
    let a = accepted (is_connected p.state) (leb (length p.outbox.senders) q.channel) (ltb p.limits.max_packet (length q.body) || ltb fragment_limit (piece_count (length q.body) p.terms.mtu)) h.2 in
    let s = inside p.outbox.senders q.channel a.1 in
    let t = tidy p h.1 in
    let few : piece_count (length q.body) p.terms.mtu ≤ fragment_limit = at-most (piece_count (length q.body) p.terms.mtu) (or-right (ltb p.limits.max_packet (length q.body)) (ltb fragment_limit (piece_count (length q.body) p.terms.mtu)) a.2) in
    subst (λ x. AreLinked x other) (sym h.3) (both-submitted own other p q s.0 h.1 (t.big (connected-agreed p.state a.0)) (connected-sends p.state a.0) s.1 few b)
  where
    at-most : (n : ℕ) → ltb fragment_limit n ≡ false → n ≤ fragment_limit
    at-most n e = grind (arith, nat_tests)
both-happens own other new (Emit now) tidy clean b h =
    let p : Peering = h.0 in let t = tidy p h.1 in
    subst (λ x. AreLinked x other) (sym h.2) (both-emitted own other p now h.1 t.places b)
both-happens own other new (Come put now sent) tidy clean b h =
    let p : Peering = h.0 in
    let i = h.2 in
    subst (λ x. AreLinked x other) (sym h.4) (holds-heeded own other h.3 p now sent put.message (named own other p h.1 b)
    (holds-coming own other p put.message.head put.sent_then now sent put.message.body i.logged clean (tidy p h.1) i.of_data i.of_acknowledgement (named own other p h.1 b)))
both-happens own other new (Tick now) tidy clean b h = subst (λ x. AreLinked x other) (sym h.3) (holds-moved own other h.2 h.0 now (named own other h.0 h.1 b))
both-happens own other new Take tidy clean b h = subst (λ x. AreLinked x other) (sym h.5) (both-took own other h.0 h.1 h.2 h.3 h.4 b)
both-happens own other new (Disconnect way info) tidy clean b h = subst (λ x. AreLinked x other) (sym h.4) (holds-left own other h.0 h.1 way info h.3 (named own other h.0 h.2 b))
both-happens own other new (Set setting) tidy clean b h = subst (λ x. AreLinked x other) (sym h.3) (holds-set own other h.0 setting (named own other h.0 h.1 b))
both-happens own other new GiveWay tidy clean b h = subst (λ x. AreLinked x other) (sym h.3) (holds-given_way own other h.0 (named own other h.0 h.1 b))
both-happens own other new TellAgain tidy clean b h = subst (λ x. AreLinked x other) (sym h.3) (holds-told_again own other h.0 (named own other h.0 h.1 b))
