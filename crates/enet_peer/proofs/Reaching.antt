-- Whatever happens to a peer, it keeps what every peer keeps.
use Rattle.std.proofs.Common.{◌≡◌, ℕ, zero, suc, ◌+◌, ◌%◌, ◌^◌, Bool, true, false, cond, ltb, leb, ◌&&◌, not, ◌==◌, List, [], ◌∷◌, ◌++◌, map, take, length, refl, sym, ap, subst, ◌∙◌, ◌⊎◌, inl, inr, arith, Option, Some, None, Result, Ok, Err, slice_set}
use Rattle.std.specs.Prelude.{is_some}
use Rattle.std.specs.List.{slice_get, range_with_len}
use Rattle.enet_codec.specs.declared.command.Head.{Head}
use Rattle.enet_codec.specs.declared.command.Offer.{Offer}
use Rattle.enet_codec.specs.declared.command.Verify.{Verify}
use Rattle.enet_codec.specs.declared.refusal.Refusal.{Refusal}
use Rattle.enet_codec.specs.declared.stop.Stop.{Stop}
use Rattle.enet_codec.specs.declared.stop.Stop.TheVariants as stop
use Rattle.enet_codec.specs.declared.packet.Packet as codec
use Rattle.enet_codec.specs.Message.{Message, Body, acknowledge, connect, verify_connect, disconnect, ping, send_reliable, send_unreliable, send_fragment, send_unsequenced, bandwidth_limit, throttle_configure, send_unreliable_fragment}
use Rattle.enet_seq.specs.Numbering.{wire}
use Rattle.enet_rtt.specs.declared.transmission.Tick.{Tick}
use Rattle.enet_rtt.specs.declared.expiry.Expiry.{Expiry}
use Rattle.enet_rtt.specs.declared.expiry.Expiry.TheVariants.{No, Resend, End}
use Rattle.enet_unsequenced.specs.Groups.{dispatches}
use Rattle.enet_connect.specs.declared.terms.Terms.{Terms}
use Rattle.enet_connect.specs.declared.server.Server.{Server}
use Rattle.enet_connect.specs.Terms.{granted}
use Rattle.enet_connect.specs.Verification.{asked, confirmed}
use Rattle.enet_senders.specs.declared.control.Control.{Control}
use Rattle.enet_senders.specs.declared.control.Control.TheVariants as control
use Rattle.enet_senders.specs.declared.control.Numbered.{Numbered}
use Rattle.enet_senders.specs.declared.control.SentControl.{SentControl}
use Rattle.enet_senders.specs.Controlling.{Commands}
use Rattle.enet_senders.specs.Controlling as controlling
use Rattle.enet_fragment.specs.declared.data.DataCommand.{DataCommand}
use Rattle.enet_fragment.specs.DataCommand.{data_of}
use Rattle.enet_receiver.specs.declared.took.Took.{Took}
use Rattle.enet_receiver.specs.declared.took.Took.TheVariants.{Held, Again, Outside, Bad, Waiting, Memory}
use Rattle.enet_receiver.specs.Foresight.{ReceivingEnd, outcome_for, after_command}
use Rattle.enet_receiver.specs.Foresight as receiving
use Rattle.enet_inbox.specs.Inbox.{Inbox, is_full, is_full_for, cleared_receiver, given_way, given_way_receiver}
use Rattle.enet_inbox.specs.DataEffect.{DataEffect, handled, stopped as refused, unsequenced, unsequenced_taken, by_took, sequenced, sequenced_on, passed_over, makes_room, met, arrival, arrival_of, emptied}
use Rattle.enet_sender.specs.CommandChoice.{Packet}
use Rattle.enet_sender.specs.declared.sent.Sent.{Sent}
use Rattle.enet_sender.specs.declared.outgoing.Occasion.{Occasion}
use Rattle.enet_sender.specs.Sender.{Sender, Next, next, with_skipped}
use Rattle.enet_sender.specs.Sender as sender
use Rattle.enet_sender.specs.Due.{SendingEnd, new_end}
use Rattle.enet_rtt.specs.Clock.{meant_time}
use Rattle.enet_outbox.specs.declared.parts.Acknowledgement.{Acknowledgement}
use Rattle.enet_outbox.specs.declared.parts.Unsequenced.{Unsequenced}
use Rattle.enet_outbox.specs.declared.parts.Matched.{Matched}
use Rattle.enet_outbox.specs.declared.parts.Matched.TheVariants as matched
use Rattle.enet_outbox.specs.declared.parts.Pace.{Pace}
use Rattle.enet_outbox.specs.Outbox.{Outbox, cleared_sender, marked_sender, with_control, after_acknowledgement, acknowledged_on, is_done, is_unsequenced, with_unsequenced, with_sequenced, matched_by, told_by, with_growth}
use Rattle.enet_outbox.specs.Outbox as outbox
use Rattle.enet_outbox.specs.Emission.{Filling, filled}
use Rattle.enet_outbox.proofs.Filled.{by-filling}
use Rattle.enet_peer.specs.Peering.{Peering, joined, connecting, answering}
use Rattle.enet_peer.specs.declared.parts.Ending.{Ending}
use Rattle.enet_peer.specs.declared.parts.Ending.TheVariants.{AskedHere, AskedThere, BadAnswer}
use Rattle.enet_peer.specs.declared.parts.PeerState.{PeerState}
use Rattle.enet_peer.specs.declared.parts.PeerState.TheVariants as state
use Rattle.enet_peer.specs.declared.parts.Limits.{Limits}
use Rattle.enet_peer.specs.declared.parts.Offsets.{Offsets}
use Rattle.enet_peer.specs.declared.parts.PeerEvent.{PeerEvent}
use Rattle.enet_peer.specs.declared.parts.PeerEvent.TheVariants as event
use Rattle.enet_peer.specs.Endings.{ended, freed, disconnecting, parting, settled, is_later, silence_ending, cut_off_in}
use Rattle.enet_peer.specs.CommandEffect.{Outcome, Obeys, unless_refused, wants_memory, answered, answered_at, is_answered_in, is_allowed, is_connect, obeyed, by_body, by_answer, by_arrival, on_data, stopped, sampled, with_answer, on_match, accepted, is_connecting, on_acknowledge, welcomed, on_verify_in, on_last_disconnect, on_disconnect_in}
use Rattle.enet_peer.specs.Calls.{Leave, AtOnce, TellsOnce, Asks, AsksLater, Refused, Leaves, left, Submits, submitted, PutsOut, after_timeouts, after_timeouts_by, expiry_of, held_back, is_held_back, is_pinged, moved, tick_of, ticked, is_connected, pace_of, gone_on_in, Taken, Takes, next_event, event_after, packet_event, last_event, with_bandwidth, with_throttle}
use Rattle.enet_peer.specs.Reachable.{IsReachable, IsStill, IsStillIn, KeepsHoldings, WaitsIn, holdings_of}
use Rattle.enet_peer.proofs.Obeying.{obeys-holds, unless-holds, unwelcomed-holds}

-- ---- a fact of each element of a list and its place

abbrev At : {X : Type 0} → (ℕ → X → Type 0) → List X → Type 0
At {X} Q xs = (i : ℕ) (x : X) → slice_get xs i ≡ Some x → Q i x

set-cases : {X : Type 0} (xs : List X) (k : ℕ) (y : X) (i : ℕ) (x : X) → slice_get (slice_set xs k y) i ≡ Some x → ((k ≡ i) × (y ≡ x)) ⊎ (slice_get xs i ≡ Some x)
set-cases [] k y i x e = inr e
set-cases (z ∷ xs) zero y zero x e = inl (refl, (let f : Some y ≡ Some x = e in cc))
set-cases (z ∷ xs) zero y (suc i) x e = inr e
set-cases (z ∷ xs) (suc k) y zero x e = inr e
set-cases (z ∷ xs) (suc k) y (suc i) x e = elim (set-cases xs k y i x e) [ inl new ↦ inl (ap suc new.0, new.1) | inr old ↦ inr old ]

at-set : {X : Type 0} (Q : ℕ → X → Type 0) (xs : List X) (k : ℕ) (y : X) → Q k y → At Q xs → At Q (slice_set xs k y)
at-set {X} Q xs k y q h i x e = elim (set-cases xs k y i x e) [ inl new ↦ subst (λ (z : X). Q i z) new.1 (subst (λ (j : ℕ). Q j y) new.0 q) | inr old ↦ h i x old ]

get-map : {X Y : Type 0} (f : X → Y) (xs : List X) (i : ℕ) (y : Y) → slice_get (map f xs) i ≡ Some y → (x : X) × (slice_get xs i ≡ Some x) × (f x ≡ y)
get-map f [] i y e = cc
get-map f (x ∷ xs) zero y e = (x, refl, (let d : Some (f x) ≡ Some y = e in cc))
get-map f (x ∷ xs) (suc i) y e = get-map f xs i y e

at-map : {X Y : Type 0} (P : ℕ → X → Type 0) (Q : ℕ → Y → Type 0) (f : X → Y) (xs : List X) → ((i : ℕ) (x : X) → P i x → Q i (f x)) → At P xs → At Q (map f xs)
at-map {X} {Y} P Q f xs g h i y e = (let r = get-map f xs i y e in subst (λ (z : Y). Q i z) r.2 (g i r.0 (h i r.0 r.1)))

at-all : {X Y : Type 0} (Q : ℕ → Y → Type 0) (f : X → Y) (xs : List X) → ((i : ℕ) (x : X) → Q i (f x)) → At Q (map f xs)
at-all {X} {Y} Q f xs g i y e = (let r = get-map f xs i y e in subst (λ (z : Y). Q i z) r.2 (g i r.0))

get-take : {X : Type 0} (n : ℕ) (xs : List X) (i : ℕ) → (slice_get (take n xs) i ≡ slice_get xs i) ⊎ (slice_get (take n xs) i ≡ None)
get-take zero xs i = inr refl
get-take (suc n) [] i = inl refl
get-take (suc n) (x ∷ xs) zero = inl refl
get-take (suc n) (x ∷ xs) (suc i) = get-take n xs i

at-take : {X : Type 0} (Q : ℕ → X → Type 0) (n : ℕ) (xs : List X) → At Q xs → At Q (take n xs)
at-take Q n xs h i x e = elim (get-take n xs i) [ inl same ↦ h i x (sym same ∙ e) | inr none ↦ absurd (let z : None ≡ Some x = sym none ∙ e in cc) ]

abbrev InPlace : ℕ → SendingEnd → Type 0
InPlace i s = s.channel ≡ i

abbrev NoQueued : ℕ → SendingEnd → Type 0
NoQueued i s = s.sender.queued ≡ []

abbrev NoSent : ℕ → SendingEnd → Type 0
NoSent i s = s.sender.sent ≡ []

abbrev HandedOver : ℕ → ReceivingEnd → Type 0
HandedOver i r = r.receiver.dispatched ≡ []

-- ---- by the state

abbrev In : PeerState → Peering → Type 0
In s p = KeepsHoldings s (holdings_of p)

seen-in : (s : PeerState) (p : Peering) → p.state ≡ s → IsReachable p → In s p
seen-in s p e h = subst (λ (x : PeerState). In x p) e h

kept-in : (s : PeerState) (p : Peering) → p.state ≡ s → In s p → IsReachable p
kept-in s p e h = subst (λ (x : PeerState). In x p) (sym e) h

still-in : (s : PeerState) (us vs : List Unsequenced) (c d : Commands) (ss ts : List SendingEnd) → (IsStill us c ss → IsStill vs d ts) → IsStillIn s us c ss → IsStillIn s vs d ts
still-in state.Free us vs c d ss ts f h = f h
still-in state.AckDisconnect us vs c d ss ts f h = f h
still-in state.Ended us vs c d ss ts f h = f h
still-in state.Parting us vs c d ss ts f h = f h
still-in s us vs c d ss ts f h = tt

if-peer : (b : Bool) (p q : Peering) → (b ≡ true → IsReachable p) → IsReachable q → IsReachable (cond b p q)
if-peer true p q a h = a refl
if-peer false p q a h = h

if-outcome : (b : Bool) (x y : Outcome) → (b ≡ true → IsReachable x.after) → IsReachable y.after → IsReachable (cond b x y).after
if-outcome true x y a h = a refl
if-outcome false x y a h = h

and-left : (a b : Bool) → (a && b) ≡ true → a ≡ true
and-left true b h = refl
and-left false b h = absurd cc

and-right : (a b : Bool) → (a && b) ≡ true → b ≡ true
and-right true b h = h
and-right false b h = absurd cc

-- ---- how a connection ends

stilled : (c : Commands) (ss : List SendingEnd) → c.sent ≡ [] → IsStill [] c (map cleared_sender ss)
stilled c ss none = record {
  no_unsequenced = refl;
  no_control_sent = none;
  no_queued = at-all NoQueued cleared_sender ss (λ i s. refl);
  no_sent = at-all NoSent cleared_sender ss (λ i s. refl);
}

places-cleared : (ss : List SendingEnd) → At InPlace ss → At InPlace (map cleared_sender ss)
places-cleared ss h = at-map InPlace InPlace cleared_sender ss (λ i s e. e) h

handed-cleared : (rs : List ReceivingEnd) → At HandedOver rs → At HandedOver (map cleared_receiver rs)
handed-cleared rs h = at-map HandedOver HandedOver cleared_receiver rs (λ i r e. e) h

ended-keeps : (p : Peering) (why : Ending) (info : ℕ) → IsReachable p → IsReachable (ended p why info)
ended-keeps p why info h = record {
  still = stilled (controlling.cleared p.outbox.control) p.outbox.senders refl;
  waits = (refl, refl);
  places = places-cleared p.outbox.senders h.places;
  handed_over = handed-cleared p.inbox.receivers h.handed_over;
}

freed-keeps : (p : Peering) → IsReachable p → IsReachable (freed p)
freed-keeps p h = record {
  still = stilled (controlling.cleared p.outbox.control) p.outbox.senders refl;
  waits = (refl, refl);
  places = places-cleared p.outbox.senders h.places;
  handed_over = handed-cleared p.inbox.receivers h.handed_over;
}

parting-keeps : (p : Peering) (info : ℕ) → IsReachable p → IsReachable (parting p info)
parting-keeps p info h = record {
  still = stilled (controlling.with_queued (controlling.cleared p.outbox.control) (control.DisconnectNow info)) p.outbox.senders refl;
  waits = (refl, Rattle.enet_seq.specs.Windows.after p.outbox.control.number 1, info, refl);
  places = places-cleared p.outbox.senders h.places;
  handed_over = handed-cleared p.inbox.receivers h.handed_over;
}

disconnecting-keeps : (p : Peering) (info : ℕ) → IsReachable p → IsReachable (disconnecting p info)
disconnecting-keeps p info h = record {
  still = tt;
  waits = tt;
  places = places-cleared p.outbox.senders h.places;
  handed_over = handed-cleared p.inbox.receivers h.handed_over;
}

settled-keeps : (p : Peering) → IsReachable p → IsReachable (settled p)
settled-keeps p h = if-peer (is_later p.state && is_done p.outbox) (disconnecting p p.info) p (λ t. disconnecting-keeps p p.info h) h

-- ---- a command comes

with-answer-in : (s : PeerState) (p : Peering) (body : Body) (a : Acknowledgement) → p.state ≡ s → is_answered_in s body ≡ true → In s p
    → IsReachable (record p { outbox = outbox.with_acknowledgement p.outbox a })
with-answer-in state.Connected p body a e t h = kept-in state.Connected (record p { outbox = outbox.with_acknowledgement p.outbox a }) e (record { still = tt; waits = tt; places = h.places; handed_over = h.handed_over })
with-answer-in state.DisconnectLater p body a e t h =
    kept-in state.DisconnectLater (record p { outbox = outbox.with_acknowledgement p.outbox a }) e (record { still = tt; waits = tt; places = h.places; handed_over = h.handed_over })
with-answer-in state.AckDisconnect p body a e t h =
    let w = h.waits in
    kept-in state.AckDisconnect (record p { outbox = outbox.with_acknowledgement p.outbox a }) e (record {
      still = h.still;
      waits = (w.0, w.1 ++ a ∷ [], ap (λ (xs : List Acknowledgement). xs ++ a ∷ []) w.2, w.3);
      places = h.places;
      handed_over = h.handed_over;
    })
with-answer-in s p body a e t h = absurd (let x : false ≡ true = t in cc)

answered-keeps : (p : Peering) (m : Message) (sent : Option ℕ) (may : Bool) → IsReachable p → IsReachable (answered p m sent may).after
answered-keeps p m sent may h = if-outcome (m.head.acknowledge && may && is_answered_in p.state m.body) (answered_at p m.head sent) (record { stop = None; after = p }) (λ t. by sent (last t)) h
  where
    last : (m.head.acknowledge && may && is_answered_in p.state m.body) ≡ true → is_answered_in p.state m.body ≡ true
    last t = and-right (m.head.acknowledge && may) (is_answered_in p.state m.body) t

    by : (o : Option ℕ) → is_answered_in p.state m.body ≡ true → IsReachable (answered_at p m.head o).after
    by None t = h
    by (Some time) t = with-answer-in p.state p m.body (record { channel = m.head.channel; number = m.head.number; time = time }) refl t h

matched-keeps : (p : Peering) (channel number : ℕ) → IsReachable p → IsReachable (record p { outbox = after_acknowledgement p.outbox channel number })
matched-keeps p channel number h = by (channel == 0xFF)
  where
    o : Outbox
    o = p.outbox

    on : (x : Option SendingEnd) → slice_get o.senders channel ≡ x → IsReachable (record p { outbox = acknowledged_on o channel number x })
    on None e = h
    on (Some s) e =
        let t : SendingEnd = record s { sender = sender.after_acknowledgement s.sender number } in
        record {
          still = still-in p.state o.unsequenced o.unsequenced o.control o.control o.senders (slice_set o.senders channel t) (λ x. record {
            no_unsequenced = x.no_unsequenced;
            no_control_sent = x.no_control_sent;
            no_queued = at-set NoQueued o.senders channel t (x.no_queued channel s e) x.no_queued;
            no_sent = at-set NoSent o.senders channel t (ap (λ (l : List Sent). sender.without_place l (sender.position_of number l)) (x.no_sent channel s e)) x.no_sent;
          }) h.still;
          waits = h.waits;
          places = at-set InPlace o.senders channel t (h.places channel s e) h.places;
          handed_over = h.handed_over;
        }

    by : (b : Bool) → IsReachable (record p { outbox = cond b (record o { control = controlling.after_acknowledgement o.control number }) (acknowledged_on o channel number (slice_get o.senders channel)) })
    by true = record {
      still = still-in p.state o.unsequenced o.unsequenced o.control (controlling.after_acknowledgement o.control number) o.senders o.senders (λ x. record {
        no_unsequenced = x.no_unsequenced;
        no_control_sent = ap (λ (l : List SentControl). controlling.without_place l (controlling.position_of number l)) x.no_control_sent;
        no_queued = x.no_queued;
        no_sent = x.no_sent;
      }) h.still;
      waits = h.waits;
      places = h.places;
      handed_over = h.handed_over;
    }
    by false = on (slice_get o.senders channel) refl

connected-keeps : (s : PeerState) (q : Peering) → q.state ≡ s → is_connected s ≡ true → At InPlace q.outbox.senders → At HandedOver q.inbox.receivers → IsReachable q
connected-keeps state.Connected q e t places handed = kept-in state.Connected q e (record { still = tt; waits = tt; places = places; handed_over = handed })
connected-keeps s q e t places handed = absurd (let x : false ≡ true = t in cc)

with-answer-keeps : (p : Peering) (s : PeerState) (what : Control) → IsReachable p → IsReachable (with_answer s what p)
with-answer-keeps p state.Answering (control.VerifyConnect verify) h = record { still = tt; waits = tt; places = h.places; handed_over = h.handed_over }
with-answer-keeps p state.Disconnecting (control.Disconnect info) h = ended-keeps p AskedHere 0 h
with-answer-keeps p s what h = h

acknowledged-keeps : (p : Peering) (now channel number told : ℕ) → IsReachable p → IsReachable (on_acknowledge p now channel number told)
acknowledged-keeps p now channel number told h = by-state (is_connecting p.state)
  where
    meant : ℕ
    meant = meant_time told (p.offset % 2 ^ 16)

    q : Peering
    q = sampled (record p { outbox = with_growth (after_acknowledgement p.outbox channel number) (told_by p.outbox channel number meant) }) now meant

    a : IsReachable q
    a =
        let gone : IsReachable (record p { outbox = after_acknowledgement p.outbox channel number }) = matched-keeps p channel number h in
        record { still = gone.still; waits = gone.waits; places = gone.places; handed_over = gone.handed_over }

    by : (x : Matched) → IsReachable (on_match x p q)
    by matched.Nothing = h
    by matched.Data = settled-keeps q a
    by (matched.Control what) = settled-keeps (with_answer p.state what q) (with-answer-keeps q p.state what a)

    by-state : (b : Bool) → IsReachable (cond b p (accepted p now channel number meant))
    by-state true = h
    by-state false = by (matched_by p.outbox channel number meant)

welcomed-keeps : (p : Peering) (v : Verify) (o : Option Terms) → IsReachable p → IsReachable (welcomed p v o)
welcomed-keeps p v None h = unwelcomed-holds IsReachable p v h (ended-keeps p BadAnswer 0 h)
welcomed-keeps p v (Some terms) h = record {
  still = tt;
  waits = tt;
  places = at-take InPlace terms.channels (map cleared_sender p.outbox.senders) (places-cleared p.outbox.senders h.places);
  handed_over = at-take HandedOver terms.channels p.inbox.receivers h.handed_over;
}

verified-keeps : (p : Peering) (v : Verify) (s : PeerState) → IsReachable p → IsReachable (on_verify_in s p v)
verified-keeps p v state.Connecting h = welcomed-keeps p v (confirmed p.offer v) h
verified-keeps p v s h = h

-- a DISCONNECT that can be acknowledged is
last-keeps : (p : Peering) (h : Head) (a : Bool) (sent : Option ℕ) (info : ℕ) → IsReachable p
    → IsReachable (answered (on_last_disconnect p (a && is_some sent) info) (record { head = record h { acknowledge = a }; body = disconnect info }) sent true).after
last-keeps p h true None info k = ended-keeps p AskedThere info k
last-keeps p h true (Some time) info k = record {
  still = stilled (controlling.cleared p.outbox.control) p.outbox.senders refl;
  waits = (record { channel = h.channel; number = h.number; time = time }, [], refl, refl);
  places = places-cleared p.outbox.senders k.places;
  handed_over = handed-cleared p.inbox.receivers k.handed_over;
}
last-keeps p h false sent info k = ended-keeps p AskedThere info k

disconnected-keeps : (p : Peering) (s : PeerState) (h : Head) (sent : Option ℕ) (info : ℕ) → IsReachable p
    → IsReachable (answered (on_disconnect_in s p (h.acknowledge && is_some sent) info) (record { head = h; body = disconnect info }) sent true).after
disconnected-keeps p state.Connected h sent info k = last-keeps p h h.acknowledge sent info k
disconnected-keeps p state.DisconnectLater h sent info k = last-keeps p h h.acknowledge sent info k
disconnected-keeps p state.Connecting h sent info k = answered-keeps (ended p AskedThere info) (record { head = h; body = disconnect info }) sent true (ended-keeps p AskedThere info k)
disconnected-keeps p state.Disconnecting h sent info k = answered-keeps (ended p AskedThere info) (record { head = h; body = disconnect info }) sent true (ended-keeps p AskedThere info k)
disconnected-keeps p state.Answering h sent info k = answered-keeps (freed p) (record { head = h; body = disconnect info }) sent true (freed-keeps p k)
disconnected-keeps p s h sent info k = answered-keeps p (record { head = h; body = disconnect info }) sent true k

-- ---- a data command comes

if-arrival : (b : Bool) (x y : DataEffect) → At HandedOver x.after.receivers → At HandedOver y.after.receivers → At HandedOver (cond b x y).after.receivers
if-arrival true x y a h = a
if-arrival false x y a h = h

unsequenced-hands : (b : Inbox) (channel group : ℕ) (payload : List ℕ) → At HandedOver b.receivers → At HandedOver (unsequenced b channel group payload).after.receivers
unsequenced-hands b channel group payload h =
    let took : DataEffect = handled (unsequenced_taken b channel group payload) true in
    let a3 : DataEffect = cond (is_full b) (refused b stop.Waiting) took in
    let a2 : DataEffect = cond (not (dispatches b.seen group)) (handled b true) a3 in
    let a1 : DataEffect = cond (ltb b.max_packet (length payload)) (refused b stop.BadFragment) a2 in
    if-arrival (leb (length b.receivers) channel) (refused b stop.BadChannel) a1 h
    (if-arrival (ltb b.max_packet (length payload)) (refused b stop.BadFragment) a2 h
    (if-arrival (not (dispatches b.seen group)) (handled b true) a3 h
    (if-arrival (is_full b) (refused b stop.Waiting) took h h)))

took-hands : (t : Took) (b : Inbox) (channel : ℕ) (r : ReceivingEnd) (c : DataCommand) → At HandedOver b.receivers → At HandedOver (by_took t b channel r c).after.receivers
took-hands Bad b channel r c h = h
took-hands Waiting b channel r c h = h
took-hands Memory b channel r c h = h
took-hands Outside b channel r c h = h
took-hands Again b channel r c h = h
took-hands Held b channel r c h = at-set HandedOver b.receivers channel (emptied (after_command r (Some c) (is_full_for b r c))) refl h

on-hands : (b : Inbox) (channel : ℕ) (c : DataCommand) (o : Option ReceivingEnd) → At HandedOver b.receivers → At HandedOver (sequenced_on b channel c o).after.receivers
on-hands b channel c None h = h
on-hands b channel c (Some r) h = took-hands (outcome_for r (Some c) (is_full_for b r c)) b channel r c h

sequenced-hands : (b : Inbox) (channel : ℕ) (o : Option DataCommand) → At HandedOver b.receivers → At HandedOver (sequenced b channel o).after.receivers
sequenced-hands b channel None h = h
sequenced-hands b channel (Some c) h = on-hands b channel c (slice_get b.receivers channel) h

met-hands : (t : Bool) (b : Inbox) → At HandedOver b.receivers → At HandedOver (cond t (given_way b) b).receivers
met-hands true b h = at-map HandedOver HandedOver given_way_receiver b.receivers (λ i r e. e) h
met-hands false b h = h

arrival-hands : (b : Inbox) (m : Message) (body : Body) → At HandedOver b.receivers → At HandedOver (arrival_of b m body).after.receivers
arrival-hands b m (send_unsequenced group payload) h = unsequenced-hands b m.head.channel group payload h
arrival-hands b m body h = sequenced-hands b m.head.channel (data_of m) h

result-keeps : (p : Peering) (m : Message) (sent : Option ℕ) (r : Result Bool Stop) → IsReachable p → IsReachable (by_answer p m sent r).after
result-keeps p m sent (Err why) h = h
result-keeps p m sent (Ok may) h = answered-keeps p m sent may h

data-keeps : (p : Peering) (m : Message) (sent : Option ℕ) → IsReachable p → IsReachable (on_data p m sent).after
data-keeps p m sent h = if-outcome (is_later p.state) (by_answer p m sent (passed_over p.inbox m)) (by_arrival p m sent (arrival p.inbox m))
    (λ t. result-keeps p m sent (passed_over p.inbox m) h)
    (result-keeps (record p { inbox = (arrival p.inbox m).after }) m sent (arrival p.inbox m).answer
    (record { still = h.still; waits = h.waits; places = h.places; handed_over = arrival-hands (met p.inbox m) m m.body (met-hands (makes_room p.inbox m) p.inbox h.handed_over) }))

body-keeps : (p : Peering) (h : Head) (now : ℕ) (sent : Option ℕ) (body : Body) → IsReachable p → IsReachable (by_body p now sent (record { head = h; body = body }) body).after
body-keeps p h now sent (acknowledge number time) k =
    answered-keeps (on_acknowledge p now h.channel number time) (record { head = h; body = acknowledge number time }) sent true (acknowledged-keeps p now h.channel number time k)
body-keeps p h now sent (connect offer) k = k
body-keeps p h now sent (verify_connect v) k = answered-keeps (on_verify_in p.state p v) (record { head = h; body = verify_connect v }) sent true (verified-keeps p v p.state k)
body-keeps p h now sent (disconnect info) k = disconnected-keeps p p.state h sent info k
body-keeps p h now sent ping k = answered-keeps p (record { head = h; body = ping }) sent true k
body-keeps p h now sent (bandwidth_limit incoming outgoing) k =
    answered-keeps (Rattle.enet_peer.specs.CommandEffect.on_bandwidth p incoming) (record { head = h; body = bandwidth_limit incoming outgoing }) sent true k
body-keeps p h now sent (throttle_configure interval acceleration deceleration) k =
    answered-keeps (Rattle.enet_peer.specs.CommandEffect.on_throttle p interval acceleration deceleration) (record { head = h; body = throttle_configure interval acceleration deceleration }) sent true k
body-keeps p h now sent (send_reliable payload) k = data-keeps p (record { head = h; body = send_reliable payload }) sent k
body-keeps p h now sent (send_unreliable n payload) k = data-keeps p (record { head = h; body = send_unreliable n payload }) sent k
body-keeps p h now sent (send_fragment f payload) k = data-keeps p (record { head = h; body = send_fragment f payload }) sent k
body-keeps p h now sent (send_unsequenced group payload) k = data-keeps p (record { head = h; body = send_unsequenced group payload }) sent k
body-keeps p h now sent (send_unreliable_fragment f payload) k = data-keeps p (record { head = h; body = send_unreliable_fragment f payload }) sent k

pub obeyed-keeps : (p : Peering) (now : ℕ) (sent : Option ℕ) (m : Message) → IsReachable p → IsReachable (obeyed p now sent m).after
obeyed-keeps p now sent m h =
    let effect : Outcome = unless_refused p m (by_body p now sent m m.body) in
    let some : Outcome = cond (is_allowed p.state m.body) effect (stopped p stop.NotConnected) in
    if-outcome (is_connect m.body) (stopped p stop.BadCommand) some (λ t. h)
    (if-outcome (is_allowed p.state m.body) effect (stopped p stop.NotConnected)
    (λ t. unless-holds IsReachable p m (by_body p now sent m m.body) h (body-keeps p m.head now sent m.body h)) h)

-- ---- a datagram goes

idle-control : (now timeout : ℕ) (c : Commands) (n : controlling.Next) → c.queued ≡ [] → c.sent ≡ [] → controlling.next now timeout c ≡ Some n → ⊥
idle-control now timeout c n q t e =
    let is : controlling.next now timeout (record c { queued = []; sent = [] }) ≡ Some n =
    ap (λ (x : List Numbered). controlling.next now timeout (record c { queued = x; sent = [] })) (sym q)
    ∙ ap (λ (x : List SentControl). controlling.next now timeout (record c { sent = x })) (sym t) ∙ e in
    let both : None ≡ Some n = is in
    cc

idle-next : (occasion : Occasion) (s : Sender) (n : Next) → s.queued ≡ [] → s.sent ≡ [] → next wire occasion s ≡ Some n → ⊥
idle-next occasion s n q t e =
    let is : next wire occasion (record s { queued = []; sent = [] }) ≡ Some n =
    ap (λ (x : List DataCommand). next wire occasion (record s { queued = x; sent = [] })) (sym q)
    ∙ ap (λ (x : List Sent). next wire occasion (record s { sent = x })) (sym t) ∙ e in
    let both : None ≡ Some n = is in
    cc

nil-cons : {X : Type 0} (xs : List X) (x : X) (rest : List X) → xs ≡ [] → xs ≡ x ∷ rest → ⊥
nil-cons {X} xs x rest none some = (let both : [] ≡ x ∷ rest = sym none ∙ some in cc)

-- the last DISCONNECT goes
abbrev LastWord : List Numbered → Type 0
LastWord queued = (number info : ℕ) × (queued ≡ (record { number = number; control = control.DisconnectNow info }) ∷ [])

last-goes : (now timeout : ℕ) (c : Commands) (n : controlling.Next) → LastWord c.queued → c.sent ≡ [] → controlling.next now timeout c ≡ Some n → (n.commands.sent ≡ []) × (n.commands.queued ≡ [])
last-goes now timeout c n w t e =
    let word : Numbered = record { number = w.0; control = control.DisconnectNow w.1 } in
    let is : controlling.next now timeout (record c { queued = word ∷ []; sent = [] }) ≡ Some n =
    ap (λ (x : List Numbered). controlling.next now timeout (record c { queued = x; sent = [] })) (sym w.2)
    ∙ ap (λ (x : List SentControl). controlling.next now timeout (record c { sent = x })) (sym t) ∙ e in
    let k : controlling.Next = record { command = word; commands = record c { queued = []; sent = [] } } in
    let both : Some k ≡ Some n = is in
    let same : k ≡ n = cc in
    (ap (λ (x : controlling.Next). x.commands.sent) (sym same), ap (λ (x : controlling.Next). x.commands.queued) (sym same))

filled-places : (pace : Pace) (o : Outbox) → At InPlace o.senders → At InPlace (filled pace o).outbox.senders
filled-places pace o h = by-filling pace o (λ (f : Filling). At InPlace f.outbox.senders) (record {
  closes = λ f a. a;
  acknowledges = λ f x rest e a. a;
  controls = λ f n e a. a;
  puts_unsequenced = λ f u rest t e a. a;
  drops_unsequenced = λ f u rest t e a. a;
  puts_data = λ f k s n t there due a. at-set InPlace f.outbox.senders k (record s { sender = n.sender }) (a k s there) a;
  drops_data = λ f k s n t there due kind a. at-set InPlace f.outbox.senders k (record s { sender = with_skipped n.sender }) (a k s there) a;
  keeps_room = λ f i x there wants a. a;
  gives_room = λ f i x n there due a. a;
}) h

-- nothing is left to send but the last DISCONNECT, if that
abbrev Spent : (List Numbered → Type 0) → Outbox → Type 0
Spent Left o = IsStill o.unsequenced o.control o.senders × (o.acknowledgements ≡ []) × Left o.control.queued

abbrev WordOrNone : List Numbered → Type 0
WordOrNone queued = LastWord queued ⊎ (queued ≡ [])

filled-spent : (pace : Pace) (o : Outbox) (Left : List Numbered → Type 0)
    → ((c : Commands) (n : controlling.Next) → Left c.queued → c.sent ≡ [] → controlling.next pace.now pace.timeout c ≡ Some n → (n.commands.sent ≡ []) × Left n.commands.queued)
    → Spent Left o → Spent Left (filled pace o).outbox
filled-spent pace o Left goes h = by-filling pace o (λ (f : Filling). Spent Left f.outbox) (record {
  closes = λ f a. a;
  acknowledges = λ f x rest e a. absurd (nil-cons f.outbox.acknowledgements x rest a.1 e);
  controls = λ f n due a. (let g = goes f.outbox.control n a.2 a.0.no_control_sent due in
      (record { no_unsequenced = a.0.no_unsequenced; no_control_sent = g.0; no_queued = a.0.no_queued; no_sent = a.0.no_sent }, a.1, g.1));
  puts_unsequenced = λ f u rest t e a. absurd (nil-cons f.outbox.unsequenced u rest a.0.no_unsequenced e);
  drops_unsequenced = λ f u rest t e a. absurd (nil-cons f.outbox.unsequenced u rest a.0.no_unsequenced e);
  puts_data = λ f k s n t there due a. absurd (idle-next _ s.sender n (a.0.no_queued k s there) (a.0.no_sent k s there) due);
  drops_data = λ f k s n t there due kind a. absurd (idle-next _ s.sender n (a.0.no_queued k s there) (a.0.no_sent k s there) due);
  keeps_room = λ f i x there wants a. a;
  gives_room = λ f i x n there due a. a;
}) h

filled-empty : (pace : Pace) (o : Outbox) → Spent (λ queued. queued ≡ []) o → Spent (λ queued. queued ≡ []) (filled pace o).outbox
filled-empty pace o h = filled-spent pace o (λ (queued : List Numbered). queued ≡ []) (λ c n q t e. absurd (idle-control pace.now pace.timeout c n q t e)) h

filled-last : (pace : Pace) (o : Outbox) → Spent WordOrNone o → Spent WordOrNone (filled pace o).outbox
filled-last pace o h = filled-spent pace o WordOrNone (λ c n q t e. by c n q t e) h
  where
    by : (c : Commands) (n : controlling.Next) → WordOrNone c.queued → c.sent ≡ [] → controlling.next pace.now pace.timeout c ≡ Some n → (n.commands.sent ≡ []) × WordOrNone n.commands.queued
    by c n (inl w) t e = (let g = last-goes pace.now pace.timeout c n w t e in (g.0, inr g.1))
    by c n (inr q) t e = absurd (idle-control pace.now pace.timeout c n q t e)

-- once its last DISCONNECT has gone, a parting peer is free
parted-keeps : (p : Peering) → p.state ≡ state.Parting → Spent WordOrNone p.outbox → At InPlace p.outbox.senders → At HandedOver p.inbox.receivers
    → IsReachable (cond (ltb 0 (length p.outbox.control.queued)) p (freed p))
parted-keeps p e a places handed = by a.2
  where
    free : IsReachable (freed p)
    free = record {
      still = stilled (controlling.cleared p.outbox.control) p.outbox.senders refl;
      waits = (refl, refl);
      places = places-cleared p.outbox.senders places;
      handed_over = handed-cleared p.inbox.receivers handed;
    }

    by : WordOrNone p.outbox.control.queued → IsReachable (cond (ltb 0 (length p.outbox.control.queued)) p (freed p))
    by (inl w) = if-peer (ltb 0 (length p.outbox.control.queued)) p (freed p)
        (λ t. kept-in state.Parting p e (record { still = a.0; waits = (a.1, w.0, w.1, w.2); places = places; handed_over = handed })) free
    by (inr none) = subst (λ (xs : List Numbered). IsReachable (cond (ltb 0 (length xs)) p (freed p))) (sym none) free

-- what a state that may have anything to send keeps
plain-keeps : (s : PeerState) (p q : Peering) → q.state ≡ s → ((us vs : List Unsequenced) (c d : Commands) (ss ts : List SendingEnd) → IsStillIn s us c ss → IsStillIn s vs d ts)
    → ((xs ys : List Acknowledgement) (ms ns : List Numbered) → WaitsIn s xs ms → WaitsIn s ys ns) → In s p → At InPlace q.outbox.senders → At HandedOver q.inbox.receivers → IsReachable q
plain-keeps s p q e still waits h places handed = kept-in s q e (record {
  still = still _ _ _ _ _ _ h.still;
  waits = waits _ _ _ _ h.waits;
  places = places;
  handed_over = handed;
})

went-keeps : (p : Peering) (pace : Pace) (s : PeerState) → p.state ≡ s → In s p → IsReachable (gone_on_in s (record p { outbox = (filled pace p.outbox).outbox }))
went-keeps p pace state.AckDisconnect e h = record {
  still = stilled (controlling.cleared (filled pace p.outbox).outbox.control) (filled pace p.outbox).outbox.senders refl;
  waits = (refl, refl);
  places = places-cleared (filled pace p.outbox).outbox.senders (filled-places pace p.outbox h.places);
  handed_over = handed-cleared p.inbox.receivers h.handed_over;
}
went-keeps p pace state.Parting e h =
    let w = h.waits in
    parted-keeps (record p { outbox = (filled pace p.outbox).outbox }) e (filled-last pace p.outbox (h.still, w.0, inl (w.1, w.2, w.3))) (filled-places pace p.outbox h.places) h.handed_over
went-keeps p pace state.Free e h =
    let a = filled-empty pace p.outbox (h.still, h.waits.0, h.waits.1) in
    let q : Peering = record p { outbox = (filled pace p.outbox).outbox } in
    settled-keeps q (kept-in state.Free q e (record { still = a.0; waits = (a.1, a.2); places = filled-places pace p.outbox h.places; handed_over = h.handed_over }))
went-keeps p pace state.Ended e h =
    let a = filled-empty pace p.outbox (h.still, h.waits.0, h.waits.1) in
    let q : Peering = record p { outbox = (filled pace p.outbox).outbox } in
    settled-keeps q (kept-in state.Ended q e (record { still = a.0; waits = (a.1, a.2); places = filled-places pace p.outbox h.places; handed_over = h.handed_over }))
went-keeps p pace s e h =
    let q : Peering = record p { outbox = (filled pace p.outbox).outbox } in
    settled-keeps q (plain-keeps s p q e (λ us vs c d ss ts k. tt) (λ xs ys ms ns k. tt) h (filled-places pace p.outbox h.places) h.handed_over)

pub put-out-keeps : (now : ℕ) (len : Option ℕ) (p q : Peering) (buf : List ℕ) → IsReachable p → PutsOut now len p q buf → IsReachable q
put-out-keeps now len p q buf h out = subst IsReachable (sym out.after) (went-keeps p (pace_of p now) p.state refl h)

-- ---- the clock

cut-off-keeps : (p : Peering) (s : PeerState) → IsReachable p → IsReachable (cut_off_in s p)
cut-off-keeps p state.Answering h = freed-keeps p h
cut-off-keeps p s h = ended-keeps p (silence_ending s) 0 h

marked-keeps : (p : Peering) (tick : Tick) → IsReachable p → IsReachable (record p { outbox = outbox.marked p.outbox tick })
marked-keeps p tick h =
    let o : Outbox = p.outbox in
    record {
      still = still-in p.state o.unsequenced o.unsequenced o.control (controlling.with_marked tick o.control) o.senders (map (marked_sender tick) o.senders) (λ x. record {
        no_unsequenced = x.no_unsequenced;
        no_control_sent = ap (map (controlling.marked tick)) x.no_control_sent;
        no_queued = at-map NoQueued NoQueued (marked_sender tick) o.senders (λ i s q. q) x.no_queued;
        no_sent = at-map NoSent NoSent (marked_sender tick) o.senders (λ i s q. ap (map (sender.marked tick)) q) x.no_sent;
      }) h.still;
      waits = h.waits;
      places = at-map InPlace InPlace (marked_sender tick) o.senders (λ i s e. e) h.places;
      handed_over = h.handed_over;
    }

timeouts-keep : (p : Peering) (now : ℕ) (e : Expiry) → IsReachable p → IsReachable (after_timeouts_by e p now)
timeouts-keep p now End h = cut-off-keeps p p.state h
timeouts-keep p now Resend h = marked-keeps p (tick_of p now) h
timeouts-keep p now No h = h

pub ticked-keeps : (p : Peering) (now : ℕ) → IsReachable p → IsReachable (ticked p now)
ticked-keeps p now h =
    let q : Peering = after_timeouts p now in
    let a : IsReachable q = timeouts-keep p now (expiry_of p now) h in
    let told : Peering = record q { outbox = with_control q.outbox control.Ping } in
    if-peer (is_pinged q now) told q
    (λ t. connected-keeps q.state told refl (and-left (is_connected q.state) (outbox.has_nothing_reliable q.outbox)
    (and-left (is_connected q.state && outbox.has_nothing_reliable q.outbox) (leb q.ping_interval (Rattle.enet_rtt.specs.Clock.elapsed_time now q.heard)) t)) a.places a.handed_over) a

held-back-keeps : (p : Peering) (now : ℕ) → IsReachable p → IsReachable (held_back p now)
held-back-keeps p now h =
    let o : Outbox = p.outbox in
    record {
      still = still-in p.state o.unsequenced o.unsequenced o.control (controlling.with_held_back (tick_of p now) o.control) o.senders o.senders (λ x. record {
        no_unsequenced = x.no_unsequenced;
        no_control_sent = ap (map (controlling.held_back (tick_of p now))) x.no_control_sent;
        no_queued = x.no_queued;
        no_sent = x.no_sent;
      }) h.still;
      waits = h.waits;
      places = h.places;
      handed_over = h.handed_over;
    }

pub moved-keeps : (short : Bool) (p : Peering) (now : ℕ) → IsReachable p → IsReachable (moved short p now)
moved-keeps short p now h = if-peer (is_held_back short p now) (held_back p now) (ticked p now) (λ t. held-back-keeps p now h) (ticked-keeps p now h)

-- ---- the user's calls

left-by : (how : Leave) (p q : Peering) (info : ℕ) → IsReachable p → left how p info ≡ Some q → IsReachable q
left-by AtOnce p q info h e = (let same : freed p ≡ q = cc in subst IsReachable same (freed-keeps p h))
left-by TellsOnce p q info h e = (let same : parting p info ≡ q = cc in subst IsReachable same (parting-keeps p info h))
left-by Asks p q info h e = (let same : disconnecting p info ≡ q = cc in subst IsReachable same (disconnecting-keeps p info h))
left-by AsksLater p q info h e =
    let waiting : Peering = record p { state = state.DisconnectLater; info = info } in
    let same : settled waiting ≡ q = cc in
    subst IsReachable same (settled-keeps waiting (record { still = tt; waits = tt; places = h.places; handed_over = h.handed_over }))
left-by Refused p q info h e = absurd (let none : None ≡ Some q = e in cc)

sequenced-places : (p : Peering) (channel : ℕ) (q : Packet) (o : Option SendingEnd) → slice_get p.outbox.senders channel ≡ o → At InPlace p.outbox.senders
    → At InPlace (with_sequenced p.outbox p.terms.mtu channel q o).senders
sequenced-places p channel q None there h = h
sequenced-places p channel q (Some s) there h = at-set InPlace p.outbox.senders channel (record s { sender = sender.submitted wire p.terms.mtu s.sender q }) (h channel s there) h

submitted-places : (p : Peering) (channel : ℕ) (q : Packet) → At InPlace p.outbox.senders → At InPlace (submitted p channel q).outbox.senders
submitted-places p channel q h = by (is_unsequenced p.terms.mtu q)
  where
    by : (b : Bool) → At InPlace (cond b (with_unsequenced p.outbox channel q) (with_sequenced p.outbox p.terms.mtu channel q (slice_get p.outbox.senders channel))).senders
    by true = h
    by false = sequenced-places p channel q (slice_get p.outbox.senders channel) refl h

not-refused : (s : PeerState) (rest : Option Refusal) → cond (not (is_connected s)) (Some Rattle.enet_codec.specs.declared.refusal.Refusal.TheVariants.NotConnected) rest ≡ None → is_connected s ≡ true
not-refused state.Connected rest e = refl
not-refused s rest e = absurd cc

pub submitted-keeps : (r : Result (Unit {0}) (Refusal × List ℕ)) (p q : Peering) (channel : ℕ) (packet : Packet) → IsReachable p → Submits r p q channel packet → IsReachable q
submitted-keeps (Ok done) p q channel packet h s =
    subst IsReachable (sym s.1) (connected-keeps p.state (submitted p channel packet) refl (not-refused p.state _ s.0) (submitted-places p channel packet h.places) h.handed_over)
submitted-keeps (Err e) p q channel packet h s = subst IsReachable (sym s.1) h

pub left-keeps : (r : Result (Unit {0}) Refusal) (how : Leave) (p q : Peering) (info : ℕ) → IsReachable p → Leaves r (left how p info) p q → IsReachable q
left-keeps (Ok done) how p q info h l = left-by how p q info h l
left-keeps (Err why) how p q info h l = subst IsReachable (sym l.2) h

some-after : (x t : Taken) → Some x ≡ Some t → IsReachable x.after → IsReachable t.after
some-after x t e h = (let same : x ≡ t = cc in subst (λ (y : Taken). IsReachable y.after) same h)

over-in : (s : PeerState) (p : Peering) → IsReachable p → p.state ≡ s → (t : Taken) → last_event s p ≡ Some t → IsReachable t.after
over-in state.Ended p h e t is =
    let k = seen-in state.Ended p e h in
    some-after (record { event = event.Disconnect p.info; after = record p { state = state.Free } }) t is (record { still = k.still; waits = k.waits; places = k.places; handed_over = k.handed_over })
over-in s p h e t is = absurd cc

packet-in : (p : Peering) (xs : List codec.Packet) → IsReachable p → (t : Taken) → packet_event p xs ≡ Some t → IsReachable t.after
packet-in p [] h t is = over-in p.state p h refl t is
packet-in p (x ∷ rest) h t is = some-after (record { event = event.Receive x; after = record p { inbox = record p.inbox { untaken = rest } } }) t is h

event-in : (p : Peering) (g : Option ℕ) → IsReachable p → (t : Taken) → event_after p g ≡ Some t → IsReachable t.after
event-in p None h t is = packet-in p p.inbox.untaken h t is
event-in p (Some info) h t is = some-after (record { event = event.Connect info; after = record p { greeting = None } }) t is h

pub taken-keeps : (e : Option PeerEvent) (p q : Peering) → IsReachable p → Takes e (next_event p) p q → IsReachable q
taken-keeps None p q h t = subst IsReachable (sym t.1) h
taken-keeps (Some e) p q h t = event-in p p.greeting h (record { event = e; after = q }) t

pub bandwidth-keeps : (p : Peering) (incoming outgoing : ℕ) → IsReachable p → IsReachable (with_bandwidth p incoming outgoing)
bandwidth-keeps p incoming outgoing h = by (is_connected p.state) refl
  where
    by : (b : Bool) → is_connected p.state ≡ b
        → IsReachable (record p { limits = record p.limits { incoming = incoming; outgoing = outgoing }; outbox = cond b (with_control p.outbox (control.BandwidthLimit incoming outgoing)) p.outbox })
    by true t = connected-keeps p.state (record p { limits = record p.limits { incoming = incoming; outgoing = outgoing }; outbox = with_control p.outbox (control.BandwidthLimit incoming outgoing) }) refl t h.places h.handed_over
    by false t = h

pub throttle-keeps : (p : Peering) (interval acceleration deceleration : ℕ) → IsReachable p → is_connected p.state ≡ true → IsReachable (with_throttle p interval acceleration deceleration)
throttle-keeps p interval acceleration deceleration h t = connected-keeps p.state (with_throttle p interval acceleration deceleration) refl t h.places h.handed_over

-- ---- how a peer begins

new-places : (a n i : ℕ) (s : SendingEnd) → slice_get (map new_end (range_with_len a n)) i ≡ Some s → s.channel ≡ a + i
new-places a zero i s e = cc
new-places a (suc n) zero s e =
    let same : new_end a ≡ s = (let f : Some (new_end a) ≡ Some s = e in cc) in
    sym (ap (λ (x : SendingEnd). x.channel) same) ∙ (let z : a ≡ a + 0 = omega arith in z)
new-places a (suc n) (suc i) s e = new-places (a + 1) n i s e ∙ (let z : a + 1 + i ≡ a + suc i = omega arith in z)

places-at-first : (n : ℕ) → At InPlace (map new_end (range_with_len 0 n))
places-at-first n i s e = new-places 0 n i s e ∙ (let z : 0 + i ≡ i = omega arith in z)

handed-at-first : (n most : ℕ) → At HandedOver (map (λ channel. receiving.new_end channel most) (range_with_len 0 n))
handed-at-first n most = at-all HandedOver (λ (channel : ℕ). receiving.new_end channel most) (range_with_len 0 n) (λ i x. refl)

pub joined-reached : (now : ℕ) (terms : Terms) (limits : Limits) → IsReachable (joined now terms limits)
joined-reached now terms limits = record { still = tt; waits = tt; places = places-at-first terms.channels; handed_over = handed-at-first terms.channels limits.max_packet }

pub connecting-reached : (now offset : ℕ) (offer : Offer) (limits : Limits) → IsReachable (connecting now offset offer limits)
connecting-reached now offset offer limits =
    record { still = tt; waits = tt; places = places-at-first (asked offer).channels; handed_over = handed-at-first (asked offer).channels limits.max_packet }

pub answering-reached : (now : ℕ) (offsets : Offsets) (offer : Offer) (server : Server) (limits : Limits) → IsReachable (answering now offsets offer server limits)
answering-reached now offsets offer server limits =
    record { still = tt; waits = tt; places = places-at-first (granted offer server).channels; handed_over = handed-at-first (granted offer server).channels limits.max_packet }
