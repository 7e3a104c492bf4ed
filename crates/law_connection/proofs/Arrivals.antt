-- Whatever command of the other end's log comes to a peer, all links are kept.
use Rattle.std.proofs.Common.{◌≡◌, ℕ, zero, suc, ◌<◌, ◌≤◌, Bool, true, false, cond, ltb, leb, ◌&&◌, not, List, [], ◌∷◌, map, take, refl, sym, ap, subst, ◌∙◌, inl, inr, ◌⊎◌, Option, Some, None, Result, Ok, Err, length}
use Rattle.std.specs.Prelude.{is_some}
use Rattle.std.specs.List.{slice_get}
use Rattle.enet_codec.specs.declared.command.Head.{Head}
use Rattle.enet_codec.specs.declared.command.Verify.{Verify}
use Rattle.enet_codec.specs.declared.stop.Stop.{Stop}
use Rattle.enet_codec.specs.declared.stop.Stop.TheVariants as stop
use Rattle.enet_codec.specs.Message.{Message, Body, acknowledge, connect, verify_connect, disconnect, ping, send_reliable, send_unreliable, send_fragment, send_unsequenced, bandwidth_limit, throttle_configure, send_unreliable_fragment}
use Rattle.enet_connect.specs.declared.terms.Terms.{Terms}
use Rattle.enet_connect.specs.Verification.{confirmed}
use Rattle.enet_fragment.specs.declared.data.DataCommand.{DataCommand}
use Rattle.enet_fragment.specs.DataCommand.{data_of}
use Rattle.enet_receiver.specs.Receiver.{Receiver, nothing_received}
use Rattle.enet_receiver.specs.Foresight.{ReceivingEnd}
use Rattle.enet_inbox.specs.Inbox.{Inbox, is_full}
use Rattle.enet_unsequenced.specs.Groups.{dispatches}
use Rattle.enet_inbox.specs.DataEffect.{DataEffect, handled, stopped as refused, unsequenced, unsequenced_taken, passed_over_on, sequenced_on, passed_over, met, arrival}
use Rattle.enet_sender.specs.Sender.{Sender, nothing_sent}
use Rattle.enet_sender.specs.Due.{SendingEnd}
use Rattle.enet_outbox.specs.Outbox.{cleared_sender}
use Rattle.enet_peer.specs.Peering.{Peering}
use Rattle.enet_peer.specs.declared.parts.Ending.TheVariants.{BadAnswer}
use Rattle.enet_peer.specs.declared.parts.PeerState.{PeerState}
use Rattle.enet_peer.specs.declared.parts.PeerState.TheVariants as state
use Rattle.enet_peer.specs.Endings.{ended, is_later}
use Rattle.enet_peer.specs.CommandEffect.{Outcome, is_allowed, is_of_handshake, obeyed, unless_refused, by_body, by_answer, by_arrival, on_data, stopped, on_acknowledge, welcomed, on_verify_in, on_disconnect_in, on_bandwidth, on_throttle}
use Rattle.enet_peer.proofs.Obeying.{unless-holds, unwelcomed-holds}
use Rattle.law_connection.specs.Link.{is_late}
use Rattle.law_connection.specs.LinkSteps.{Has, DropAnswers}
use Rattle.law_connection.specs.WireLink.{WireLink, drops_answers}
use Rattle.law_connection.specs.Connection.{Put, End, sent_on}
use Rattle.law_connection.specs.Steps.{with_peer}
use Rattle.law_connection.specs.Linked.{sends_in, dispatches_in, sender_in, receiver_in, dispatched_on, IsClean}
use Rattle.law_connection.specs.Invariant.{AreInPlace, IsTidy, is_young}
use Rattle.law_connection.proofs.Runs.{less-or-not}
use Rattle.law_connection.proofs.Relinking.{relinks, stays, sending-of, receiving-of, sending-by}
use Rattle.law_connection.proofs.GivingWay.{met-flat, both-met}
use Rattle.law_connection.proofs.Commands.{Holds, holds-quiet, holds-stops, outcome-if, holds-answered, holds-acknowledged, holds-disconnect, holds-inbox, stops-ended, quiet-out}
use Rattle.law_connection.proofs.SequencedData.{Logged, holds-sequenced, holds-passed}

abbrev made : Head → ℕ → Body → Put
made h sent_then body = record { message = record { head = h; body = body }; sent_then = sent_then }

-- a state that allows data dispatches it, or is to disconnect later
data-state : (s : PeerState) (body : Body) → is_of_handshake body ≡ false → is_allowed s body ≡ true → ((is_later s ≡ false) × (dispatches_in s ≡ true)) ⊎ ((is_later s ≡ true) × (dispatches_in s ≡ false))
data-state state.Connected body n e = inl (refl, refl)
data-state state.DisconnectLater body n e = inr (refl, refl)
data-state state.Connecting body n e = absurd (let x : true ≡ false = sym e ∙ n in cc)
data-state state.Answering body n e = absurd (let x : true ≡ false = sym e ∙ n in cc)
data-state state.Disconnecting body n e = absurd (let x : true ≡ false = sym e ∙ n in cc)
data-state state.AckDisconnect body n e = absurd (let x : true ≡ false = sym e ∙ n in cc)
data-state state.Free body n e = absurd (let x : false ≡ true = e in cc)
data-state state.Ended body n e = absurd (let x : false ≡ true = e in cc)
data-state state.Parting body n e = absurd (let x : false ≡ true = e in cc)

-- sequenced data, by the state
data-by : (own other : End) (p : Peering) (put : Put) (c : DataCommand) (sent : Option ℕ) → Logged other put c → IsTidy own.submitted p
    → ((is_later p.state ≡ false) × (dispatches_in p.state ≡ true)) ⊎ ((is_later p.state ≡ true) × (dispatches_in p.state ≡ false))
    → Holds own other p → Holds own other (cond (is_later p.state) (by_answer p put.message sent (passed_over_on p.inbox c (slice_get p.inbox.receivers put.message.head.channel)))
    (by_arrival p put.message sent (sequenced_on (met p.inbox put.message) put.message.head.channel c (slice_get (met p.inbox put.message).receivers put.message.head.channel)))).after
data-by own other p put c sent logged tidy at h = by at
  where
    b : Inbox
    b = met p.inbox put.message

    later : Outcome
    later = by_answer p put.message sent (passed_over_on p.inbox c (slice_get p.inbox.receivers put.message.head.channel))

    takes : Outcome
    takes = by_arrival p put.message sent (sequenced_on b put.message.head.channel c (slice_get b.receivers put.message.head.channel))

    by : ((is_later p.state ≡ false) × (dispatches_in p.state ≡ true)) ⊎ ((is_later p.state ≡ true) × (dispatches_in p.state ≡ false)) → Holds own other (cond (is_later p.state) later takes).after
    by (inl s) = subst (λ t. Holds own other (cond t later takes).after) (sym s.0)
        (holds-sequenced own other (record p { inbox = b }) put c sent s.1 logged (met-flat p.inbox put.message tidy.receivers) (both-met own other p put.message h))
    by (inr s) = subst (λ t. Holds own other (cond t later takes).after) (sym s.0) (holds-passed own other p put c sent s.1 logged h)

logged-of : (other : End) (put : Put) (c : DataCommand) → IsClean other → Has other.log put → data_of put.message ≡ Some c → put.message.head.number ≡ c.number
    → (put.message.head.channel < 255 → is_late (sent_on put.message.head.channel other) put.sent_then c.number ≡ false) → Logged other put c
logged-of other put c clean there is number late = record {
  logged = there;
  is = is;
  in_time = late (clean.low put c there is);
  number = number;
  asks = λ t. (let a = clean.asks put there t (clean.low put c there is) in
      let both : Some a.0 ≡ Some c = sym a.1 ∙ is in
      let same : a.0 ≡ c = cc in
      sym (ap (λ (x : DataCommand). x.reliable) same) ∙ a.2);
  low = clean.low put c there is;
}

-- what is no data and asks is of a channel from 255 on
far-of : (other : End) (put : Put) → IsClean other → Has other.log put → data_of put.message ≡ None → put.message.head.acknowledge ≡ true → 255 ≤ put.message.head.channel
far-of other put clean there none t = elim (less-or-not put.message.head.channel 255) [
  | inl low ↦ absurd (let a = clean.asks put there t low in let both : Some a.0 ≡ None = sym a.1 ∙ none in cc)
  | inr far ↦ far
]

-- an unsequenced packet
abbrev Taken : Inbox → DataEffect → Type 0
Taken b a = (a.after ≡ b) ⊎ ((channel group : ℕ) × (payload : List ℕ) × (a.after ≡ unsequenced_taken b channel group payload))

taken-if : (b : Inbox) (t : Bool) (x y : DataEffect) → Taken b x → Taken b y → Taken b (cond t x y)
taken-if b true x y h k = h
taken-if b false x y h k = k

unsequenced-taken : (b : Inbox) (channel group : ℕ) (payload : List ℕ) → Taken b (unsequenced b channel group payload)
unsequenced-taken b channel group payload =
    let took : DataEffect = handled (unsequenced_taken b channel group payload) true in
    let a3 : DataEffect = cond (is_full b) (refused b stop.Waiting) took in
    let a2 : DataEffect = cond (not (dispatches b.seen group)) (handled b true) a3 in
    let a1 : DataEffect = cond (ltb b.max_packet (length payload)) (refused b stop.BadFragment) a2 in
    taken-if b (leb (length b.receivers) channel) (refused b stop.BadChannel) a1 (inl refl)
    (taken-if b (ltb b.max_packet (length payload)) (refused b stop.BadFragment) a2 (inl refl)
    (taken-if b (not (dispatches b.seen group)) (handled b true) a3 (inl refl)
    (taken-if b (is_full b) (refused b stop.Waiting) took (inl refl) (inr (channel, group, payload, refl)))))

by-result : (own other : End) (p : Peering) (m : Message) (sent : Option ℕ) (r : Result Bool Stop) → (m.head.acknowledge ≡ true → 255 ≤ m.head.channel) → Holds own other p → Holds own other (by_answer p m sent r).after
by-result own other p m sent (Err why) far h = h
by-result own other p m sent (Ok may) far h = holds-answered own other p m sent may far h

holds-unsequenced : (own other : End) (p : Peering) (h : Head) (group : ℕ) (payload : List ℕ) (sent : Option ℕ) → (h.acknowledge ≡ true → 255 ≤ h.channel) → Holds own other p
    → Holds own other (on_data p (record { head = h; body = send_unsequenced group payload }) sent).after
holds-unsequenced own other p h group payload sent far k =
    let m : Message = record { head = h; body = send_unsequenced group payload } in
    let b : Inbox = met p.inbox m in
    let a : DataEffect = arrival p.inbox m in
    outcome-if own other (is_later p.state) (by_answer p m sent (passed_over p.inbox m)) (by_arrival p m sent a) (λ t. by-result own other p m sent (passed_over p.inbox m) far k)
    (by-result own other (record p { inbox = a.after }) m sent a.answer far (holds-inbox own other (record p { inbox = b }) a (unsequenced-taken b h.channel group payload) (both-met own other p m k)))

-- the client's connection stands

pub get-take : {X : Type 0} (n : ℕ) (xs : List X) (i : ℕ) → (slice_get (take n xs) i ≡ slice_get xs i) ⊎ (slice_get (take n xs) i ≡ None)
get-take zero xs i = inr refl
get-take (suc n) [] i = inl refl
get-take (suc n) (x ∷ xs) zero = inl refl
get-take (suc n) (x ∷ xs) (suc i) = get-take n xs i

cleared-nothing : (senders : List SendingEnd) (i : ℕ) → sender_in (slice_get senders i) ≡ nothing_sent → sender_in (slice_get (map cleared_sender senders) i) ≡ nothing_sent
cleared-nothing [] i e = refl
cleared-nothing (s ∷ senders) zero e = ap (λ (x : Sender). record x { queued = []; sent = [] }) e
cleared-nothing (s ∷ senders) (suc i) e = cleared-nothing senders i e

pub narrowed-senders : (n : ℕ) (senders : List SendingEnd) (i : ℕ) → sender_in (slice_get senders i) ≡ nothing_sent → sender_in (slice_get (take n (map cleared_sender senders)) i) ≡ nothing_sent
narrowed-senders n senders i e = elim (get-take n (map cleared_sender senders) i) [ inl same ↦ ap sender_in same ∙ cleared-nothing senders i e | inr none ↦ ap sender_in none ]

pub narrowed-receivers : (n : ℕ) (receivers : List ReceivingEnd) (i : ℕ) → receiver_in (slice_get receivers i) ≡ nothing_received → receiver_in (slice_get (take n receivers) i) ≡ nothing_received
narrowed-receivers n receivers i e = elim (get-take n receivers i) [ inl same ↦ ap receiver_in same ∙ e | inr none ↦ ap receiver_in none ]

get-cleared : (senders : List SendingEnd) (i : ℕ) (s : SendingEnd) → slice_get (map cleared_sender senders) i ≡ Some s → (t : SendingEnd) × (slice_get senders i ≡ Some t) × (s.channel ≡ t.channel)
get-cleared [] i s e = cc
get-cleared (x ∷ senders) zero s e = (x, refl, (let same : cleared_sender x ≡ s = (let f : Some (cleared_sender x) ≡ Some s = e in cc) in sym (ap (λ (y : SendingEnd). y.channel) same)))
get-cleared (x ∷ senders) (suc i) s e = get-cleared senders i s e

pub narrowed-places : (n : ℕ) (senders : List SendingEnd) → AreInPlace senders → AreInPlace (take n (map cleared_sender senders))
narrowed-places n senders places i s e = elim (get-take n (map cleared_sender senders) i) [
  | inl same ↦ (let g = get-cleared senders i s (sym same ∙ e) in g.2 ∙ places i g.0 g.1)
  | inr none ↦ absurd (let x : None ≡ Some s = sym none ∙ e in cc)
]

holds-welcomed : (own other : End) (p : Peering) (v : Verify) (o : Option Terms) → p.state ≡ state.Connecting → IsTidy own.submitted p → Holds own other p → Holds own other (welcomed p v o)
holds-welcomed own other p v None e tidy h = unwelcomed-holds (Holds own other) p v h (holds-stops own other p (ended p BadAnswer 0) (stops-ended p BadAnswer 0) h)
holds-welcomed own other p v (Some terms) e tidy h =
    let q : Peering = welcomed p v (Some terms) in
    let y = tidy.young (ap is_young e) in
    record {
      out = λ channel few. (let k = h.out channel few in let s = sending-of (with_peer own p) p channel k.link refl k.sending in
          relinks (with_peer own p) other (with_peer own q) other channel k k.link (stays k.mtu k.link) refl refl refl (inl y.0) (
            (λ t. let r = s.0 (ap sends_in e) in (r.0, r.1 ∙ y.1 channel ∙ sym (narrowed-senders terms.channels p.outbox.senders channel (y.1 channel)))),
            (λ t. absurd (let x : true ≡ false = t in cc)),
            (λ t. absurd (let x : true ≡ false = t in cc)),
            (λ x there. narrowed-places terms.channels p.outbox.senders tidy.places channel x there),
          ) k.receiving);
      back = λ channel few. (let k = h.back channel few in let r = receiving-of (with_peer own p) p channel k.link refl k.receiving in
          let w : WireLink = drops_answers k.link in
          relinks other (with_peer own p) other (with_peer own q) channel k w (record { events = DropAnswers ∷ []; runs = (w, refl, refl); same = refl }) refl refl refl k.agreed
          (sending-by other.peer channel k.link w refl refl k.sending) (
            sym (ap dispatches_in e) ∙ r.0,
            (λ t. r.1 t ∙ ap (λ (x : Receiver). record x { dispatched = dispatched_on channel own p }) (y.2 channel ∙ sym (narrowed-receivers terms.channels p.inbox.receivers channel (y.2 channel)))),
            r.2,
            refl,
          ));
    }

holds-verified : (own other : End) (p : Peering) (v : Verify) (s : PeerState) → p.state ≡ s → IsTidy own.submitted p → Holds own other p → Holds own other (on_verify_in s p v)
holds-verified own other p v state.Connecting e tidy h = holds-welcomed own other p v (confirmed p.offer v) e tidy h
holds-verified own other p v s e tidy h = h

-- where it is allowed, and not refused
coming-if : (own other : End) (p : Peering) (now : ℕ) (sent : Option ℕ) (m : Message) → (is_allowed p.state m.body ≡ true → Holds own other (by_body p now sent m m.body).after) → Holds own other p
    → Holds own other (cond (is_allowed p.state m.body) (unless_refused p m (by_body p now sent m m.body)) (stopped p stop.NotConnected)).after
coming-if own other p now sent m f k =
    outcome-if own other (is_allowed p.state m.body) (unless_refused p m (by_body p now sent m m.body)) (stopped p stop.NotConnected)
    (λ t. unless-holds (Holds own other) p m (by_body p now sent m m.body) k (f t)) k

-- whatever comes
pub holds-coming : (own other : End) (p : Peering) (h : Head) (sent_then now : ℕ) (sent : Option ℕ) (body : Body) → Has other.log (made h sent_then body) → IsClean other → IsTidy own.submitted p
    → (h.channel < 255 → (c : DataCommand) → data_of (record { head = h; body = body }) ≡ Some c → is_late (sent_on h.channel other) sent_then c.number ≡ false)
    → (h.channel < 255 → (number time : ℕ) → body ≡ acknowledge number time → is_late (sent_on h.channel own) sent_then number ≡ false)
    → Holds own other p → Holds own other (obeyed p now sent (record { head = h; body = body })).after
holds-coming own other p h sent_then now sent (connect offer) there clean tidy late late' k = k
holds-coming own other p h sent_then now sent (acknowledge number time) there clean tidy late late' k =
    let m : Message = record { head = h; body = acknowledge number time } in
    coming-if own other p now sent m
    (λ t. holds-answered own other (on_acknowledge p now h.channel number time) m sent true (far-of other (made h sent_then m.body) clean there refl)
    (holds-acknowledged own other p (made h sent_then m.body) now number time there refl (λ few. late' few number time refl) k)) k
holds-coming own other p h sent_then now sent (verify_connect v) there clean tidy late late' k =
    let m : Message = record { head = h; body = verify_connect v } in
    coming-if own other p now sent m
    (λ t. holds-answered own other (on_verify_in p.state p v) m sent true (far-of other (made h sent_then m.body) clean there refl) (holds-verified own other p v p.state refl tidy k)) k
holds-coming own other p h sent_then now sent (disconnect info) there clean tidy late late' k =
    let m : Message = record { head = h; body = disconnect info } in
    coming-if own other p now sent m
    (λ t. holds-answered own other (on_disconnect_in p.state p (m.head.acknowledge && is_some sent) info) m sent true (far-of other (made h sent_then m.body) clean there refl) (holds-disconnect own other p p.state (m.head.acknowledge && is_some sent) info k)) k
holds-coming own other p h sent_then now sent ping there clean tidy late late' k =
    let m : Message = record { head = h; body = ping } in
    coming-if own other p now sent m
    (λ t. holds-answered own other p m sent true (far-of other (made h sent_then m.body) clean there refl) k) k
holds-coming own other p h sent_then now sent (bandwidth_limit incoming outgoing) there clean tidy late late' k =
    let m : Message = record { head = h; body = bandwidth_limit incoming outgoing } in
    let q : Peering = on_bandwidth p incoming in
    coming-if own other p now sent m
    (λ t. holds-answered own other q m sent true (far-of other (made h sent_then m.body) clean there refl)
    (holds-quiet own other p q (quiet-out p q refl refl refl) (record { dispatches = refl; receivers = refl; untaken = λ i few. refl; numbers = λ i few. refl }) k)) k
holds-coming own other p h sent_then now sent (throttle_configure interval acceleration deceleration) there clean tidy late late' k =
    let m : Message = record { head = h; body = throttle_configure interval acceleration deceleration } in
    let q : Peering = on_throttle p interval acceleration deceleration in
    coming-if own other p now sent m
    (λ t. holds-answered own other q m sent true (far-of other (made h sent_then m.body) clean there refl)
    (holds-quiet own other p q (quiet-out p q refl refl refl) (record { dispatches = refl; receivers = refl; untaken = λ i few. refl; numbers = λ i few. refl }) k)) k
holds-coming own other p h sent_then now sent (send_unsequenced group payload) there clean tidy late late' k =
    let m : Message = record { head = h; body = send_unsequenced group payload } in
    coming-if own other p now sent m
    (λ t. holds-unsequenced own other p h group payload sent (far-of other (made h sent_then m.body) clean there refl) k) k
holds-coming own other p h sent_then now sent (send_reliable payload) there clean tidy late late' k =
    let m : Message = record { head = h; body = send_reliable payload } in
    let c : DataCommand = record { reliable = true; number = h.number; unreliable = 0; fragment = None; body = payload } in
    coming-if own other p now sent m
    (λ t. data-by own other p (made h sent_then m.body) c sent (logged-of other (made h sent_then m.body) c clean there refl refl (λ few. late few c refl)) tidy (data-state p.state m.body refl t) k) k
holds-coming own other p h sent_then now sent (send_unreliable n payload) there clean tidy late late' k =
    let m : Message = record { head = h; body = send_unreliable n payload } in
    let c : DataCommand = record { reliable = false; number = h.number; unreliable = n; fragment = None; body = payload } in
    coming-if own other p now sent m
    (λ t. data-by own other p (made h sent_then m.body) c sent (logged-of other (made h sent_then m.body) c clean there refl refl (λ few. late few c refl)) tidy (data-state p.state m.body refl t) k) k
holds-coming own other p h sent_then now sent (send_fragment f payload) there clean tidy late late' k =
    let m : Message = record { head = h; body = send_fragment f payload } in
    let c : DataCommand = record { reliable = true; number = h.number; unreliable = 0; fragment = Some f; body = payload } in
    coming-if own other p now sent m
    (λ t. data-by own other p (made h sent_then m.body) c sent (logged-of other (made h sent_then m.body) c clean there refl refl (λ few. late few c refl)) tidy (data-state p.state m.body refl t) k) k
holds-coming own other p h sent_then now sent (send_unreliable_fragment f payload) there clean tidy late late' k =
    let m : Message = record { head = h; body = send_unreliable_fragment f payload } in
    let c : DataCommand = record { reliable = false; number = h.number; unreliable = f.start; fragment = Some f; body = payload } in
    coming-if own other p now sent m
    (λ t. data-by own other p (made h sent_then m.body) c sent (logged-of other (made h sent_then m.body) c clean there refl refl (λ few. late few c refl)) tidy (data-state p.state m.body refl t) k) k
