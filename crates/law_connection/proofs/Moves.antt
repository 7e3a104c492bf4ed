-- The single changes of a peer that move links: an acknowledgement, a tick's marks, the end of dispatching, a packet taken.
use Rattle.std.proofs.Common.{◌≡◌, ◌≢◌, ℕ, zero, suc, ◌<◌, Bool, true, false, cond, ◌==◌, List, [], ◌∷◌, ◌++◌, map, refl, sym, ap, subst, ◌∙◌, inl, inr, arith, Option, Some, None, slice_set, append_assoc}
use Rattle.std.proofs.lemmas.Bool.Decides.{nat_tests}
use Rattle.std.proofs.lemmas.List.{append-nil}
use Rattle.std.specs.List.{slice_get}
use Rattle.enet_codec.specs.declared.packet.Packet.{Packet}
use Rattle.enet_codec.specs.Message.{acknowledge}
use Rattle.enet_rtt.specs.declared.transmission.Tick.{Tick}
use Rattle.enet_packets.specs.declared.incoming_packet.Dispatched.{Dispatched}
use Rattle.enet_sender.specs.declared.sent.Sent.{Sent}
use Rattle.enet_sender.specs.Sender.{Sender, with_marked, marked}
use Rattle.enet_sender.specs.Sender as sender
use Rattle.enet_sender.specs.Due.{SendingEnd}
use Rattle.enet_outbox.specs.Outbox.{Outbox, marked_sender, after_acknowledgement, acknowledged_on}
use Rattle.enet_outbox.specs.Outbox as outbox
use Rattle.enet_peer.specs.Peering.{Peering}
use Rattle.enet_peer.specs.declared.parts.PeerEvent.{PeerEvent}
use Rattle.enet_peer.specs.declared.parts.PeerEvent.TheVariants as told
use Rattle.enet_peer.specs.declared.parts.PeerState.TheVariants as state
use Rattle.enet_senders.specs.Controlling as controlling
use Rattle.enet_receiver.specs.Foresight.{ReceivingEnd}
use Rattle.law_connection.specs.Link.{Answer, is_late}
use Rattle.law_connection.specs.WireLink.{WireLink, answered, marks, stops_receiving}
use Rattle.law_connection.specs.LinkSteps.{Has, Acknowledge, Mark, StopReceiving}
use Rattle.law_connection.specs.Connection.{Put, End, sent_on, packets_of, in_sequence}
use Rattle.law_connection.specs.Steps.{with_peer}
use Rattle.law_connection.specs.Linked.{IsLinked, sends_in, dispatches_in, sender_in, receiver_in, numbers_on, dispatched_on}
use Rattle.law_connection.specs.Invariant.{AreLinked}
use Rattle.law_connection.proofs.Runs.{get-set, get-set-other, either}
use Rattle.law_connection.proofs.InboxMoves.{in_sequence-append}
use Rattle.law_connection.proofs.Relinking.{Moved, stays, relinks, agreed-still, sending-of, receiving-of, sending-by, receiving-by, back-quiet}

-- a sender moves with its link, in the states that send
out-sender : (own other : End) (p q : Peering) (channel : ℕ) (k : IsLinked own other channel) (w : WireLink) → own.peer ≡ Some p → sends_in q.state ≡ sends_in p.state → q.terms.mtu ≡ p.terms.mtu
    → (sends_in p.state ≡ true → Moved k.mtu k.link w × (w.is_sending ≡ true) × (w.outgoing ≡ sender_in (slice_get q.outbox.senders channel)) × (w.is_open ≡ k.link.is_open) × (w.incoming ≡ k.link.incoming) × (w.answers ≡ k.link.answers))
    → (sends_in p.state ≡ false → ((sender_in (slice_get q.outbox.senders channel)).queued ≡ []) × ((sender_in (slice_get q.outbox.senders channel)).sent ≡ []))
    → ((s : SendingEnd) → slice_get q.outbox.senders channel ≡ Some s → s.channel ≡ channel)
    → IsLinked (with_peer own q) other channel
out-sender own other p q channel k w is same mtu moves idle places = elim (either (sends_in p.state)) [
  | inl t ↦ (let m = moves t in
      relinks own other (with_peer own q) other channel k w m.0 refl refl refl (agreed-still own p q k.mtu is mtu k.agreed)
      ((λ h. (m.1, m.2)), (λ h. absurd (let e : true ≡ false = sym t ∙ sym same ∙ h in cc)), (λ h. absurd (let e : true ≡ false = sym t ∙ sym same ∙ h in cc)), places)
      (receiving-by other other.peer channel k.link w m.3 m.4 m.5 k.receiving))
  | inr f ↦ (let n = idle f in
      relinks own other (with_peer own q) other channel k k.link (stays k.mtu k.link) refl refl refl (agreed-still own p q k.mtu is mtu k.agreed)
      ((λ h. absurd (let e : true ≡ false = sym h ∙ same ∙ f in cc)), (λ h. n.0), (λ h. n.1), places) k.receiving)
]

-- an acknowledgement comes

none-left : (s : Sender) (number : ℕ) → s.sent ≡ [] → (sender.after_acknowledgement s number).sent ≡ []
none-left s number e = ap (λ (l : List Sent). sender.without_place l (sender.position_of number l)) e

-- the senders after it
abbrev pub senders-after : Outbox → ℕ → ℕ → List SendingEnd
senders-after o j number = (after_acknowledgement o j number).senders

after-own : (o : Outbox) (channel number : ℕ) → channel < 255 → sender_in (slice_get (senders-after o channel number) channel) ≡ sender.after_acknowledgement (sender_in (slice_get o.senders channel)) number
after-own o channel number few = control ∙ by (slice_get o.senders channel) refl
  where
    control : sender_in (slice_get (senders-after o channel number) channel) ≡ sender_in (slice_get (acknowledged_on o channel number (slice_get o.senders channel)).senders channel)
    control = let f : (channel == 0xFF) ≡ false = grind (arith, nat_tests) in
        ap (λ b. sender_in (slice_get (cond b (record o { control = controlling.after_acknowledgement o.control number }) (acknowledged_on o channel number (slice_get o.senders channel))).senders channel)) f

    by : (x : Option SendingEnd) → slice_get o.senders channel ≡ x → sender_in (slice_get (acknowledged_on o channel number x).senders channel) ≡ sender.after_acknowledgement (sender_in (slice_get o.senders channel)) number
    by None e = ap sender_in e ∙ sym (ap (λ y. sender.after_acknowledgement (sender_in y) number) e)
    by (Some s) e = ap sender_in (get-set o.senders channel s (record s { sender = sender.after_acknowledgement s.sender number }) e) ∙ sym (ap (λ y. sender.after_acknowledgement (sender_in y) number) e)

after-other : (o : Outbox) (j channel number : ℕ) → j ≢ channel → slice_get (senders-after o j number) channel ≡ slice_get o.senders channel
after-other o j channel number n = by-control (j == 0xFF)
  where
    by : (x : Option SendingEnd) → slice_get (acknowledged_on o j number x).senders channel ≡ slice_get o.senders channel
    by None = refl
    by (Some s) = get-set-other o.senders j channel (record s { sender = sender.after_acknowledgement s.sender number }) n

    by-control : (b : Bool) → slice_get (cond b (record o { control = controlling.after_acknowledgement o.control number }) (acknowledged_on o j number (slice_get o.senders j))).senders channel ≡ slice_get o.senders channel
    by-control true = refl
    by-control false = by (slice_get o.senders j)

pub after-places : (o : Outbox) (j number channel : ℕ) → ((s : SendingEnd) → slice_get o.senders channel ≡ Some s → s.channel ≡ channel) → (s : SendingEnd) → slice_get (senders-after o j number) channel ≡ Some s → s.channel ≡ channel
after-places o j number channel places s e = by-control (j == 0xFF) e
  where
    at : (x : Option SendingEnd) → slice_get o.senders j ≡ x → slice_get (acknowledged_on o j number x).senders channel ≡ Some s → s.channel ≡ channel
    at None there h = places s h
    at (Some t) there h = elim (either (j == channel)) [
      | inl on ↦ (let is : j ≡ channel = grind (arith, nat_tests) in
          let u : SendingEnd = record t { sender = sender.after_acknowledgement t.sender number } in
          let both : Some u ≡ Some s = sym (get-set o.senders j t u there) ∙ ap (slice_get (slice_set o.senders j u)) is ∙ h in
          let us : u ≡ s = cc in
          ap (λ (x : SendingEnd). x.channel) (sym us) ∙ places t (ap (slice_get o.senders) (sym is) ∙ there))
      | inr off ↦ (let n : j ≢ channel = (λ is. grind (arith, nat_tests)) in
          places s (sym (get-set-other o.senders j channel (record t { sender = sender.after_acknowledgement t.sender number }) n) ∙ h))
    ]

    by-control : (b : Bool) → slice_get (cond b (record o { control = controlling.after_acknowledgement o.control number }) (acknowledged_on o j number (slice_get o.senders j))).senders channel ≡ Some s → s.channel ≡ channel
    by-control true h = places s h
    by-control false h = at (slice_get o.senders j) refl h

same-answers : (o : Outbox) (j number : ℕ) → (after_acknowledgement o j number).acknowledgements ≡ o.acknowledgements
same-answers o j number = by-control (j == 0xFF)
  where
    by : (x : Option SendingEnd) → (acknowledged_on o j number x).acknowledgements ≡ o.acknowledgements
    by None = refl
    by (Some s) = refl

    by-control : (b : Bool) → (cond b (record o { control = controlling.after_acknowledgement o.control number }) (acknowledged_on o j number (slice_get o.senders j))).acknowledgements ≡ o.acknowledgements
    by-control true = refl
    by-control false = by (slice_get o.senders j)

pub both-acknowledged : (own other : End) (p : Peering) (put : Put) (number time : ℕ) → own.peer ≡ Some p → Has other.log put → put.message.body ≡ acknowledge number time
    → (put.message.head.channel < 255 → is_late (sent_on put.message.head.channel own) put.sent_then number ≡ false) → AreLinked own other → AreLinked (with_peer own (record p { outbox = after_acknowledgement p.outbox put.message.head.channel number })) other
both-acknowledged own other p put number time is logged body late b = record {
  out = λ channel few. by channel few (b.out channel few) (j == channel) refl;
  back = λ channel few. back-quiet own other p q channel few is (record { dispatches = refl; receivers = refl; untaken = λ i h. refl; numbers = λ i h. ap (numbers_on i) (same-answers p.outbox j number) }) (b.back channel few);
}
  where
    j : ℕ
    j = put.message.head.channel

    q : Peering
    q = record p { outbox = after_acknowledgement p.outbox j number }

    by : (channel : ℕ) → channel < 255 → (k : IsLinked own other channel) → (t : Bool) → (j == channel) ≡ t → IsLinked (with_peer own q) other channel
    by channel few k true e =
        let at : j ≡ channel = grind (arith, nat_tests) in
        let h = sending-of own p channel k.link is k.sending in
        let a : Answer = record { number = number; sent_then = put.sent_then } in
        let w : WireLink = answered k.link a in
        let there : Has k.link.acks a = k.acks put number time logged at body in
        let time' : is_late k.link.greatest a.sent_then a.number ≡ false = ap (λ g. is_late g put.sent_then number) (k.greatest ∙ ap (λ i. sent_on i own) (sym at)) ∙ late (subst (λ i. i < 255) (sym at) few) in
        let after' : sender_in (slice_get q.outbox.senders channel) ≡ sender.after_acknowledgement (sender_in (slice_get p.outbox.senders channel)) number =
        ap (λ i. sender_in (slice_get (senders-after p.outbox i number) channel)) at ∙ after-own p.outbox channel number few in
        out-sender own other p q channel k w is refl refl
        (λ t. let r = h.0 t in (
          record { events = Acknowledge a ∷ []; runs = (w, record { between = k.between; logged = there; in_time = time'; after = refl }, refl); same = refl },
          r.0,
          ap (λ (s : Sender). sender.after_acknowledgement s number) r.1 ∙ sym after',
          refl,
          refl,
          refl,
        ))
        (λ f. (ap (λ (s : Sender). s.queued) after' ∙ h.1 f, ap (λ (s : Sender). s.sent) after' ∙ none-left (sender_in (slice_get p.outbox.senders channel)) number (h.2 f)))
        (after-places p.outbox j number channel h.3)
    by channel few k false e =
        let n : j ≢ channel = (λ at. grind (arith, nat_tests)) in
        let h = sending-of own p channel k.link is k.sending in
        let same : slice_get q.outbox.senders channel ≡ slice_get p.outbox.senders channel = after-other p.outbox j channel number n in
        out-sender own other p q channel k k.link is refl refl
        (λ t. let r = h.0 t in (stays k.mtu k.link, r.0, r.1 ∙ ap sender_in (sym same), refl, refl, refl))
        (λ f. (ap (λ o. (sender_in o).queued) same ∙ h.1 f, ap (λ o. (sender_in o).sent) same ∙ h.2 f))
        (after-places p.outbox j number channel h.3)

-- a tick marks what is late

pub marked-at : (tick : Tick) (senders : List SendingEnd) (i : ℕ) → sender_in (slice_get (map (marked_sender tick) senders) i) ≡ with_marked tick (sender_in (slice_get senders i))
marked-at tick [] i = refl
marked-at tick (s ∷ senders) zero = refl
marked-at tick (s ∷ senders) (suc i) = marked-at tick senders i

pub marked-places : (tick : Tick) (senders : List SendingEnd) (i channel : ℕ) → ((s : SendingEnd) → slice_get senders i ≡ Some s → s.channel ≡ channel) → (s : SendingEnd) → slice_get (map (marked_sender tick) senders) i ≡ Some s → s.channel ≡ channel
marked-places tick [] i channel h s e = cc
marked-places tick (x ∷ senders) zero channel h s e = (let d : marked_sender tick x ≡ s = (let f : Some (marked_sender tick x) ≡ Some s = e in cc) in ap (λ (y : SendingEnd). y.channel) (sym d) ∙ h x refl)
marked-places tick (x ∷ senders) (suc i) channel h s e = marked-places tick senders i channel h s e

pub both-marked : (own other : End) (p : Peering) (tick : Tick) → own.peer ≡ Some p → AreLinked own other → AreLinked (with_peer own (record p { outbox = outbox.marked p.outbox tick })) other
both-marked own other p tick is b = record {
  out = λ channel few. (let k = b.out channel few in let h = sending-of own p channel k.link is k.sending in
      let w : WireLink = marks k.link tick in
      let after' = marked-at tick p.outbox.senders channel in
      out-sender own other p q channel k w is refl refl
      (λ t. let r = h.0 t in (record { events = Mark tick ∷ []; runs = (w, record { sending = r.0; after = refl }, refl); same = refl }, r.0, ap (with_marked tick) r.1 ∙ sym after', refl, refl, refl))
      (λ f. (ap (λ (s : Sender). s.queued) after' ∙ h.1 f, ap (λ (s : Sender). s.sent) after' ∙ ap (map (marked tick)) (h.2 f)))
      (marked-places tick p.outbox.senders channel channel h.3));
  back = λ channel few. back-quiet own other p q channel few is (record { dispatches = refl; receivers = refl; untaken = λ i h. refl; numbers = λ i h. refl }) (b.back channel few);
}
  where
    q : Peering
    q = record p { outbox = outbox.marked p.outbox tick }

-- an end that no longer dispatches, but still sends
pub both-later : (own other : End) (p : Peering) (info : ℕ) → own.peer ≡ Some p → sends_in p.state ≡ true → AreLinked own other → AreLinked (with_peer own (record p { state = state.DisconnectLater; info = info })) other
both-later own other p info is sends b = record {
  out = λ channel few. (let k = b.out channel few in let h = sending-of own p channel k.link is k.sending in
      out-sender own other p q channel k k.link is (sym sends) refl (λ t. let r = h.0 t in (stays k.mtu k.link, r.0, r.1, refl, refl, refl)) (λ f. (h.1 f, h.2 f)) h.3);
  back = λ channel few. (let k = b.back channel few in let h = receiving-of own p channel k.link is k.receiving in
      let all : List Dispatched = dispatched_on channel own p in
      let w : WireLink = stops_receiving k.link k.link.incoming all in
      relinks other own other (with_peer own q) channel k w
      (record { events = StopReceiving k.link.incoming all [] ∷ []; runs = (w, record { dispatched = h.2 ∙ sym (append-nil all); after = refl }, refl); same = refl }) refl refl refl k.agreed
      (sending-by other.peer channel k.link w refl refl k.sending) (refl, (λ t. absurd (let e : false ≡ true = t in cc)), refl, h.3));
}
  where
    q : Peering
    q = record p { state = state.DisconnectLater; info = info }

-- the user takes an event

pub packets-push : (es : List PeerEvent) (e : PeerEvent) → packets_of (es ++ e ∷ []) ≡ packets_of es ++ packets_of (e ∷ [])
packets-push [] e = sym refl
packets-push (told.Connect info ∷ es) e = packets-push es e
packets-push (told.Receive q ∷ es) e = ap (λ l. q ∷ l) (packets-push es e)
packets-push (told.Disconnect info ∷ es) e = packets-push es e

-- what was dispatched is the same, taken or not
pub both-taken : (own other : End) (p q : Peering) (e : PeerEvent) → own.peer ≡ Some p → sends_in q.state ≡ sends_in p.state → dispatches_in q.state ≡ dispatches_in p.state → q.terms.mtu ≡ p.terms.mtu → q.outbox ≡ p.outbox
    → q.inbox.receivers ≡ p.inbox.receivers → packets_of (e ∷ []) ++ q.inbox.untaken ≡ p.inbox.untaken → AreLinked own other → AreLinked (record own { peer = Some q; events = own.events ++ e ∷ [] }) other
both-taken own other p q e is sends dispatches mtu box receivers untaken b = record {
  out = λ channel few. (let k = b.out channel few in let h = sending-of own p channel k.link is k.sending in
      relinks own other new other channel k k.link (stays k.mtu k.link) refl refl refl (agreed-still own p q k.mtu is mtu k.agreed) (
        (λ t. let r = h.0 (sym sends ∙ t) in (r.0, r.1 ∙ ap (λ (o : Outbox). sender_in (slice_get o.senders channel)) (sym box))),
        (λ t. ap (λ (o : Outbox). (sender_in (slice_get o.senders channel)).queued) box ∙ h.1 (sym sends ∙ t)),
        (λ t. ap (λ (o : Outbox). (sender_in (slice_get o.senders channel)).sent) box ∙ h.2 (sym sends ∙ t)),
        (λ s t. h.3 s (ap (λ (o : Outbox). slice_get o.senders channel) (sym box) ∙ t)),
      ) k.receiving);
  back = λ channel few. (let k = b.back channel few in let h = receiving-of own p channel k.link is k.receiving in
      let same = dispatched-same channel in
      relinks other own other new channel k k.link (stays k.mtu k.link) refl refl refl k.agreed k.sending (
        dispatches ∙ h.0,
        (λ t. h.1 t ∙ ap (λ (rs : List ReceivingEnd). record (receiver_in (slice_get rs channel)) { dispatched = dispatched_on channel own p }) (sym receivers)
            ∙ ap (λ (l : List Dispatched). record (receiver_in (slice_get q.inbox.receivers channel)) { dispatched = l }) same),
        h.2 ∙ same,
        h.3 ∙ ap (λ (o : Outbox). numbers_on channel o.acknowledgements) (sym box),
      ));
}
  where
    new : End
    new = record own { peer = Some q; events = own.events ++ e ∷ [] }

    dispatched-same : (channel : ℕ) → dispatched_on channel own p ≡ dispatched_on channel new q
    dispatched-same channel =
        ap (λ (l : List Packet). in_sequence channel (packets_of own.events) ++ in_sequence channel l) (sym untaken)
        ∙ ap (λ l. in_sequence channel (packets_of own.events) ++ l) (in_sequence-append channel (packets_of (e ∷ [])) q.inbox.untaken)
        ∙ sym (append_assoc (in_sequence channel (packets_of own.events)) (in_sequence channel (packets_of (e ∷ []))) (in_sequence channel q.inbox.untaken))
        ∙ ap (λ l. l ++ in_sequence channel q.inbox.untaken) (sym (in_sequence-append channel (packets_of own.events) (packets_of (e ∷ []))))
        ∙ ap (λ l. in_sequence channel l ++ in_sequence channel q.inbox.untaken) (sym (packets-push own.events e))
