-- What changes of one end's peer keep: those that touch no link, those that stop both, and those between.
use Rattle.std.proofs.Common.{◌≡◌, ℕ, zero, suc, ◌<◌, Bool, true, false, List, [], ◌∷◌, ◌++◌, map, length, arith, refl, sym, ap, subst, ◌∙◌, inl, inr, ◌⊎◌, Option, Some, None}
use Rattle.std.proofs.lemmas.List.{append-nil}
use Rattle.std.specs.List.{slice_get}
use Rattle.enet_codec.specs.declared.packet.Packet.{Packet}
use Rattle.enet_packets.specs.declared.incoming_packet.Dispatched.{Dispatched}
use Rattle.enet_receiver.specs.Receiver.{Receiver}
use Rattle.enet_receiver.specs.Foresight.{ReceivingEnd}
use Rattle.enet_sender.specs.Sender.{nothing_sent}
use Rattle.enet_sender.specs.Due.{SendingEnd}
use Rattle.enet_outbox.specs.Outbox.{cleared_sender}
use Rattle.enet_peer.specs.Peering.{Peering}
use Rattle.law_connection.specs.WireLink.{WireLink, stops_sending, stops_receiving, drops_answers}
use Rattle.law_connection.specs.LinkSteps.{Has, Event, StopSending, StopReceiving, DropAnswers, Runs, fresh_link}
use Rattle.law_connection.specs.Connection.{Put, End, sent_on, packets_of, in_sequence, of_channel}
use Rattle.law_connection.specs.Steps.{with_peer}
use Rattle.law_connection.specs.Law.{mtu_of}
use Rattle.law_connection.specs.Linked.{IsLinked, sends_in, dispatches_in, sender_in, receiver_in, numbers_on, ShowsSending, ShowsReceiving, dispatched_on}
use Rattle.law_connection.specs.Invariant.{AreLinked}
use Rattle.law_connection.proofs.Runs.{Runs-append, get-map}

-- a link after moves that leave the log, the submissions and the datagram in the making
pub record Moved (mtu : ℕ) (v w : WireLink) : Type 0 where
  pub events : List Event
  pub runs : Runs mtu events v w
  pub same : w ≡ record v { is_sending = w.is_sending; outgoing = w.outgoing; incoming = w.incoming; is_open = w.is_open; answers = w.answers }

pub stays : (mtu : ℕ) (v : WireLink) → Moved mtu v v
stays mtu v = record { events = []; runs = refl; same = refl }

pub relinks : (from to from2 to2 : End) (channel : ℕ) (k : IsLinked from to channel) (w : WireLink) → Moved k.mtu k.link w → from2.submitted ≡ from.submitted → from2.log ≡ from.log → to2.log ≡ to.log
    → (from2.submitted ≡ []) ⊎ (mtu_of from2 ≡ k.mtu) → ShowsSending from2.peer channel w → ShowsReceiving to2 to2.peer channel w → IsLinked from2 to2 channel
relinks from to from2 to2 channel k w m submitted log log2 agreed sending receiving = record {
  mtu = k.mtu;
  big = k.big;
  agreed = agreed;
  link = w;
  events = k.events ++ m.events;
  runs = Runs-append k.mtu k.events m.events fresh_link k.link w k.runs m.runs;
  between = ap (λ (x : WireLink). x.making) m.same ∙ k.between;
  submitted = ap (λ (x : WireLink). x.submitted) m.same ∙ k.submitted ∙ ap (of_channel k.mtu channel) (sym submitted);
  greatest = ap (λ (x : WireLink). x.greatest) m.same ∙ k.greatest ∙ ap (λ (l : List Put). sent_on channel (record from { log = l })) (sym log);
  few = (let few = k.few in let same : length w.commands ≡ length k.link.commands = ap (λ (x : WireLink). length x.commands) m.same in let logged : length from2.log ≡ length from.log = ap length log in omega arith);
  sending = sending;
  receiving = receiving;
  commands = λ p c h on e. subst (λ l. Has l (record { command = c; sent_then = p.sent_then })) (sym (ap (λ (x : WireLink). x.commands) m.same)) (k.commands p c (subst (λ (l : List Put). Has l p) log h) on e);
  acks = λ p number time h on e. subst (λ l. Has l (record { number = number; sent_then = p.sent_then })) (sym (ap (λ (x : WireLink). x.acks) m.same)) (k.acks p number time (subst (λ (l : List Put). Has l p) log2 h) on e);
}

-- an end's part is about its own half of the link
pub sending-by : (o : Option Peering) (channel : ℕ) (v w : WireLink) → w.is_sending ≡ v.is_sending → w.outgoing ≡ v.outgoing → ShowsSending o channel v → ShowsSending o channel w
sending-by None channel v w a b h = (a ∙ h.0, b ∙ h.1)
sending-by (Some p) channel v w a b h = ((λ t. let r = h.0 t in (a ∙ r.0, b ∙ r.1)), h.1, h.2, h.3)

pub receiving-by : (e : End) (o : Option Peering) (channel : ℕ) (v w : WireLink) → w.is_open ≡ v.is_open → w.incoming ≡ v.incoming → w.answers ≡ v.answers → ShowsReceiving e o channel v → ShowsReceiving e o channel w
receiving-by e None channel v w a b c h = (a ∙ h.0, b ∙ h.1, c ∙ h.2, h.3)
receiving-by e (Some p) channel v w a b c h = (h.0 ∙ sym a, (λ t. b ∙ h.1 (sym a ∙ t)), ap (λ (r : Receiver). r.dispatched) b ∙ h.2, c ∙ h.3)

-- a change of a peer that touches no link that goes out, and none that comes in
pub record QuietOut (p q : Peering) : Type 0 where
  pub sends : sends_in q.state ≡ sends_in p.state
  pub mtu : q.terms.mtu ≡ p.terms.mtu
  pub senders : q.outbox.senders ≡ p.outbox.senders

pub record QuietIn (p q : Peering) : Type 0 where
  pub dispatches : dispatches_in q.state ≡ dispatches_in p.state
  pub receivers : q.inbox.receivers ≡ p.inbox.receivers
  pub untaken : (channel : ℕ) → channel < 255 → in_sequence channel q.inbox.untaken ≡ in_sequence channel p.inbox.untaken
  pub numbers : (channel : ℕ) → channel < 255 → numbers_on channel q.outbox.acknowledgements ≡ numbers_on channel p.outbox.acknowledgements

-- a change that stops both directions
pub record Stops (p q : Peering) : Type 0 where
  pub sends : sends_in q.state ≡ false
  pub dispatches : dispatches_in q.state ≡ false
  pub mtu : q.terms.mtu ≡ p.terms.mtu
  pub senders : q.outbox.senders ≡ map cleared_sender p.outbox.senders
  pub untaken : (q.inbox.untaken ≡ p.inbox.untaken) ⊎ (q.inbox.untaken ≡ [])
  pub numbers : (channel : ℕ) → channel < 255 → numbers_on channel q.outbox.acknowledgements ≡ []

pub agreed-still : (own : End) (p q : Peering) (mtu : ℕ) → own.peer ≡ Some p → q.terms.mtu ≡ p.terms.mtu → (own.submitted ≡ []) ⊎ (mtu_of own ≡ mtu) → (own.submitted ≡ []) ⊎ (mtu_of (with_peer own q) ≡ mtu)
agreed-still own p q mtu is same (inl none) = inl none
agreed-still own p q mtu is same (inr e) = inr (same ∙ sym (ap (λ (o : Option Peering). mtu_of (record own { peer = o })) is) ∙ e)

pub sending-of : (own : End) (p : Peering) (channel : ℕ) (v : WireLink) → own.peer ≡ Some p → ShowsSending own.peer channel v → ShowsSending (Some p) channel v
sending-of own p channel v is h = subst (λ (o : Option Peering). ShowsSending o channel v) is h

pub receiving-of : (own : End) (p : Peering) (channel : ℕ) (v : WireLink) → own.peer ≡ Some p → ShowsReceiving own own.peer channel v → ShowsReceiving own (Some p) channel v
receiving-of own p channel v is h = subst (λ (o : Option Peering). ShowsReceiving own o channel v) is h

pub out-quiet : (own other : End) (p q : Peering) (channel : ℕ) → own.peer ≡ Some p → QuietOut p q → IsLinked own other channel → IsLinked (with_peer own q) other channel
out-quiet own other p q channel is c k =
    let h = sending-of own p channel k.link is k.sending in
    relinks own other (with_peer own q) other channel k k.link (stays k.mtu k.link) refl refl refl (agreed-still own p q k.mtu is c.mtu k.agreed) (
      (λ t. let r = h.0 (sym c.sends ∙ t) in (r.0, r.1 ∙ ap (λ (ss : List SendingEnd). sender_in (slice_get ss channel)) (sym c.senders))),
      (λ t. ap (λ (ss : List SendingEnd). (sender_in (slice_get ss channel)).queued) c.senders ∙ h.1 (sym c.sends ∙ t)),
      (λ t. ap (λ (ss : List SendingEnd). (sender_in (slice_get ss channel)).sent) c.senders ∙ h.2 (sym c.sends ∙ t)),
      (λ s e. h.3 s (ap (λ (ss : List SendingEnd). slice_get ss channel) (sym c.senders) ∙ e)),
    ) k.receiving

pub back-quiet : (own other : End) (p q : Peering) (channel : ℕ) → channel < 255 → own.peer ≡ Some p → QuietIn p q → IsLinked other own channel → IsLinked other (with_peer own q) channel
back-quiet own other p q channel few is c k =
    let h = receiving-of own p channel k.link is k.receiving in
    let same : dispatched_on channel own p ≡ dispatched_on channel own q = ap (λ (l : List Dispatched). in_sequence channel (packets_of own.events) ++ l) (sym (c.untaken channel few)) in
    relinks other own other (with_peer own q) channel k k.link (stays k.mtu k.link) refl refl refl k.agreed k.sending (
      c.dispatches ∙ h.0,
      (λ t. h.1 t ∙ ap (λ (rs : List ReceivingEnd). record (receiver_in (slice_get rs channel)) { dispatched = dispatched_on channel own p }) (sym c.receivers)
          ∙ ap (λ (l : List Dispatched). record (receiver_in (slice_get q.inbox.receivers channel)) { dispatched = l }) same),
      h.2 ∙ same,
      h.3 ∙ sym (c.numbers channel few),
    )

pub both-quiet : (own other : End) (p q : Peering) → own.peer ≡ Some p → QuietOut p q → QuietIn p q → AreLinked own other → AreLinked (with_peer own q) other
both-quiet own other p q is c d b = record {
  out = λ channel few. out-quiet own other p q channel is c (b.out channel few);
  back = λ channel few. back-quiet own other p q channel few is d (b.back channel few);
}

-- a cleared sender has nothing to send

cleared-queued : (senders : List SendingEnd) (i : ℕ) → (sender_in (slice_get (map cleared_sender senders) i)).queued ≡ []
cleared-queued [] i = refl
cleared-queued (s ∷ senders) zero = refl
cleared-queued (s ∷ senders) (suc i) = cleared-queued senders i

cleared-sent : (senders : List SendingEnd) (i : ℕ) → (sender_in (slice_get (map cleared_sender senders) i)).sent ≡ []
cleared-sent [] i = refl
cleared-sent (s ∷ senders) zero = refl
cleared-sent (s ∷ senders) (suc i) = cleared-sent senders i

false-true : {P : Type 0} (b : Bool) → b ≡ false → b ≡ true → P
false-true b f t = absurd (let e : true ≡ false = sym t ∙ f in cc)

pub both-stops : (own other : End) (p q : Peering) → own.peer ≡ Some p → Stops p q → AreLinked own other → AreLinked (with_peer own q) other
both-stops own other p q is c b = record {
  out = λ channel few. (let k = b.out channel few in let h = sending-of own p channel k.link is k.sending in
      let w : WireLink = stops_sending k.link nothing_sent in
      let runs : Runs k.mtu (StopSending nothing_sent ∷ []) k.link w = (w, record { between = k.between; after = refl }, refl) in
      relinks own other (with_peer own q) other channel k w (record { events = StopSending nothing_sent ∷ []; runs = runs; same = refl }) refl refl refl
      (agreed-still own p q k.mtu is c.mtu k.agreed) (
        (λ t. false-true (sends_in q.state) c.sends t),
        (λ t. ap (λ (ss : List SendingEnd). (sender_in (slice_get ss channel)).queued) c.senders ∙ cleared-queued p.outbox.senders channel),
        (λ t. ap (λ (ss : List SendingEnd). (sender_in (slice_get ss channel)).sent) c.senders ∙ cleared-sent p.outbox.senders channel),
        (λ s e. let r = get-map cleared_sender p.outbox.senders channel s (ap (λ (ss : List SendingEnd). slice_get ss channel) (sym c.senders) ∙ e) in sym (ap (λ (x : SendingEnd). x.channel) r.2) ∙ h.3 r.0 r.1),
      ) (receiving-by other other.peer channel k.link w refl refl refl k.receiving));
  back = λ channel few. (let k = b.back channel few in let h = receiving-of own p channel k.link is k.receiving in
      let taken : List Dispatched = in_sequence channel (packets_of own.events) in
      let old : List Dispatched = in_sequence channel p.inbox.untaken in
      elim c.untaken [
        | inl same ↦ stop channel few k taken old [] (h.2 ∙ sym (append-nil (taken ++ old))) (ap (λ (l : List Packet). taken ++ in_sequence channel l) (sym same))
        | inr none ↦ stop channel few k taken old old (h.2 ∙ ap (λ l. l ++ old) (sym (append-nil taken))) (ap (λ (l : List Packet). taken ++ in_sequence channel l) (sym none))
      ]);
}
  where
    stop : (channel : ℕ) → channel < 255 → (k : IsLinked other own channel) (taken old gone : List Dispatched) → {kept : List Dispatched} → k.link.incoming.dispatched ≡ kept ++ gone → kept ≡ dispatched_on channel own q → IsLinked other (with_peer own q) channel
    stop channel few k taken old gone {kept} split is2 =
        let w1 : WireLink = stops_receiving k.link k.link.incoming kept in
        let w : WireLink = drops_answers w1 in
        let runs : Runs k.mtu (StopReceiving k.link.incoming kept gone ∷ DropAnswers ∷ []) k.link w = (w1, record { dispatched = split; after = refl }, (w, refl, refl)) in
        relinks other own other (with_peer own q) channel k w (record { events = StopReceiving k.link.incoming kept gone ∷ DropAnswers ∷ []; runs = runs; same = refl }) refl refl refl k.agreed
        (sending-by other.peer channel k.link w refl refl k.sending) (c.dispatches, (λ t. absurd (let e : false ≡ true = t in cc)), is2, sym (c.numbers channel few))
