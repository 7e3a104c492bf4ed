-- What a round brings to two ends, over all their channels.
use Rattle.std.proofs.Common.{◌≡◌, ℕ, zero, suc, ◌+◌, ◌%◌, ◌^◌, ◌<◌, ◌≤◌, ◌||◌, ltb, max, min, Bool, true, false, cond, List, [], ◌∷◌, length, map, refl, sym, ap, subst, ◌∙◌, inl, inr, ◌⊎◌, arith, Some, is_some}
use Rattle.std.proofs.lemmas.Bool.{eq-eqb}
use Rattle.std.proofs.lemmas.Bool.Decides.{nat_tests}
use Rattle.std.proofs.lemmas.List.{length-map}
use Rattle.std.specs.List.{slice_get, list_any, position}
use Rattle.enet_codec.specs.Message.{Message}
use Rattle.enet_fragment.specs.declared.data.DataCommand.{DataCommand}
use Rattle.enet_fragment.specs.DataCommand.{message_of}
use Rattle.enet_receiver.specs.Members.{Has}
use Rattle.enet_rtt.specs.Clock.{told_time, meant_time}
use Rattle.enet_rtt.specs.Transmission as transmission
use Rattle.enet_rtt.specs.Transmission.{went_at}
use Rattle.enet_rtt.specs.declared.transmission.Transmission.{Transmission}
use Rattle.enet_rtt.specs.declared.transmission.Tick.{Tick as Moment}
use Rattle.enet_rtt.specs.declared.expiry.Expiry.{Expiry}
use Rattle.enet_rtt.specs.declared.expiry.Expiry.TheVariants.{No, Resend, End as Ends}
use Rattle.enet_sender.specs.Sender.{left, marked, is_late as has_waited_out}
use Rattle.enet_sender.specs.declared.sent.Sent.{Sent}
use Rattle.enet_sender.specs.Due.{SendingEnd}
use Rattle.enet_senders.specs.Controlling as controlling
use Rattle.enet_senders.specs.declared.control.Control.TheVariants as control
use Rattle.enet_outbox.specs.Room.{RoomIsAwaited}
use Rattle.enet_outbox.proofs.Rooms.{awaited-filled, awaited-marked}
use Rattle.enet_outbox.specs.declared.parts.Acknowledgement.{Acknowledgement}
use Rattle.enet_outbox.specs.Outbox.{has_late, marked_sender, with_control}
use Rattle.enet_outbox.specs.Emission.{filled, acknowledgement_of}
use Rattle.enet_peer.specs.declared.parts.PeerState.{PeerState}
use Rattle.enet_peer.specs.declared.parts.PeerState.TheVariants as state
use Rattle.enet_peer.specs.Endings.{cut_off_in}
use Rattle.enet_peer.specs.Peering.{Peering}
use Rattle.enet_peer.specs.Calls.{pace_of, is_answering, moved, ticked, pinged, is_pinged, after_timeouts_by, tick_of}
use Rattle.law_connection.specs.Connection.{End, Connection, is_acknowledgement}
use Rattle.law_connection.specs.Steps.{Emit, Tick, Happens}
use Rattle.law_connection.specs.Invariant.{Invariant}
use Rattle.law_connection.specs.Law.{offset_in, offset_of}
use Rattle.law_connection.specs.Linked.{sends_in, dispatches_in, sender_in}
use Rattle.law_progress.specs.Exchanges.{PutsOne, PutsMany, PutsAll, IsOpen, RoundOfBoth, outstanding_over, OnlyWaits, ProgressesBoth, HasSent, HasWaited, AllAcknowledged, AllOver, RoundsOfBoth, BothThrough}
use Rattle.law_progress.specs.Outboxes.{AllFit, NothingMayGo}
use Rattle.law_progress.proofs.Delivered.{delivered-forth, delivered-back}
use Rattle.law_progress.proofs.Blocked.{some-in-transit, idle-senders}
use Rattle.law_progress.proofs.Emitted.{AreSound, Went, Emitted, PutIn, emitted, Waits, emitted-waits, emitted-from}
use Rattle.law_progress.proofs.Carried.{Has-nums}
use Rattle.law_progress.proofs.Exchanges.{Joint, joint-swap, joint-event, same-peer, sound-of, low-channel, as_read, reads-itself, same-message, no-acknowledgement, put_out, Gone, gone, Came, all-came, all-joint, came-answers, came-less, came-none, IsToldTime, told-still, waits-of, one-sent, then-came, took-all, takes-joint}
use Rattle.law_progress.proofs.Kept.{go-or-stay}
use Rattle.law_progress.proofs.Moving.{by-expiry, by-moved, moved-elsewhere}
use Rattle.law_progress.proofs.Obeyed.{Kept, kept-self, kept-least, kept-then}
use Rattle.law_progress.proofs.Rounds.{from-marked}
use Rattle.law_progress.proofs.Waiting.{or-both, none-of, Has-at, Has-mapped}
use Rattle.law_connection.proofs.Runs.{get-map}

-- a command of the one end waits, and its acknowledgement is on its way: it waits to go at the other
pub record Coming (other : End) (p : Peering) : Type 0 where
  pub answer : Acknowledgement
  pub low : answer.channel < 255
  pub waits : Waits p.outbox.senders answer.channel answer.number
  pub sent : Sent
  pub has : HasSent p.outbox.senders answer.channel sent
  pub number : sent.command.number ≡ answer.number
  pub went : IsToldTime p.offset answer.time sent.transmission
  pub peer : Peering
  pub is : other.peer ≡ Some peer
  pub there : Has peer.outbox.acknowledgements answer

-- the acknowledgement of this command waits to go at an end, or at a peer, and repeats the told time of a send of it, to which so much was added
abbrev pub OnItsWay : ℕ → End → ℕ → Sent → Type 0
OnItsWay offset other channel t =
    (time : ℕ) × (q : Peering) × (other.peer ≡ Some q) × Has q.outbox.acknowledgements (record { channel = channel; number = t.command.number; time = time }) × IsToldTime offset time t.transmission

abbrev pub AnswersAt : ℕ → Peering → ℕ → ℕ → Transmission → Type 0
AnswersAt offset q channel number t = (time : ℕ) × Has q.outbox.acknowledgements (record { channel = channel; number = number; time = time }) × IsToldTime offset time t

-- the time that a datagram tells is that of the last send of each command that it carries
pub went-last : (t : Transmission) (now : ℕ) → t.last ≡ now → went_at (now % 65536) t ≡ true
went-last t now last = by _ _ _ (eq-eqb (now % 65536) (t.last % 65536) (ap (λ n. n % 65536) (sym last)))
  where
    by : (a b c : Bool) → b ≡ true → (a || b || c) ≡ true
    by true b c e = refl
    by false true c e = refl
    by false false c e = absurd (cc)

-- a told time stands for the moment at which it was told
meant-told : (now offset : ℕ) → meant_time (told_time now offset) (offset % 2 ^ 16) ≡ now % 2 ^ 16
meant-told now offset = omega arith

pub told-last : (offset : ℕ) (t : Transmission) (now : ℕ) → t.last ≡ now → IsToldTime offset (told_time now offset) t
told-last offset t now last = ap (λ time. went_at time t) (meant-told now offset) ∙ went-last t now last

-- an end puts out all that it may, and all of it comes. Of what waits each command has this property, or its acknowledgement is on its way
pub record Sending (joined : Bool) (D : ℕ → Sent → Type 0) (p0 q0 : Peering) (from to : End) : Type 0 where
  pub joint : Joint joined from to
  pub peer : Peering
  pub is : from.peer ≡ Some peer
  pub connected : peer.state ≡ state.Connected
  pub mtu : peer.terms.mtu ≡ p0.terms.mtu
  pub other : Peering
  pub other_is : to.peer ≡ Some other
  pub other_connected : other.state ≡ state.Connected
  pub other_kept : Kept q0 other
  pub least : outstanding_over peer.outbox.senders ≤ outstanding_over p0.outbox.senders
  pub how : (peer.outbox.senders ≡ p0.outbox.senders) ⊎ ((outstanding_over peer.outbox.senders < outstanding_over p0.outbox.senders) ⊎ Coming to peer)
  pub awaited : RoomIsAwaited p0.outbox → RoomIsAwaited peer.outbox
  pub all : (channel : ℕ) (t : Sent) → HasSent peer.outbox.senders channel t → D channel t ⊎ OnItsWay peer.offset to channel t

sending-start : (joined : Bool) (D : ℕ → Sent → Type 0) (p0 q0 : Peering) (from to : End) → Joint joined from to → from.peer ≡ Some p0 → p0.state ≡ state.Connected → to.peer ≡ Some q0 → q0.state ≡ state.Connected
    → ((channel : ℕ) (t : Sent) → HasSent p0.outbox.senders channel t → D channel t ⊎ OnItsWay p0.offset to channel t) → Sending joined D p0 q0 from to
sending-start joined D p0 q0 from to j is on other_is other_on all =
    record { joint = j; peer = p0; is = is; connected = on; mtu = refl; other = q0; other_is = other_is; other_connected = other_on; other_kept = kept-self q0; least = omega arith; how = inl refl; awaited = λ h. h; all = all }

sending-one : (joined : Bool) (D : ℕ → Sent → Type 0) (now there : ℕ) (p0 q0 : Peering) (from to from' to' : End) → PutsOne now there from to from' to' → Sending joined D p0 q0 from to → Sending joined D p0 q0 from' to'
sending-one joined D now there p0 q0 from to from' to' o k = record {
  joint = joint-swap joined to' from' (takes-joint joined o.events o.arrived from' to' o.takes (joint-swap joined from' o.arrived (all-joint joined there told from' o.new to o.arrived o.come out)));
  peer = p;
  is = g.peer;
  connected = k.connected;
  mtu = k.mtu;
  other = came.peer;
  other_is = came.is;
  other_connected = came.connected;
  other_kept = kept-then q0 k.other came.peer k.other_kept came.kept;
  least = (let a = e.least in let b = k.least in omega arith);
  how = by k.how;
  awaited = λ h. awaited-filled (pace_of k.peer now) k.peer.outbox (k.awaited h);
  all = all;
}
  where
    told : ℕ
    told = told_time now (offset_of from)

    p : Peering
    p = put_out k.peer now

    g : Gone now from to from' k.peer o.new
    g = gone now from to from' k.peer o.new o.goes k.is k.connected o.logged

    out : Joint joined from' to
    out = joint-event joined from to from' (Emit now) o.goes k.joint

    arrives : Came to o.arrived k.other
    arrives = all-came there told from' o.new to o.arrived k.other o.come k.other_is k.other_connected

    takes : Came o.arrived to' arrives.peer
    takes = took-all o.events o.arrived from' to' arrives.peer o.takes arrives.is arrives.connected

    came : Came to to' k.other
    came = then-came to o.arrived to' k.other arrives takes

    sound : AreSound k.peer.outbox.senders
    sound = sound-of joined from to k.peer k.joint k.is k.connected

    e : Emitted now k.peer.outbox.senders (filled (pace_of k.peer now) k.peer.outbox).messages p.outbox.senders
    e = emitted (pace_of k.peer now) k.peer.outbox sound

    -- its acknowledgement repeats the told time of its last send
    told-so : (t : Transmission) → t.last ≡ now → IsToldTime p.offset told t
    told-so t last = subst (λ n. IsToldTime p.offset (told_time now n) t) (sym (ap offset_in k.is)) (told-last p.offset t now last)

    -- what was put in and waits is acknowledged
    goes : (channel : ℕ) (c : DataCommand) → c.reliable ≡ true → Has (filled (pace_of k.peer now) k.peer.outbox).messages (message_of channel c) → Waits p.outbox.senders channel c.number
        → (x : Peering) × (to'.peer ≡ Some x) × Has x.outbox.acknowledgements (record { channel = channel; number = c.number; time = told })
    goes channel c reliable has waits =
        let m : Message = message_of channel c in
        let read : m ≡ message_of channel (as_read c) = same-message channel c reliable in
        let put = g.put m has in
        let low = low-channel joined from' to p channel c.number out g.peer waits in
        let marked = put.4 (ap (λ (x : Message). is_acknowledgement x.body) read ∙ no-acknowledgement channel c) in
        let r = came-answers joined there told from' o.new to o.arrived p put.0 channel (as_read c) o.come put.1 out g.peer k.connected low waits refl (put.3 ∙ read) (reads-itself channel c) put.2 marked in
        let ack : Acknowledgement = record { channel = channel; number = c.number; time = told } in
        (takes.peer, takes.is, takes.kept.acknowledgements ack (subst (λ (x : Peering). Has x.outbox.acknowledgements ack) (same-peer o.arrived r.0 arrives.peer r.1 arrives.is) r.2))

    answer : Went now (filled (pace_of k.peer now) k.peer.outbox).messages p.outbox.senders → Coming to' p
    answer w =
        let has : HasSent p.outbox.senders w.channel w.sent = (w.end, w.there, w.waits) in
        let waits = waits-of p.outbox.senders w.channel w.command.number w.sent has w.number in
        let way = goes w.channel w.command w.reliable w.put waits in
        record {
          answer = record { channel = w.channel; number = w.command.number; time = told };
          low = low-channel joined from' to p w.channel w.command.number out g.peer waits;
          waits = waits;
          sent = w.sent;
          has = has;
          number = w.number;
          went = told-so w.sent.transmission w.last;
          peer = way.0;
          is = way.1;
          there = way.2;
        }

    put-in : (channel : ℕ) (t : Sent) → HasSent p.outbox.senders channel t → PutIn now (filled (pace_of k.peer now) k.peer.outbox).messages channel t → OnItsWay p.offset to' channel t
    put-in channel t h put =
        let way = goes channel put.0 put.1 put.3 (waits-of p.outbox.senders channel put.0.number t h (sym put.2)) in
        (told, way.0, way.1, subst (λ n. Has way.0.outbox.acknowledgements (record { channel = channel; number = n; time = told })) put.2 way.2, told-so t.transmission put.4)

    all : (channel : ℕ) (t : Sent) → HasSent p.outbox.senders channel t → D channel t ⊎ OnItsWay p.offset to' channel t
    all channel t h = elim (emitted-from (pace_of k.peer now) k.peer.outbox sound channel t h) [
      | inl old ↦ elim (k.all channel t old) [
        | inl d ↦ inl d
        | inr w ↦ inr (
          w.0,
          came.peer,
          came.is,
          came.kept.acknowledgements (record { channel = channel; number = t.command.number; time = w.0 })
              (subst (λ (x : Peering). Has x.outbox.acknowledgements (record { channel = channel; number = t.command.number; time = w.0 })) (same-peer to w.1 k.other w.2 k.other_is) w.3),
          w.4,
        )
      ]
      | inr put ↦ inr (put-in channel t h put)
    ]

    -- what waits goes on to wait, as it is, or was put in once more
    still : Coming to k.peer → Coming to' p
    still c = elim (emitted-from (pace_of k.peer now) k.peer.outbox sound c.answer.channel x.0 has) [
      | inl old ↦ record {
        answer = c.answer;
        low = c.low;
        waits = waits;
        sent = x.0;
        has = has;
        number = x.2;
        went = ap (λ (t : Sent). went_at (meant_time c.answer.time (p.offset % 2 ^ 16)) t.transmission) (one-sent joined from to k.peer c.answer.channel c.sent x.0 k.joint k.is k.connected c.low c.has old (x.2 ∙ sym c.number)) ∙ c.went;
        peer = came.peer;
        is = came.is;
        there = came.kept.acknowledgements c.answer (subst (λ (x : Peering). Has x.outbox.acknowledgements c.answer) (same-peer to c.peer k.other c.is k.other_is) c.there);
      }
      | inr put ↦
          let way = put-in c.answer.channel x.0 has put in record {
            answer = record { channel = c.answer.channel; number = x.0.command.number; time = way.0 };
            low = c.low;
            waits = waits-of p.outbox.senders c.answer.channel x.0.command.number x.0 has refl;
            sent = x.0;
            has = has;
            number = refl;
            went = way.4;
            peer = way.1;
            is = way.2;
            there = way.3;
          }
    ]
      where
        waits : Waits p.outbox.senders c.answer.channel c.answer.number
        waits = emitted-waits (pace_of k.peer now) k.peer.outbox c.answer.channel c.answer.number sound c.waits

        x : (t : Sent) × Has waits.0.sender.sent t × (t.command.number ≡ c.answer.number)
        x = Has-mapped (λ (t : Sent). t.command.number) waits.0.sender.sent c.answer.number waits.2

        has : HasSent p.outbox.senders c.answer.channel x.0
        has = (waits.0, waits.1, x.1)

    by : (k.peer.outbox.senders ≡ p0.outbox.senders) ⊎ ((outstanding_over k.peer.outbox.senders < outstanding_over p0.outbox.senders) ⊎ Coming to k.peer)
        → (p.outbox.senders ≡ p0.outbox.senders) ⊎ ((outstanding_over p.outbox.senders < outstanding_over p0.outbox.senders) ⊎ Coming to' p)
    by (inr (inl less)) = inr (inl (let a = e.least in omega arith))
    by (inr (inr c)) = inr (inr (still c))
    by (inl same) = elim e.how [
      | inl stays ↦ inl (stays ∙ same)
      | inr b ↦ elim b [
        | inl less ↦ inr (inl (subst (λ (l : List SendingEnd). outstanding_over p.outbox.senders < outstanding_over l) same less))
        | inr w ↦ inr (inr (answer w))
      ]
    ]

sending-many : (joined : Bool) (D : ℕ → Sent → Type 0) (now there n : ℕ) (p0 q0 : Peering) (from to from' to' : End) → PutsMany now there n from to from' to' → Sending joined D p0 q0 from to → Sending joined D p0 q0 from' to'
sending-many joined D now there zero p0 q0 from to from' to' m k = subst (λ (x : End). Sending joined D p0 q0 x to') (sym m.0) (subst (λ (x : End). Sending joined D p0 q0 from x) (sym m.1) k)
sending-many joined D now there (suc n) p0 q0 from to from' to' m k = sending-many joined D now there n p0 q0 m.0 m.1 from' to' m.3 (sending-one joined D now there p0 q0 from to m.0 m.1 m.2 k)

-- an acknowledgement that waits goes and comes, or waits still
pub answers-many : (joined : Bool) (now there n : ℕ) (from to from' to' : End) (q p : Peering) (a : Acknowledgement) (t : Sent) → PutsMany now there n from to from' to' → Joint joined from to → from.peer ≡ Some q → q.state ≡ state.Connected
    → to.peer ≡ Some p → p.state ≡ state.Connected → a.channel < 255 → HasSent p.outbox.senders a.channel t → t.command.number ≡ a.number → IsToldTime p.offset a.time t.transmission → Has q.outbox.acknowledgements a
    → (r : Peering) × (to'.peer ≡ Some r) × ((outstanding_over r.outbox.senders < outstanding_over p.outbox.senders) ⊎ ((s : Peering) × (from'.peer ≡ Some s) × Has s.outbox.acknowledgements a))
answers-many joined now there zero from to from' to' q p a t m j is on other_is other_on low w number went_so has =
    (p, ap (λ (x : End). x.peer) m.1 ∙ other_is, inr (q, ap (λ (x : End). x.peer) m.0 ∙ is, has))
answers-many joined now there (suc n) from to from' to' q p a t m j is on other_is other_on low w number went_so has = elim ((go-or-stay (pace_of q now) q.outbox).acknowledgements a has) [
  | inl stays ↦ elim came.kept.senders [
    | inl same ↦
        let r = answers-many joined now there n m.0 m.1 from' to' (put_out q now) came.peer a t m.3 next g.peer on came.is came.connected low (subst (λ (l : List SendingEnd). HasSent l a.channel t) (sym same) w) number (told-still p came.peer a.time t.transmission came.kept.offset went_so) stays in
        (r.0, r.1, elim r.2 [ inl less ↦ inl (subst (λ (l : List SendingEnd). outstanding_over r.0.outbox.senders < outstanding_over l) same less) | inr s ↦ inr s ])
    | inr less ↦ (rest.other, rest.other_is, inl (let l = kept-least came.peer rest.other rest.other_kept in omega arith))
  ]
  | inr went ↦
      let put = g.put (acknowledgement_of a) went in
      let less = came-less joined there told m.0 o.new to o.arrived p put.0 a t o.come put.1 out other_is other_on low w number went_so put.3 put.2 (put.5 refl) in
      let it : less.0 ≡ arrives.peer = same-peer o.arrived less.0 arrives.peer less.1 arrives.is in
      let sooner : outstanding_over arrives.peer.outbox.senders < outstanding_over p.outbox.senders = subst (λ (x : Peering). outstanding_over x.outbox.senders < outstanding_over p.outbox.senders) it less.2 in
      let taken = kept-least arrives.peer takes.peer takes.kept in
      let fewer : outstanding_over came.peer.outbox.senders < outstanding_over p.outbox.senders = omega arith in
      (rest.other, rest.other_is, inl (let l = kept-least came.peer rest.other rest.other_kept in omega arith))
]
  where
    told : ℕ
    told = told_time now (offset_of from)

    o : PutsOne now there from to m.0 m.1
    o = m.2

    g : Gone now from to m.0 q o.new
    g = gone now from to m.0 q o.new o.goes is on o.logged

    out : Joint joined m.0 to
    out = joint-event joined from to m.0 (Emit now) o.goes j

    next : Joint joined m.0 m.1
    next = joint-swap joined m.1 m.0 (takes-joint joined o.events o.arrived m.0 m.1 o.takes (joint-swap joined m.0 o.arrived (all-joint joined there told m.0 o.new to o.arrived o.come out)))

    arrives : Came to o.arrived p
    arrives = all-came there told m.0 o.new to o.arrived p o.come other_is other_on

    takes : Came o.arrived m.1 arrives.peer
    takes = took-all o.events o.arrived m.0 m.1 arrives.peer o.takes arrives.is arrives.connected

    came : Came to m.1 p
    came = then-came to o.arrived m.1 p arrives takes

    rest : Sending joined (HasSent (put_out q now).outbox.senders) (put_out q now) came.peer from' to'
    rest = sending-many joined (HasSent (put_out q now).outbox.senders) now there n (put_out q now) came.peer m.0 m.1 from' to' m.3
        (sending-start joined (HasSent (put_out q now).outbox.senders) (put_out q now) came.peer m.0 m.1 next g.peer on came.is came.connected (λ channel t h. inl h))

-- all acknowledgements that wait go and come, or wait still; what comes takes its command away
pub answers-all : (joined : Bool) (D : ℕ → Sent → Type 0) (now there n : ℕ) (from to from' to' : End) (q p : Peering) → PutsMany now there n from to from' to' → Joint joined from to → from.peer ≡ Some q → q.state ≡ state.Connected
    → to.peer ≡ Some p → p.state ≡ state.Connected → ((channel : ℕ) (t : Sent) → HasSent p.outbox.senders channel t → D channel t ⊎ AnswersAt p.offset q channel t.command.number t.transmission)
    → (r : Peering) × (to'.peer ≡ Some r) × (s : Peering) × (from'.peer ≡ Some s) × ((channel : ℕ) (t : Sent) → HasSent r.outbox.senders channel t → D channel t ⊎ AnswersAt p.offset s channel t.command.number t.transmission)
answers-all joined D now there zero from to from' to' q p m j is on other_is other_on all =
    (p, ap (λ (x : End). x.peer) m.1 ∙ other_is, q, ap (λ (x : End). x.peer) m.0 ∙ is, all)
answers-all joined D now there (suc n) from to from' to' q p m j is on other_is other_on all =
    let r = answers-all joined D now there n m.0 m.1 from' to' (put_out q now) came.peer m.3 next g.peer on came.is came.connected left in
    (r.0, r.1, r.2, r.3, λ channel t h. elim (r.4 channel t h) [ inl d ↦ inl d | inr w ↦ inr (w.0, w.1, subst (λ offset. IsToldTime offset w.0 t.transmission) came.kept.offset w.2) ])
  where
    told : ℕ
    told = told_time now (offset_of from)

    o : PutsOne now there from to m.0 m.1
    o = m.2

    g : Gone now from to m.0 q o.new
    g = gone now from to m.0 q o.new o.goes is on o.logged

    out : Joint joined m.0 to
    out = joint-event joined from to m.0 (Emit now) o.goes j

    next : Joint joined m.0 m.1
    next = joint-swap joined m.1 m.0 (takes-joint joined o.events o.arrived m.0 m.1 o.takes (joint-swap joined m.0 o.arrived (all-joint joined there told m.0 o.new to o.arrived o.come out)))

    arrives : Came to o.arrived p
    arrives = all-came there told m.0 o.new to o.arrived p o.come other_is other_on

    takes : Came o.arrived m.1 arrives.peer
    takes = took-all o.events o.arrived m.0 m.1 arrives.peer o.takes arrives.is arrives.connected

    came : Came to m.1 p
    came = then-came to o.arrived m.1 p arrives takes

    left : (channel : ℕ) (t : Sent) → HasSent came.peer.outbox.senders channel t → D channel t ⊎ AnswersAt came.peer.offset (put_out q now) channel t.command.number t.transmission
    left channel t h = by (all channel t old)
      where
        old : HasSent p.outbox.senders channel t
        old = came.kept.sent channel t h

        by : D channel t ⊎ AnswersAt p.offset q channel t.command.number t.transmission → D channel t ⊎ AnswersAt came.peer.offset (put_out q now) channel t.command.number t.transmission
        by (inl d) = inl d
        by (inr w) = elim ((go-or-stay (pace_of q now) q.outbox).acknowledgements a w.1) [
          | inl stays ↦ inr (w.0, stays, told-still p came.peer w.0 t.transmission came.kept.offset w.2)
          | inr went ↦
              let put = g.put (acknowledgement_of a) went in
              let low = low-channel joined to from p channel t.command.number (joint-swap joined from to j) other_is (old.0, old.1, Has-nums old.0.sender.sent t old.2) in
              let none = came-none joined there told m.0 o.new to o.arrived p put.0 a t o.come put.1 out other_is other_on low refl w.2 put.3 put.2 (put.5 refl) in
              let it : none.0 ≡ arrives.peer = same-peer o.arrived none.0 arrives.peer none.1 arrives.is in
              absurd (none.2 (subst (λ (y : Peering). HasSent y.outbox.senders channel t) (sym it) (takes.kept.sent channel t h)))
        ]
          where
            a : Acknowledgement
            a = record { channel = channel; number = t.command.number; time = w.0 }

-- the one end puts out all that it may, and then the other does
pub record Exchanged (joined : Bool) (D : ℕ → Sent → Type 0) (now : ℕ) (p0 q0 : Peering) (from1 to1 to2 from2 : End) : Type 0 where
  pub first : Sending joined D p0 q0 from1 to1
  pub then' : Sending joined (HasSent first.other.outbox.senders) first.other first.peer to2 from2
  -- nothing waits any more whose acknowledgement was on its way
  pub none : (channel : ℕ) (t : Sent) → HasSent then'.other.outbox.senders channel t → D channel t
  pub least : outstanding_over then'.other.outbox.senders ≤ outstanding_over p0.outbox.senders
  pub how : (outstanding_over then'.other.outbox.senders < outstanding_over p0.outbox.senders)
      ⊎ ((then'.other.outbox.senders ≡ p0.outbox.senders) × (first.peer.outbox.senders ≡ p0.outbox.senders) × NothingMayGo (pace_of first.peer now) first.peer.outbox)

pub exchanged : (joined : Bool) (D : ℕ → Sent → Type 0) (now there : ℕ) (p0 q0 : Peering) (from to from1 to1 to2 from2 : End) → Joint joined from to → from.peer ≡ Some p0 → p0.state ≡ state.Connected → to.peer ≡ Some q0 → q0.state ≡ state.Connected
    → PutsAll now there from to from1 to1 → PutsAll there now to1 from1 to2 from2 → ((channel : ℕ) (t : Sent) → HasSent p0.outbox.senders channel t → D channel t ⊎ OnItsWay p0.offset to channel t)
    → Exchanged joined D now p0 q0 from1 to1 to2 from2
exchanged joined D now there p0 q0 from to from1 to1 to2 from2 j is on other_is other_on forth back all = record {
  first = s;
  then' = t;
  none = none;
  least = (let a = s.least in let b = kept-least s.peer t.other t.other_kept in omega arith);
  how = by s.how;
}
  where
    s : Sending joined D p0 q0 from1 to1
    s = sending-many joined D now there forth.datagrams p0 q0 from to from1 to1 forth.puts (sending-start joined D p0 q0 from to j is on other_is other_on all)

    E : ℕ → Sent → Type 0
    E = HasSent s.other.outbox.senders

    t : Sending joined E s.other s.peer to2 from2
    t = sending-many joined E there now back.datagrams s.other s.peer to1 from1 to2 from2 back.puts (sending-start joined E s.other s.peer to1 from1 (joint-swap joined from1 to1 s.joint) s.other_is s.other_connected s.is s.connected (λ channel x h. inl h))

    u : Peering
    u = t.other

    at : (channel : ℕ) (x : Sent) → HasSent s.peer.outbox.senders channel x → D channel x ⊎ AnswersAt s.peer.offset s.other channel x.command.number x.transmission
    at channel x h = elim (s.all channel x h) [
      | inl d ↦ inl d
      | inr w ↦ inr (w.0, subst (λ (y : Peering). Has y.outbox.acknowledgements (record { channel = channel; number = x.command.number; time = w.0 })) (same-peer to1 w.1 s.other w.2 s.other_is) w.3, w.4)
    ]

    none : (channel : ℕ) (x : Sent) → HasSent u.outbox.senders channel x → D channel x
    none channel x h =
        let r = answers-all joined D there now back.datagrams to1 from1 to2 from2 s.other s.peer back.puts (joint-swap joined from1 to1 s.joint) s.other_is s.other_connected s.is s.connected at in
        let it : r.0 ≡ u = same-peer from2 r.0 u r.1 t.other_is in
        let rests = back.spent r.2 r.3 in
        elim (r.4 channel x (subst (λ (y : Peering). HasSent y.outbox.senders channel x) (sym it) h)) [
          | inl d ↦ d
          | inr w ↦ absurd (subst (λ (l : List Acknowledgement). Has l (record { channel = channel; number = x.command.number; time = w.0 })) rests.acknowledgements w.1)
        ]

    by : (s.peer.outbox.senders ≡ p0.outbox.senders) ⊎ ((outstanding_over s.peer.outbox.senders < outstanding_over p0.outbox.senders) ⊎ Coming to1 s.peer)
        → (outstanding_over u.outbox.senders < outstanding_over p0.outbox.senders) ⊎ ((u.outbox.senders ≡ p0.outbox.senders) × (s.peer.outbox.senders ≡ p0.outbox.senders) × NothingMayGo (pace_of s.peer now) s.peer.outbox)
    by (inr (inl less)) = inl (let b = kept-least s.peer u t.other_kept in omega arith)
    by (inl same) = elim t.other_kept.senders [
      | inl stays ↦ inr (stays ∙ same, same, forth.spent s.peer s.is)
      | inr less ↦ inl (subst (λ (l : List SendingEnd). outstanding_over u.outbox.senders < outstanding_over l) same less)
    ]
    by (inr (inr c)) =
        let r = answers-many joined there now back.datagrams to1 from1 to2 from2 s.other s.peer c.answer c.sent back.puts (joint-swap joined from1 to1 s.joint) s.other_is s.other_connected s.is s.connected c.low c.has c.number c.went
        (subst (λ (x : Peering). Has x.outbox.acknowledgements c.answer) (same-peer to1 c.peer s.other c.is s.other_is) c.there) in
        let it : r.0 ≡ u = same-peer from2 r.0 u r.1 t.other_is in
        elim r.2 [
          | inl less ↦ inl (let l = s.least in let x : outstanding_over u.outbox.senders < outstanding_over s.peer.outbox.senders = subst (λ (y : Peering). outstanding_over y.outbox.senders < outstanding_over s.peer.outbox.senders) it less in omega arith)
          | inr w ↦ absurd (let rests = back.spent w.0 w.1 in subst (λ (l : List Acknowledgement). Has l c.answer) rests.acknowledgements w.2)
        ]

-- ---- the clock goes on
abbrev pub NoneLate : ℕ → List SendingEnd → Type 0
NoneLate now xs = (s : SendingEnd) → Has xs s → (t : Sent) → Has s.sender.sent t → has_waited_out now t ≡ false

pub record Ticked (now : ℕ) (p q : Peering) : Type 0 where
  pub senders : q.outbox.senders ≡ map (marked_sender (tick_of p now)) p.outbox.senders
  pub over : outstanding_over q.outbox.senders ≡ outstanding_over p.outbox.senders
  pub mtu : q.terms.mtu ≡ p.terms.mtu
  pub offset : q.offset ≡ p.offset
  -- what isn't due after the moment is as it was, and not late; and what is sent was sent, as often, and still is
  pub from : (channel : ℕ) (t : Sent) → HasSent q.outbox.senders channel t → t.transmission.due ≡ false → HasSent p.outbox.senders channel t × (has_waited_out now t ≡ false)
  pub was : (channel : ℕ) (t : Sent) → HasSent q.outbox.senders channel t → (x : Sent) × HasSent p.outbox.senders channel x × (marked (tick_of p now) x ≡ t)
  pub still : (channel : ℕ) (x : Sent) → HasSent p.outbox.senders channel x → HasSent q.outbox.senders channel (marked (tick_of p now) x)
  pub awaited : RoomIsAwaited p.outbox → RoomIsAwaited q.outbox
  pub acknowledgements : q.outbox.acknowledgements ≡ p.outbox.acknowledgements

over-marked : (tick : Moment) (xs : List SendingEnd) → outstanding_over (map (marked_sender tick) xs) ≡ outstanding_over xs
over-marked tick [] = refl
over-marked tick (x ∷ xs) =
    let rest = over-marked tick xs in
    let size : length (map (marked tick) x.sender.sent) ≡ length x.sender.sent = length-map x.sender.sent (marked tick) in
    omega arith

-- where nothing is late, nothing is marked
marks-none : (tick : Moment) (sent : List Sent) → ((t : Sent) → Has sent t → has_waited_out tick.now t ≡ false) → map (marked tick) sent ≡ sent
marks-none tick [] h = refl
marks-none tick (x ∷ xs) h =
    let rest = marks-none tick xs (λ t k. h t (inr k)) in
    let same : marked tick x ≡ x = ap as_is (h x (inl refl)) in
    (λ i. same i ∷ rest i)
  where
    as_is : Bool → Sent
    as_is b = record x { transmission = cond b (record x.transmission { timeout = transmission.next_time tick x.transmission; due = true }) x.transmission }

all-marks-none : (tick : Moment) (xs : List SendingEnd) → NoneLate tick.now xs → map (marked_sender tick) xs ≡ xs
all-marks-none tick [] h = refl
all-marks-none tick (x ∷ xs) h =
    let own = marks-none tick x.sender.sent (h x (inl refl)) in
    let rest = all-marks-none tick xs (λ s k. h s (inr k)) in
    let same : marked_sender tick x ≡ x = ap (λ (l : List Sent). record x { sender = record x.sender { sent = l } }) own in
    (λ i. same i ∷ rest i)

-- marks leave the times of sends, and the command
pub went-marked : (tick : Moment) (x : Transmission) (time : ℕ) → went_at time (transmission.marked tick x) ≡ went_at time x
went-marked tick x time = by (transmission.is_late tick.now x)
  where
    by : (b : Bool) → went_at time (cond b (record x { timeout = transmission.next_time tick x; due = true }) x) ≡ went_at time x
    by true = refl
    by false = refl

-- what is sent after the marks
sent-marked : (tick : Moment) (xs : List SendingEnd) (channel : ℕ) (t : Sent) → HasSent (map (marked_sender tick) xs) channel t → (x : SendingEnd) × (slice_get xs channel ≡ Some x) × Has (map (marked tick) x.sender.sent) t
sent-marked tick xs channel t h =
    let m = get-map (marked_sender tick) xs channel h.0 h.1 in
    (m.0, m.1, subst (λ (y : SendingEnd). Has y.sender.sent t) (sym m.2) h.2)

-- what was sent before them
has-marked : (tick : Moment) (xs : List Sent) (x : Sent) → Has xs x → Has (map (marked tick) xs) (marked tick x)
has-marked tick [] x h = absurd h
has-marked tick (y ∷ xs) x (inl e) = inl (ap (marked tick) e)
has-marked tick (y ∷ xs) x (inr h) = inr (has-marked tick xs x h)

at-marked : (tick : Moment) (xs : List SendingEnd) (channel : ℕ) (s : SendingEnd) → slice_get xs channel ≡ Some s → slice_get (map (marked_sender tick) xs) channel ≡ Some (marked_sender tick s)
at-marked tick [] channel s e = absurd (cc)
at-marked tick (x ∷ xs) zero s e = let same : x ≡ s = cc in ap (λ (y : SendingEnd). Some (marked_sender tick y)) same
at-marked tick (x ∷ xs) (suc channel) s e = at-marked tick xs channel s e

state-pinged : (q : Peering) (now : ℕ) → (pinged q now).state ≡ q.state
state-pinged q now = elim (is_pinged q now) as (λ b. (cond b (record q { outbox = with_control q.outbox control.Ping }) q).state ≡ q.state) [ true ↦ refl | false ↦ refl ]

ticked-pinged : (p q : Peering) (now : ℕ) → Ticked now p q → Ticked now p (pinged q now)
ticked-pinged p q now k = elim (is_pinged q now) as (λ b. Ticked now p (cond b (record q { outbox = with_control q.outbox control.Ping }) q)) [
  | true ↦ record { senders = k.senders; over = k.over; mtu = k.mtu; offset = k.offset; from = k.from; was = k.was; still = k.still; acknowledgements = k.acknowledgements; awaited = k.awaited }
  | false ↦ k
]

cut-state : (s : PeerState) (p : Peering) → (cut_off_in s p).state ≡ state.Connected → ⊥
cut-state state.Answering p e = cc
cut-state s p e = cc

-- a peer whose channels are marked, all else being as it was
ticks-so : (now : ℕ) (p q : Peering) → q.outbox.senders ≡ map (marked_sender (tick_of p now)) p.outbox.senders → q.terms.mtu ≡ p.terms.mtu → q.offset ≡ p.offset → q.outbox.acknowledgements ≡ p.outbox.acknowledgements → (RoomIsAwaited p.outbox → RoomIsAwaited q.outbox) → Ticked now p q
ticks-so now p q senders mtu offset acks awaited = record {
  senders = senders;
  over = ap outstanding_over senders ∙ over-marked tick p.outbox.senders;
  mtu = mtu;
  offset = offset;
  from = λ channel t h due. (let m = there channel t h in let k = from-marked tick m.0.sender.sent t m.2 due in ((m.0, m.1, k.0), k.1));
  was = λ channel t h. (let m = there channel t h in let k = Has-mapped (marked tick) m.0.sender.sent t m.2 in (k.0, (m.0, m.1, k.1), k.2));
  still = λ channel x h. subst (λ (l : List SendingEnd). HasSent l channel (marked tick x)) (sym senders) (marked_sender tick h.0, at-marked tick p.outbox.senders channel h.0 h.1, has-marked tick h.0.sender.sent x h.2);
  acknowledgements = acks;
  awaited = awaited;
}
  where
    tick : Moment
    tick = tick_of p now

    there : (channel : ℕ) (t : Sent) → HasSent q.outbox.senders channel t → (x : SendingEnd) × (slice_get p.outbox.senders channel ≡ Some x) × Has (map (marked tick) x.sender.sent) t
    there channel t h = sent-marked tick p.outbox.senders channel t (subst (λ (l : List SendingEnd). HasSent l channel t) senders h)

pub ticked-so : (p : Peering) (now : ℕ) → (ticked p now).state ≡ state.Connected → Ticked now p (ticked p now)
ticked-so p now = by-expiry (λ (e : Expiry). (pinged (after e) now).state ≡ state.Connected → Ticked now p (pinged (after e) now)) p now
    (λ stays. absurd (cut-state p.state p (sym (state-pinged (after Ends) now) ∙ stays)))
    (λ e f stays. ticked-pinged p (after Resend) now (ticks-so now p (after Resend) refl refl refl refl (λ h. awaited-marked p.outbox (tick_of p now) h)))
    (λ e f stays. ticked-pinged p (after No) now (ticks-so now p (after No) (sym (all-marks-none (tick_of p now) p.outbox.senders (none-late f))) refl refl refl (λ h. h)))
  where
    after : Expiry → Peering
    after e = after_timeouts_by e p now

    none-late : has_late p.outbox now ≡ false → NoneLate now p.outbox.senders
    none-late f s k t m = none-of (has_waited_out now) s.sender.sent t (none-of (λ (y : SendingEnd). list_any (has_waited_out now) y.sender.sent) p.outbox.senders s (or-both (list_any (controlling.is_late now) p.outbox.control.sent) (list_any (λ (y : SendingEnd). list_any (has_waited_out now) y.sender.sent) p.outbox.senders) f).1 k) m

-- where a peer stands connected after a moment, nothing was held back
pub connected-moves : (short : Bool) (p : Peering) (now : ℕ) → (moved short p now).state ≡ state.Connected → moved short p now ≡ ticked p now
connected-moves short p now =
    by-moved (λ (x : Peering). x.state ≡ state.Connected → x ≡ ticked p now) short p now (λ on. refl) (λ answers lasts on. absurd (let f : state.Answering ≡ state.Connected = sym answers ∙ on in cc))

-- ---- nothing went
has-place : (xs : List SendingEnd) (s : SendingEnd) → Has xs s → (i : ℕ) × (slice_get xs i ≡ Some s)
has-place [] s h = absurd h
has-place (x ∷ xs) s (inl e) = (0, ap Some e)
has-place (x ∷ xs) s (inr h) = let k = has-place xs s h in (suc k.0, k.1)

over-none : (xs : List SendingEnd) → ((i : ℕ) (s : SendingEnd) → slice_get xs i ≡ Some s → (s.sender.queued ≡ []) × (s.sender.sent ≡ [])) → outstanding_over xs ≡ 0
over-none [] h = refl
over-none (x ∷ xs) h =
    let own = h 0 x refl in
    let a : length x.sender.queued ≡ 0 = ap (λ (l : List DataCommand). length l) own.0 in
    let b : length x.sender.sent ≡ 0 = ap (λ (l : List Sent). length l) own.1 in
    let rest = over-none xs (λ i s e. h (suc i) s e) in
    omega arith

-- where nothing went, nothing is outstanding, or something is in transit
pub only-waits : (now : ℕ) (p p0 v u : Peering) → Ticked now p p0 → ((when : ℕ) → AllFit (pace_of p when) p.outbox) → v.outbox.senders ≡ p0.outbox.senders → v.terms.mtu ≡ p0.terms.mtu → u.outbox.senders ≡ p0.outbox.senders
    → NothingMayGo (pace_of v now) v.outbox → RoomIsAwaited v.outbox → OnlyWaits now p u
only-waits now p p0 v u t fit at_v mtu at_u rests awaited = record {
  same = at_u ∙ t.senders;
  waits = elim (some-in-transit v.outbox.senders) [
    | inl due ↦ inl (ap outstanding_over (at_u ∙ sym at_v) ∙ over-none v.outbox.senders (idle-senders (pace_of v now) v.outbox all due rests))
    | inr some ↦
        let there : Has u.outbox.senders some.0 = subst (λ (l : List SendingEnd). Has l some.0) (at_v ∙ sym at_u) some.1 in
        let i = has-place p0.outbox.senders some.0 (subst (λ (l : List SendingEnd). Has l some.0) at_v some.1) in
        inr (some.0, there, some.2, some.3, some.4, (t.from i.0 some.2 (some.0, i.1, some.3) some.4).1)
  ];
}
  where
    tick : Moment
    tick = tick_of p now

    at_least : (a b : ℕ) → a ≤ max a b
    at_least a b = grind (arith, nat_tests)

    mtu_is : (pace_of p now).mtu ≡ (pace_of v now).mtu
    mtu_is = ap (λ m. max 576 (min m 4096)) (sym (mtu ∙ t.mtu))

    -- a channel after the marks has what it had before them
    was : (i : ℕ) (s : SendingEnd) → slice_get v.outbox.senders i ≡ Some s → (x : SendingEnd) × (slice_get p.outbox.senders i ≡ Some x) × (marked_sender tick x ≡ s)
    was i s e = get-map (marked_sender tick) p.outbox.senders i s (ap (λ (l : List SendingEnd). slice_get l i) (sym (at_v ∙ t.senders)) ∙ e)

    all : AllFit (pace_of v now) v.outbox
    all = record {
      fit = record {
        mtu = at_least 576 (min v.terms.mtu 4096);
        unsequenced = λ x h. absurd (subst (λ l. Has l x) rests.unsequenced h);
        queued = λ i s e c h. (let w = was i s e in subst (λ m. length c.body + 28 ≤ m) mtu_is ((fit now).fit.queued i w.0 w.1 c (subst (λ (y : SendingEnd). Has y.sender.queued c) (sym w.2) h)));
      };
      awaited = awaited;
      sent = λ i s e x h. (let w = was i s e in
          let k = Has-mapped (marked tick) w.0.sender.sent x (subst (λ (y : SendingEnd). Has y.sender.sent x) (sym w.2) h) in
          subst (λ m. length x.command.body + 28 ≤ m) mtu_is (subst (λ (y : Sent). length y.command.body + 28 ≤ (pace_of p now).mtu) k.2 ((fit now).sent i w.0 w.1 k.0 k.1)));
    }

-- ---- a round
pub tick-moves : (own other new : End) (now : ℕ) (p : Peering) → Happens own other (Tick now) new → own.peer ≡ Some p → (short : Bool) × (new.peer ≡ Some (moved short p now))
tick-moves own other new now p h is = (h.2, ap (λ (e : End). e.peer) h.3 ∙ ap (λ (x : Peering). Some (moved h.2 x now)) (same-peer own h.0 p h.1 is))

pub tick-peer : (own other new : End) (now : ℕ) (p : Peering) → Happens own other (Tick now) new → own.peer ≡ Some p → is_answering p.state ≡ false → new.peer ≡ Some (ticked p now)
tick-peer own other new now p h is quiet = (let m = tick-moves own other new now p h is in m.1 ∙ ap (λ (x : Peering). Some x) (moved-elsewhere m.0 p now quiet))

-- by a round's moments no patience is over
one-ticks : (now there : ℕ) (c d : Connection) (p : Peering) → IsOpen c.one p → RoundOfBoth now there c d → Ticked now p (ticked p now)
one-ticks now there c d p o r = ticked-so p now (r.patient_one (ticked p now) (tick-peer c.one c.two r.one now p r.ticks_one o.is (ap is_answering o.connected)))

two-ticks : (now there : ℕ) (c d : Connection) (q : Peering) → IsOpen c.two q → RoundOfBoth now there c d → Ticked there q (ticked q there)
two-ticks now there c d q o r = ticked-so q there (r.patient_two (ticked q there) (tick-peer c.two r.one r.two there q r.ticks_two o.is (ap is_answering o.connected)))

-- the round's end, where of what waits at the one end each command has a property, or its acknowledgement is on its way, and of what waits
-- at the other each has one
pub record Rounded (joined : Bool) (D E : ℕ → Sent → Type 0) (now there : ℕ) (p q : Peering) {c d : Connection} (r : RoundOfBoth now there c d) : Type 0 where
  pub progresses : ProgressesBoth now there p q r
  pub joint : Joint joined d.one d.two
  pub on_one : progresses.one.state ≡ state.Connected
  pub on_two : progresses.two.state ≡ state.Connected
  pub between : Peering
  pub is_between : r.one_in.peer ≡ Some between
  pub none_one : (channel : ℕ) (t : Sent) → HasSent between.outbox.senders channel t → D channel t
  pub none_two : (channel : ℕ) (t : Sent) → HasSent progresses.two.outbox.senders channel t → E channel t
  pub way : (channel : ℕ) (t : Sent) → HasSent progresses.one.outbox.senders channel t → HasSent between.outbox.senders channel t ⊎ OnItsWay progresses.one.offset d.two channel t

rounded : (joined : Bool) (D E : ℕ → Sent → Type 0) (now there : ℕ) (c d : Connection) (p q : Peering) → Invariant joined c → IsOpen c.one p → IsOpen c.two q → (r : RoundOfBoth now there c d)
    → ((channel : ℕ) (t : Sent) → HasSent (ticked p now).outbox.senders channel t → D channel t ⊎ OnItsWay p.offset c.two channel t)
    → ((channel : ℕ) (t : Sent) → HasSent (ticked q there).outbox.senders channel t → E channel t) → Rounded joined D E now there p q r
rounded joined D E now there c d p q i open_one open_two r waits_one waits_two = record {
  progresses = record {
    one = b.then'.peer;
    is_one = b.then'.is;
    two = b.then'.other;
    is_two = b.then'.other_is;
    less = by a.how b.how a.first.other_kept.senders;
  };
  joint = b.then'.joint;
  on_one = b.then'.connected;
  on_two = b.then'.other_connected;
  between = u;
  is_between = a.then'.other_is;
  none_one = a.none;
  none_two = b.none;
  way = λ channel t h. elim (b.then'.all channel t h) [ inl old ↦ inl (subst (λ (x : Peering). HasSent x.outbox.senders channel t) (same-peer r.one_in b.first.other u b.first.other_is a.then'.other_is) old) | inr w ↦ inr w ];
}
  where
    p0 : Peering
    p0 = ticked p now

    q0 : Peering
    q0 = ticked q there

    one_is : r.one.peer ≡ Some p0
    one_is = tick-peer c.one c.two r.one now p r.ticks_one open_one.is (ap is_answering open_one.connected)

    two_is : r.two.peer ≡ Some q0
    two_is = tick-peer c.two r.one r.two there q r.ticks_two open_two.is (ap is_answering open_two.connected)

    one_on : p0.state ≡ state.Connected
    one_on = r.patient_one p0 one_is

    two_on : q0.state ≡ state.Connected
    two_on = r.patient_two q0 two_is

    tick_one : Ticked now p p0
    tick_one = one-ticks now there c d p open_one r

    tick_two : Ticked there q q0
    tick_two = two-ticks now there c d q open_two r

    waits : (channel : ℕ) (t : Sent) → HasSent p0.outbox.senders channel t → D channel t ⊎ OnItsWay p0.offset r.two channel t
    waits channel t h = elim (waits_one channel t h) [
      | inl x ↦ inl x
      | inr w ↦ inr (
        w.0,
        q0,
        two_is,
        subst (λ (l : List Acknowledgement). Has l (record { channel = channel; number = t.command.number; time = w.0 })) (sym tick_two.acknowledgements)
            (subst (λ (x : Peering). Has x.outbox.acknowledgements (record { channel = channel; number = t.command.number; time = w.0 })) (same-peer c.two w.1 q w.2 open_two.is) w.3),
        told-still p p0 w.0 t.transmission tick_one.offset w.4,
      )
    ]

    joint_one : Joint joined r.one c.two
    joint_one = joint-event joined c.one c.two r.one (Tick now) r.ticks_one i

    joint : Joint joined r.one r.two
    joint = joint-swap joined r.two r.one (joint-event joined c.two r.one r.two (Tick there) r.ticks_two (joint-swap joined r.one c.two joint_one))

    a : Exchanged joined D now p0 q0 r.one_out r.two_in r.two_out r.one_in
    a = exchanged joined D now there p0 q0 r.one r.two r.one_out r.two_in r.two_out r.one_in joint one_is one_on two_is two_on r.forth r.back waits

    q1 : Peering
    q1 = a.first.other

    b : Exchanged joined E there q1 a.first.peer r.two_out r.one_in d.one d.two
    b = exchanged joined E there now q1 a.first.peer r.two_in r.one_out r.two_out r.one_in d.one d.two (joint-swap joined r.one_out r.two_in a.first.joint) a.first.other_is a.first.other_connected a.first.is a.first.connected r.back r.answers
        (λ channel t h. inl (waits_two channel t (a.first.other_kept.sent channel t h)))

    u : Peering
    u = a.then'.other

    least : outstanding_over b.then'.peer.outbox.senders ≤ outstanding_over u.outbox.senders
    least = subst (λ (x : Peering). outstanding_over b.then'.peer.outbox.senders ≤ outstanding_over x.outbox.senders) (same-peer r.one_in b.first.other u b.first.other_is a.then'.other_is) b.then'.least

    by : (outstanding_over u.outbox.senders < outstanding_over p0.outbox.senders)
        ⊎ ((u.outbox.senders ≡ p0.outbox.senders) × (a.first.peer.outbox.senders ≡ p0.outbox.senders) × NothingMayGo (pace_of a.first.peer now) a.first.peer.outbox)
        → (outstanding_over b.then'.other.outbox.senders < outstanding_over q1.outbox.senders)
        ⊎ ((b.then'.other.outbox.senders ≡ q1.outbox.senders) × (b.first.peer.outbox.senders ≡ q1.outbox.senders) × NothingMayGo (pace_of b.first.peer there) b.first.peer.outbox)
        → (q1.outbox.senders ≡ q0.outbox.senders) ⊎ (outstanding_over q1.outbox.senders < outstanding_over q0.outbox.senders)
        → (outstanding_over b.then'.peer.outbox.senders + outstanding_over b.then'.other.outbox.senders < outstanding_over p.outbox.senders + outstanding_over q.outbox.senders)
        ⊎ ((outstanding_over b.then'.peer.outbox.senders ≤ outstanding_over p.outbox.senders) × ((x : Peering) × (r.one_in.peer ≡ Some x) × OnlyWaits now p x) × OnlyWaits there q b.then'.other)
    by (inl x) y z = inl (let l = least in let m = b.least in let n = kept-least q0 q1 a.first.other_kept in let s = tick_one.over in let t = tick_two.over in omega arith)
    by (inr x) (inl y) z = inl (let k = a.least in let l = least in let n = kept-least q0 q1 a.first.other_kept in let s = tick_one.over in let t = tick_two.over in omega arith)
    by (inr x) (inr y) (inr z) = inl (let k = a.least in let l = least in let m = b.least in let s = tick_one.over in let t = tick_two.over in omega arith)
    by (inr x) (inr y) (inl z) = inr (
      (let k = a.least in let l = least in let s = tick_one.over in omega arith),
      (u, a.then'.other_is, only-waits now p p0 a.first.peer u tick_one open_one.fit x.1 a.first.mtu x.0 x.2 (a.first.awaited (tick_one.awaited (open_one.fit 0).awaited))),
      only-waits there q q0 b.first.peer b.then'.other tick_two open_two.fit (y.1 ∙ z) (b.first.mtu ∙ a.first.other_kept.mtu) (y.0 ∙ z) y.2
          (b.first.awaited (a.first.other_kept.awaited (tick_two.awaited (open_two.fit 0).awaited))),
    )

-- of what waited before
as-before : (joined : Bool) (now there : ℕ) (c d : Connection) (p q : Peering) → Invariant joined c → IsOpen c.one p → IsOpen c.two q → (r : RoundOfBoth now there c d)
    → Rounded joined (HasSent (ticked p now).outbox.senders) (HasSent (ticked q there).outbox.senders) now there p q r
as-before joined now there c d p q i open_one open_two r =
    rounded joined (HasSent (ticked p now).outbox.senders) (HasSent (ticked q there).outbox.senders) now there c d p q i open_one open_two r (λ channel t h. inl h) (λ channel t h. h)

pub round-progresses : (joined : Bool) (now there : ℕ) (c d : Connection) (p q : Peering) → Invariant joined c → IsOpen c.one p → IsOpen c.two q → (r : RoundOfBoth now there c d) → ProgressesBoth now there p q r
round-progresses joined now there c d p q i open_one open_two r = (let k = as-before joined now there c d p q i open_one open_two r in k.progresses)

-- what waits after a moment waited before it
has-waited : (now : ℕ) (p q : Peering) → Ticked now p q → HasWaited now p q
has-waited now p q k channel t h = by t.transmission.due refl
  where
    by : (b : Bool) → t.transmission.due ≡ b → (HasSent p.outbox.senders channel t × (t.transmission.due ≡ false) × (has_waited_out now t ≡ false)) ⊎ ((t.transmission.due ≡ true) × (x : Sent) × HasSent p.outbox.senders channel x × (marked (tick_of p now) x ≡ t))
    by true due = (let w = k.was channel t h in inr (due, w.0, w.1, w.2))
    by false waits = (let f = k.from channel t h waits in inl (f.0, waits, f.1))

pub round-acknowledges : (joined : Bool) (now there : ℕ) (c d : Connection) (p q : Peering) → Invariant joined c → IsOpen c.one p → IsOpen c.two q → (r : RoundOfBoth now there c d) → AllAcknowledged now there p q r
round-acknowledges joined now there c d p q i open_one open_two r = record {
  one = k.between;
  is_one = k.is_between;
  old_one = λ channel t h. has-waited now p (ticked p now) (one-ticks now there c d p open_one r) channel t (k.none_one channel t h);
  two = k.progresses.two;
  is_two = k.progresses.is_two;
  old_two = λ channel t h. has-waited there q (ticked q there) (two-ticks now there c d q open_two r) channel t (k.none_two channel t h);
}
  where
    k : Rounded joined (HasSent (ticked p now).outbox.senders) (HasSent (ticked q there).outbox.senders) now there p q r
    k = as-before joined now there c d p q i open_one open_two r

-- ---- rounds, one after another
abbrev pub total : Peering → Peering → ℕ
total p q = outstanding_over p.outbox.senders + outstanding_over q.outbox.senders

-- all that was sent is due to go again
abbrev pub IsDue : ℕ → Sent → Type 0
IsDue channel t = t.transmission.due ≡ true

abbrev pub AllSentDue : Peering → Type 0
AllSentDue p = (channel : ℕ) (t : Sent) → HasSent p.outbox.senders channel t → IsDue channel t

-- where time alone passed and all that waits is due, nothing is outstanding
pub none-waits : (now : ℕ) (p u : Peering) → OnlyWaits now p u → AllSentDue u → (outstanding_over p.outbox.senders ≡ 0) × (outstanding_over u.outbox.senders ≡ 0)
none-waits now p u o due = (sym (ap outstanding_over o.same ∙ over-marked (tick_of p now) p.outbox.senders) ∙ none, none)
  where
    none : outstanding_over u.outbox.senders ≡ 0
    none = elim o.waits [
      | inl z ↦ z
      | inr w ↦ (let i = has-place u.outbox.senders w.0 w.1 in absurd (let z : true ≡ false = sym (due i.0 w.2 (w.0, i.1, w.3)) ∙ w.4 in cc))
    ]

-- where all that waits between the one end's turns is due, and so at the other end at last, fewer are outstanding, or none
less-or-none : (joined : Bool) (D E : ℕ → Sent → Type 0) (now there : ℕ) (p q : Peering) (c d : Connection) (r : RoundOfBoth now there c d) (k : Rounded joined D E now there p q r) → AllSentDue k.between → AllSentDue k.progresses.two
    → (total k.progresses.one k.progresses.two < total p q) ⊎ (total k.progresses.one k.progresses.two ≡ 0)
less-or-none joined D E now there p q c d r k due_one due_two = elim k.progresses.less [
  | inl less ↦ inl less
  | inr w ↦
      let same : k.between ≡ w.1.0 = same-peer r.one_in k.between w.1.0 k.is_between w.1.1 in
      let x = none-waits now p w.1.0 w.1.2 (subst AllSentDue same due_one) in
      let y = none-waits there q k.progresses.two w.2 due_two in
      inr (let a = w.0 in let z = x.0 in let t = y.1 in omega arith)
]

-- all that waits at the one end is due, or was acknowledged, by what waits to go at the other, where all that waits is due
record Fresh (c : Connection) (p q : Peering) : Type 0 where
  one : (channel : ℕ) (t : Sent) → HasSent p.outbox.senders channel t → IsDue channel t ⊎ OnItsWay p.offset c.two channel t
  two : AllSentDue q

fresh-after : (joined : Bool) (D E : ℕ → Sent → Type 0) (now there : ℕ) (p q : Peering) (c d : Connection) (r : RoundOfBoth now there c d) (k : Rounded joined D E now there p q r) → AllSentDue k.between → AllSentDue k.progresses.two
    → Fresh d k.progresses.one k.progresses.two
fresh-after joined D E now there p q c d r k due_one due_two = record {
  one = λ channel t h. elim (k.way channel t h) [ inl old ↦ inl (due_one channel t old) | inr w ↦ inr w ];
  two = due_two;
}

-- of what is nowhere outstanding, nothing is left on any channel
nothing-left : (xs : List SendingEnd) (channel : ℕ) → outstanding_over xs ≡ 0 → (left (sender_in (slice_get xs channel))).reliable ≡ false
nothing-left [] channel e = refl
nothing-left (x ∷ xs) zero e = (λ i. is_some (position (λ (c : DataCommand). c.reliable) (queued i)) || ltb 0 (length (sent i)))
  where
    empty : {X : Type 0} (l : List X) → length l ≤ 0 → l ≡ []
    empty [] h = refl
    empty (y ∷ l) h = absurd (let z : suc (length l) ≤ 0 = h in omega arith)

    queued : x.sender.queued ≡ []
    queued = empty x.sender.queued (let z : length x.sender.queued + length x.sender.sent + outstanding_over xs ≡ 0 = e in omega arith)

    sent : x.sender.sent ≡ []
    sent = empty x.sender.sent (let z : length x.sender.queued + length x.sender.sent + outstanding_over xs ≡ 0 = e in omega arith)
nothing-left (x ∷ xs) (suc channel) e = nothing-left xs channel (let z : length x.sender.queued + length x.sender.sent + outstanding_over xs ≡ 0 = e in omega arith)

pub both-through : (joined : Bool) (d : Connection) (p q : Peering) → Invariant joined d → d.one.peer ≡ Some p → d.two.peer ≡ Some q → p.state ≡ state.Connected → q.state ≡ state.Connected → total p q ≡ 0 → BothThrough d
both-through joined d p q i is_one is_two on_one on_two none = record {
  one = p;
  is_one = is_one;
  two = q;
  is_two = is_two;
  none = none;
  forth = λ channel low. delivered-forth joined d channel i low p q (record { from_is = is_one; to_is = is_two; sends = ap sends_in on_one; dispatches = ap dispatches_in on_two; none = nothing-left p.outbox.senders channel (omega arith) });
  back = λ channel low. delivered-back joined d channel i low q p (record { from_is = is_two; to_is = is_one; sends = ap sends_in on_two; dispatches = ap dispatches_in on_one; none = nothing-left q.outbox.senders channel (omega arith) });
}

-- after a moment each that waits is due, or as it was
pub due-or-was : (now : ℕ) (p q : Peering) → Ticked now p q → (channel : ℕ) (t : Sent) → HasSent q.outbox.senders channel t → IsDue channel t ⊎ HasSent p.outbox.senders channel t
due-or-was now p q k channel t h = by t.transmission.due refl
  where
    by : (b : Bool) → t.transmission.due ≡ b → IsDue channel t ⊎ HasSent p.outbox.senders channel t
    by true due = inl due
    by false waits = inr (k.from channel t h waits).0

-- rounds from there on
fresh-rounds : (joined : Bool) (moments : List (ℕ × ℕ)) (c d : Connection) (p q : Peering) → Invariant joined c → c.one.peer ≡ Some p → c.two.peer ≡ Some q → p.state ≡ state.Connected → q.state ≡ state.Connected → Fresh c p q
    → RoundsOfBoth moments c d → total p q ≤ length moments → BothThrough d
fresh-rounds joined [] c d p q i is_one is_two on_one on_two f r few = subst BothThrough (sym r) (both-through joined c p q i is_one is_two on_one on_two (omega arith))
fresh-rounds joined (m ∷ moments) c d p q i is_one is_two on_one on_two f r few =
    fresh-rounds joined moments r.4 d k.progresses.one k.progresses.two k.joint k.progresses.is_one k.progresses.is_two k.on_one k.on_two (fresh-after joined IsDue IsDue m.0 m.1 r.0 r.1 c r.4 r.5 k k.none_one k.none_two) r.6
    (elim (less-or-none joined IsDue IsDue m.0 m.1 r.0 r.1 c r.4 r.5 k k.none_one k.none_two) [ inl less ↦ (let w = was in omega arith) | inr none ↦ omega arith ])
  where
    same_one : r.0 ≡ p
    same_one = same-peer c.one r.0 p r.2.is is_one

    same_two : r.1 ≡ q
    same_two = same-peer c.two r.1 q r.3.is is_two

    was : total r.0 r.1 ≡ total p q
    was = λ j. total (same_one j) (same_two j)

    fresh : Fresh c r.0 r.1
    fresh = subst (λ (x : Peering). Fresh c x r.1) (sym same_one) (subst (λ (y : Peering). Fresh c p y) (sym same_two) f)

    k : Rounded joined IsDue IsDue m.0 m.1 r.0 r.1 r.5
    k = rounded joined IsDue IsDue m.0 m.1 c r.4 r.0 r.1 i r.2 r.3 r.5
        (λ channel t h. elim (due-or-was m.0 r.0 (ticked r.0 m.0) (one-ticks m.0 m.1 c r.4 r.0 r.2 r.5) channel t h) [ inl due ↦ inl due | inr old ↦ fresh.one channel t old ])
        (λ channel t h. elim (due-or-was m.1 r.1 (ticked r.1 m.1) (two-ticks m.0 m.1 c r.4 r.1 r.3 r.5) channel t h) [ inl due ↦ due | inr old ↦ fresh.two channel t old ])

-- where all that waited was due or late at a moment, all that waits after it is due
pub over-due-at : (now : ℕ) (p q : Peering) → Ticked now p q → AllOver now p → AllSentDue q
over-due-at now p q k over channel t h = by t.transmission.due refl
  where
    by : (b : Bool) → t.transmission.due ≡ b → IsDue channel t
    by true due = due
    by false waits =
        let f = k.from channel t h waits in
        elim (over f.0.0 (Has-at p.outbox.senders channel f.0.0 f.0.1) t f.0.2) [
          | inl e ↦ e
          | inr e ↦ absurd (let z : true ≡ false = sym e ∙ f.1 in cc)
        ]

pub all-get-through : (joined : Bool) (now there : ℕ) (moments : List (ℕ × ℕ)) (c b d : Connection) (p q : Peering) → Invariant joined c → IsOpen c.one p → IsOpen c.two q → AllOver now p → AllOver there q
    → RoundOfBoth now there c b → RoundsOfBoth moments b d → total p q ≤ length moments → BothThrough d
all-get-through joined now there moments c b d p q i open_one open_two over_one over_two r rest few =
    fresh-rounds joined moments b d k.progresses.one k.progresses.two k.joint k.progresses.is_one k.progresses.is_two k.on_one k.on_two (fresh-after joined _ _ now there p q c b r k due_one due_two) rest
    (elim (less-or-none joined _ _ now there p q c b r k due_one due_two) [ inl less ↦ omega arith | inr none ↦ omega arith ])
  where
    k : Rounded joined (HasSent (ticked p now).outbox.senders) (HasSent (ticked q there).outbox.senders) now there p q r
    k = as-before joined now there c b p q i open_one open_two r

    due_one : AllSentDue k.between
    due_one channel t h = over-due-at now p (ticked p now) (one-ticks now there c b p open_one r) over_one channel t (k.none_one channel t h)

    due_two : AllSentDue k.progresses.two
    due_two channel t h = over-due-at there q (ticked q there) (two-ticks now there c b q open_two r) over_two channel t (k.none_two channel t h)
