-- What rounds bring to two ends of which each has one turn in a round.
use Rattle.std.proofs.Common.{◌≡◌, ℕ, suc, ◌+◌, ◌%◌, ◌^◌, ◌<◌, ◌≤◌, ◌*◌, true, false, List, [], ◌∷◌, ◌++◌, length, Bool, refl, sym, ap, subst, ◌∙◌, inl, inr, ◌⊎◌, arith, Some}
use Rattle.enet_receiver.specs.Members.{Has}
use Rattle.enet_sender.specs.declared.sent.Sent.{Sent}
use Rattle.enet_rtt.specs.Clock.{meant_time}
use Rattle.enet_sender.specs.Sender.{marked, is_late as has_waited_out}
use Rattle.enet_sender.specs.Due.{SendingEnd}
use Rattle.enet_outbox.specs.declared.parts.Acknowledgement.{Acknowledgement}
use Rattle.enet_peer.specs.declared.parts.PeerState.TheVariants as state
use Rattle.enet_peer.specs.Peering.{Peering}
use Rattle.enet_peer.specs.Calls.{moved, tick_of, with_throttle_limit}
use Rattle.law_connection.specs.Connection.{End, Connection}
use Rattle.law_connection.specs.Invariant.{Invariant}
use Rattle.law_connection.specs.Steps.{Tick, Set, ThrottleLimit}
use Rattle.law_progress.specs.Exchanges.{IsOpen, RoundOfBoth, outstanding_over, HasSent, AllOver, BothThrough}
use Rattle.law_progress.specs.InTurn.{Ticks, RoundInTurn, RoundsInTurn}
use Rattle.law_progress.proofs.BothRounds.{Coming, Sending, Exchanged, Ticked, OnItsWay, AnswersAt, IsDue, AllSentDue, total, exchanged, answers-many, answers-all, connected-moves, ticked-so, tick-moves, only-waits, none-waits, both-through, due-or-was, went-marked}
use Rattle.law_progress.proofs.Exchanges.{Joint, joint-swap, joint-event, same-peer, told-still, Came, took-all, takes-joint}
use Rattle.law_progress.proofs.Obeyed.{kept-least}
use Rattle.law_progress.proofs.Waiting.{Has-at}

-- ---- time goes on
record TicksTo (now : ℕ) (own new : End) (p : Peering) : Type 0 where
  peer : Peering
  is : new.peer ≡ Some peer
  connected : peer.state ≡ state.Connected
  tick : Ticked now p peer

moved-so : (short : Bool) (p : Peering) (now : ℕ) → (moved short p now).state ≡ state.Connected → Ticked now p (moved short p now)
moved-so short p now on =
    let is = connected-moves short p now on in
    subst (λ (x : Peering). Ticked now p x) (sym is) (ticked-so p now (subst (λ (x : Peering). x.state ≡ state.Connected) is on))

ticks-to : (now : ℕ) (own other new : End) (p : Peering) → Ticks now own other new → own.peer ≡ Some p → ((x : Peering) → new.peer ≡ Some x → x.state ≡ state.Connected) → TicksTo now own new p
ticks-to now own other new p (inl h) is patient =
    let m = tick-moves own other new now p h is in
    let x : Peering = moved m.0 p now in
    let on : x.state ≡ state.Connected = patient x m.1 in
    record { peer = x; is = m.1; connected = on; tick = moved-so m.0 p now on }
ticks-to now own other new p (inr h) is patient = record {
  peer = q;
  is = here;
  connected = on;
  tick = record { senders = k.senders; over = k.over; mtu = k.mtu; offset = k.offset; from = k.from; was = k.was; still = k.still; acknowledgements = k.acknowledgements; awaited = k.awaited };
}
  where
    m : (short : Bool) × (h.1.peer ≡ Some (moved short p now))
    m = tick-moves own other h.1 now p h.2 is

    between : Peering
    between = moved m.0 p now

    q : Peering
    q = with_throttle_limit between h.0

    here : new.peer ≡ Some q
    here = ap (λ (e : End). e.peer) h.3.3 ∙ ap (λ (x : Peering). Some (with_throttle_limit x h.0)) (same-peer h.1 h.3.0 between h.3.1 m.1)

    on : q.state ≡ state.Connected
    on = patient q here

    k : Ticked now p between
    k = moved-so m.0 p now on

ticks-joint : (joined : Bool) (now : ℕ) (own other new : End) → Ticks now own other new → Joint joined own other → Joint joined new other
ticks-joint joined now own other new (inl h) j = joint-event joined own other new (Tick now) h j
ticks-joint joined now own other new (inr h) j = joint-event joined h.1 other new (Set (ThrottleLimit h.0)) h.3 (joint-event joined own other h.1 (Tick now) h.2 j)

-- ---- a round
-- a command waits whose acknowledgement is on its way
abbrev SomeComes : End → Peering → Type 0
SomeComes other p = (channel : ℕ) × (channel < 255) × (t : Sent) × HasSent p.outbox.senders channel t × OnItsWay p.offset other channel t

-- the round's end: of what waits at the one end each command has a property; of what waits at the other each has one, or its
-- acknowledgement is on its way
record Played (joined : Bool) (D E : ℕ → Sent → Type 0) (now there : ℕ) (p q : Peering) (c d : Connection) : Type 0 where
  one : Peering
  is_one : d.one.peer ≡ Some one
  on_one : one.state ≡ state.Connected
  two : Peering
  is_two : d.two.peer ≡ Some two
  on_two : two.state ≡ state.Connected
  joint : Joint joined d.one d.two
  none_one : (channel : ℕ) (t : Sent) → HasSent one.outbox.senders channel t → D channel t
  way_two : (channel : ℕ) (t : Sent) → HasSent two.outbox.senders channel t → E channel t ⊎ OnItsWay two.offset d.one channel t
  least_one : outstanding_over one.outbox.senders ≤ outstanding_over p.outbox.senders
  least_two : outstanding_over two.outbox.senders ≤ outstanding_over q.outbox.senders
  -- where what has D is due, fewer are outstanding at the one end, or none; so at the other where what has E is due, or something there was
  -- acknowledged
  less_one : ((channel : ℕ) (t : Sent) → D channel t → IsDue channel t) → (outstanding_over one.outbox.senders < outstanding_over p.outbox.senders) ⊎ (outstanding_over one.outbox.senders ≡ 0)
  less_two : ((channel : ℕ) (t : Sent) → E channel t → IsDue channel t) → (outstanding_over two.outbox.senders < outstanding_over q.outbox.senders) ⊎ ((outstanding_over two.outbox.senders ≡ 0) ⊎ SomeComes d.one two)
  -- and where something there was acknowledged before, fewer are outstanding there
  sooner : SomeComes c.one q → outstanding_over two.outbox.senders < outstanding_over q.outbox.senders

played : (joined : Bool) (D E : ℕ → Sent → Type 0) (now there : ℕ) (c d : Connection) (p q : Peering) → Invariant joined c → IsOpen c.one p → IsOpen c.two q → (r : RoundInTurn now there c d)
    → ((x : Peering) → r.one.peer ≡ Some x → (channel : ℕ) (t : Sent) → HasSent x.outbox.senders channel t → D channel t)
    → ((x : Peering) → r.two.peer ≡ Some x → (channel : ℕ) (t : Sent) → HasSent x.outbox.senders channel t → E channel t ⊎ OnItsWay q.offset c.one channel t) → Played joined D E now there p q c d
played joined D E now there c d p q i open_one open_two r waits_one waits_two = record {
  one = t1.peer;
  is_one = t1.is;
  on_one = t1.connected;
  two = t2.peer;
  is_two = t2.is;
  on_two = t2.connected;
  joint = joint-swap joined d.two d.one (takes-joint joined r.events_two r.two_out d.one d.two r.takes_two (joint-swap joined d.one r.two_out (takes-joint joined r.events_one r.one_in r.two_out d.one r.takes_one (joint-swap joined r.two_out r.one_in b.joint))));
  none_one = λ channel t h. a.none channel t (t1.kept.sent channel t h);
  way_two = λ channel t h. elim (way channel t (t2.kept.sent channel t h)) [ inl e ↦ inl e | inr w ↦ inr (w.0, w.1, w.2, w.3, told-still b.peer t2.peer w.0 t.transmission t2.kept.offset w.4) ];
  least_one = (let x = a.least in let y = kept-least b.other t1.peer t1.kept in let z = tick_one.over in omega arith);
  least_two = (let x = b.least in let y = kept-least b.peer t2.peer t2.kept in let w = kept-least q0 a.first.other a.first.other_kept in let z = tick_two.over in omega arith);
  less_one = λ due. elim a.how [
    | inl less ↦ inl (let y = kept-least b.other t1.peer t1.kept in let z = tick_one.over in omega arith)
    | inr x ↦
        let o = none-waits now p b.other (only-waits now p p0 a.first.peer b.other tick_one open_one.fit x.1 a.first.mtu x.0 x.2 (a.first.awaited (tick_one.awaited (open_one.fit 0).awaited))) (λ channel t h. due channel t (a.none channel t h)) in
        inr (let n = o.1 in let y = kept-least b.other t1.peer t1.kept in omega arith)
  ];
  less_two = λ due. by due b.how a.first.other_kept.senders t2.kept.senders;
  sooner = λ w. (let less = came-sooner w in let x = b.least in let y = kept-least b.peer t2.peer t2.kept in let z = tick_two.over in omega arith);
}
  where
    s1 : TicksTo now c.one r.one p
    s1 = ticks-to now c.one c.two r.one p r.ticks_one open_one.is r.patient_one

    s2 : TicksTo there c.two r.two q
    s2 = ticks-to there c.two r.one r.two q r.ticks_two open_two.is r.patient_two

    p0 : Peering
    p0 = s1.peer

    q0 : Peering
    q0 = s2.peer

    tick_one : Ticked now p p0
    tick_one = s1.tick

    tick_two : Ticked there q q0
    tick_two = s2.tick

    joint : Joint joined r.one r.two
    joint = joint-swap joined r.two r.one (ticks-joint joined there c.two r.one r.two r.ticks_two (joint-swap joined r.one c.two (ticks-joint joined now c.one c.two r.one r.ticks_one i)))

    a : Exchanged joined D now p0 q0 r.one_out r.two_in r.two_out r.one_in
    a = exchanged joined D now there p0 q0 r.one r.two r.one_out r.two_in r.two_out r.one_in joint s1.is s1.connected s2.is s2.connected r.forth r.back (λ channel t h. inl (waits_one p0 s1.is channel t h))

    b : Sending joined (HasSent a.first.other.outbox.senders) a.first.other a.first.peer r.two_out r.one_in
    b = a.then'

    t1 : Came r.one_in d.one b.other
    t1 = took-all r.events_one r.one_in r.two_out d.one b.other r.takes_one b.other_is b.other_connected

    t2 : Came r.two_out d.two b.peer
    t2 = took-all r.events_two r.two_out d.one d.two b.peer r.takes_two b.is b.connected

    -- what waited at the other end, once the one end has put out all
    at_two : (channel : ℕ) (t : Sent) → HasSent q0.outbox.senders channel t → E channel t ⊎ AnswersAt q0.offset p0 channel t.command.number t.transmission
    at_two channel t h = elim (waits_two q0 s2.is channel t h) [
      | inl e ↦ inl e
      | inr w ↦ inr (
        w.0,
        subst (λ (l : List Acknowledgement). Has l (record { channel = channel; number = t.command.number; time = w.0 })) (sym tick_one.acknowledgements)
            (subst (λ (x : Peering). Has x.outbox.acknowledgements (record { channel = channel; number = t.command.number; time = w.0 })) (same-peer c.one w.1 p w.2 open_one.is) w.3),
        told-still q q0 w.0 t.transmission tick_two.offset w.4,
      )
    ]

    mid : (channel : ℕ) (t : Sent) → HasSent a.first.other.outbox.senders channel t → E channel t
    mid channel t h =
        let m = answers-all joined E now there r.forth.datagrams r.one r.two r.one_out r.two_in p0 q0 r.forth.puts joint s1.is s1.connected s2.is s2.connected at_two in
        let it : m.0 ≡ a.first.other = same-peer r.two_in m.0 a.first.other m.1 a.first.other_is in
        let rests = r.forth.spent m.2 m.3 in
        elim (m.4 channel t (subst (λ (y : Peering). HasSent y.outbox.senders channel t) (sym it) h)) [
          | inl e ↦ e
          | inr w ↦ absurd (subst (λ (l : List Acknowledgement). Has l (record { channel = channel; number = t.command.number; time = w.0 })) rests.acknowledgements w.1)
        ]

    -- an acknowledgement that was on its way takes its command away
    came-sooner : SomeComes c.one q → outstanding_over a.first.other.outbox.senders < outstanding_over q0.outbox.senders
    came-sooner w =
        let channel : ℕ = w.0 in
        let x : Sent = w.2 in
        let t : Sent = marked (tick_of q there) x in
        let time : ℕ = w.4.0 in
        let ack : Acknowledgement = record { channel = channel; number = x.command.number; time = time } in
        let has : Has p0.outbox.acknowledgements ack = subst (λ (l : List Acknowledgement). Has l ack) (sym tick_one.acknowledgements) (subst (λ (y : Peering). Has y.outbox.acknowledgements ack) (same-peer c.one w.4.1 p w.4.2 open_one.is) w.4.3) in
        let told = told-still q q0 time x.transmission tick_two.offset w.4.4 in
        let went = went-marked (tick_of q there) x.transmission (meant_time time (q0.offset % 2 ^ 16)) ∙ told in
        let m = answers-many joined now there r.forth.datagrams r.one r.two r.one_out r.two_in p0 q0 ack t r.forth.puts joint s1.is s1.connected s2.is s2.connected w.1 (tick_two.still channel x w.3) refl went has in
        elim m.2 [
          | inl less ↦ subst (λ (y : Peering). outstanding_over y.outbox.senders < outstanding_over q0.outbox.senders) (same-peer r.two_in m.0 a.first.other m.1 a.first.other_is) less
          | inr still ↦ absurd (let rests = r.forth.spent still.0 still.1 in subst (λ (l : List Acknowledgement). Has l ack) rests.acknowledgements still.2)
        ]

    way : (channel : ℕ) (t : Sent) → HasSent b.peer.outbox.senders channel t → E channel t ⊎ OnItsWay b.peer.offset d.one channel t
    way channel t h = elim (b.all channel t h) [
      | inl old ↦ inl (mid channel t old)
      | inr w ↦ inr (
        w.0,
        t1.peer,
        t1.is,
        t1.kept.acknowledgements (record { channel = channel; number = t.command.number; time = w.0 })
            (subst (λ (x : Peering). Has x.outbox.acknowledgements (record { channel = channel; number = t.command.number; time = w.0 })) (same-peer r.one_in w.1 b.other w.2 b.other_is) w.3),
        w.4,
      )
    ]

    by : ((channel : ℕ) (t : Sent) → E channel t → IsDue channel t)
        → (b.peer.outbox.senders ≡ a.first.other.outbox.senders) ⊎ ((outstanding_over b.peer.outbox.senders < outstanding_over a.first.other.outbox.senders) ⊎ Coming r.one_in b.peer)
        → (a.first.other.outbox.senders ≡ q0.outbox.senders) ⊎ (outstanding_over a.first.other.outbox.senders < outstanding_over q0.outbox.senders)
        → (t2.peer.outbox.senders ≡ b.peer.outbox.senders) ⊎ (outstanding_over t2.peer.outbox.senders < outstanding_over b.peer.outbox.senders)
        → (outstanding_over t2.peer.outbox.senders < outstanding_over q.outbox.senders) ⊎ ((outstanding_over t2.peer.outbox.senders ≡ 0) ⊎ SomeComes d.one t2.peer)
    by none x (inr less) z = inl (let u = b.least in let y = kept-least b.peer t2.peer t2.kept in let o = tick_two.over in omega arith)
    by none x (inl y) (inr less) = inl (let u = b.least in let v = kept-least q0 a.first.other a.first.other_kept in let o = tick_two.over in omega arith)
    by none (inr (inl less)) (inl y) (inl z) = inl (let u = kept-least b.peer t2.peer t2.kept in let v = kept-least q0 a.first.other a.first.other_kept in let o = tick_two.over in omega arith)
    by none (inr (inr k)) (inl y) (inl z) = inr (inr (
      k.answer.channel,
      k.low,
      k.sent,
      subst (λ (l : List SendingEnd). HasSent l k.answer.channel k.sent) (sym z) k.has,
      (
        k.answer.time,
        t1.peer,
        t1.is,
        subst (λ number. Has t1.peer.outbox.acknowledgements (record { channel = k.answer.channel; number = number; time = k.answer.time })) (sym k.number)
            (t1.kept.acknowledgements k.answer (subst (λ (y : Peering). Has y.outbox.acknowledgements k.answer) (same-peer r.one_in k.peer b.other k.is b.other_is) k.there)),
        told-still b.peer t2.peer k.answer.time k.sent.transmission t2.kept.offset k.went,
      ),
    ))
    by none (inl x) (inl y) (inl z) =
        let o = none-waits there q b.peer (only-waits there q q0 b.peer b.peer tick_two open_two.fit (x ∙ y) (b.mtu ∙ a.first.other_kept.mtu) (x ∙ y) (r.back.spent b.peer b.is)
        (b.awaited (a.first.other_kept.awaited (tick_two.awaited (open_two.fit 0).awaited))))
        (λ channel t h. none channel t (mid channel t (subst (λ (l : List SendingEnd). HasSent l channel t) x h))) in
        inr (inl (let n = o.1 in let u = kept-least b.peer t2.peer t2.kept in omega arith))

-- ---- rounds, one after another
-- all that waits at the one end is due; so at the other, or it was acknowledged, by what waits to go at the one
record Fresh (c : Connection) (p q : Peering) : Type 0 where
  one : AllSentDue p
  two : (channel : ℕ) (t : Sent) → HasSent q.outbox.senders channel t → IsDue channel t ⊎ OnItsWay q.offset c.one channel t

-- so many rounds are enough
abbrev Enough : ℕ → End → Peering → Peering → Type 0
Enough n other p q = (2 * total p q ≤ n) ⊎ (SomeComes other q × (2 * total p q ≤ n + 1))

fresh-rounds : (joined : Bool) (moments : List (ℕ × ℕ)) (c d : Connection) (p q : Peering) → Invariant joined c → c.one.peer ≡ Some p → c.two.peer ≡ Some q → p.state ≡ state.Connected → q.state ≡ state.Connected → Fresh c p q
    → RoundsInTurn moments c d → Enough (length moments) c.one p q → BothThrough d
fresh-rounds joined [] c d p q i is_one is_two on_one on_two f r enough =
    subst BothThrough (sym r) (both-through joined c p q i is_one is_two on_one on_two (elim enough [ inl few ↦ omega arith | inr w ↦ (let few = w.1 in omega arith) ]))
fresh-rounds joined (m ∷ moments) c d p q i is_one is_two on_one on_two f r enough =
    fresh-rounds joined moments r.4 d k.one k.two k.joint k.is_one k.is_two k.on_one k.on_two (record { one = k.none_one; two = k.way_two }) r.6 (by enough)
  where
    same_one : r.0 ≡ p
    same_one = same-peer c.one r.0 p r.2.is is_one

    same_two : r.1 ≡ q
    same_two = same-peer c.two r.1 q r.3.is is_two

    was : total r.0 r.1 ≡ total p q
    was = λ j. total (same_one j) (same_two j)

    fresh : Fresh c r.0 r.1
    fresh = subst (λ (x : Peering). Fresh c x r.1) (sym same_one) (subst (λ (y : Peering). Fresh c p y) (sym same_two) f)

    s1 : TicksTo m.0 c.one r.5.one r.0
    s1 = ticks-to m.0 c.one c.two r.5.one r.0 r.5.ticks_one r.2.is r.5.patient_one

    s2 : TicksTo m.1 c.two r.5.two r.1
    s2 = ticks-to m.1 c.two r.5.one r.5.two r.1 r.5.ticks_two r.3.is r.5.patient_two

    k : Played joined IsDue IsDue m.0 m.1 r.0 r.1 c r.4
    k = played joined IsDue IsDue m.0 m.1 c r.4 r.0 r.1 i r.2 r.3 r.5
        (λ x is channel t h. elim (due-or-was m.0 r.0 s1.peer s1.tick channel t (subst (λ (y : Peering). HasSent y.outbox.senders channel t) (same-peer r.5.one x s1.peer is s1.is) h)) [ inl due ↦ due | inr old ↦ fresh.one channel t old ])
        (λ x is channel t h. elim (due-or-was m.1 r.1 s2.peer s2.tick channel t (subst (λ (y : Peering). HasSent y.outbox.senders channel t) (same-peer r.5.two x s2.peer is s2.is) h)) [ inl due ↦ inl due | inr old ↦ fresh.two channel t old ])

    less_one : (outstanding_over k.one.outbox.senders < outstanding_over r.0.outbox.senders) ⊎ (outstanding_over k.one.outbox.senders ≡ 0)
    less_one = k.less_one (λ channel t due. due)

    by : Enough (suc (length moments)) c.one p q → Enough (length moments) r.4.one k.one k.two
    by (inr w) = inl (let less = k.sooner (subst (SomeComes c.one) (sym same_two) w.0) in let few = w.1 in let same = was in let a = k.least_one in omega arith)
    by (inl few) = elim less_one [
      | inl less ↦ inl (let same = was in let b = k.least_two in omega arith)
      | inr none ↦ elim (k.less_two (λ channel t due. due)) [
        | inl less ↦ inl (let same = was in let a = k.least_one in omega arith)
        | inr e ↦ elim e [
          | inl nothing ↦ inl (omega arith)
          | inr comes ↦ inr (comes, (let same = was in let a = k.least_one in let b = k.least_two in omega arith))
        ]
      ]
    ]

-- what waits since the rounds began: at the one end it is as it was, or due; so at the other, or its acknowledgement is on its way
record Since (c : Connection) (p q p' q' : Peering) : Type 0 where
  one : (channel : ℕ) (t : Sent) → HasSent p'.outbox.senders channel t → IsDue channel t ⊎ HasSent p.outbox.senders channel t
  two : (channel : ℕ) (t : Sent) → HasSent q'.outbox.senders channel t → (IsDue channel t ⊎ HasSent q.outbox.senders channel t) ⊎ OnItsWay q'.offset c.one channel t
  least : total p' q' ≤ total p q

-- a command is due, or waited at a peer, and its timeout isn't over
abbrev IsOf : ℕ → Peering → ℕ → Sent → Type 0
IsOf now p channel t = IsDue channel t ⊎ (HasSent p.outbox.senders channel t × (has_waited_out now t ≡ false))

played-since : (joined : Bool) (now there : ℕ) (c d : Connection) (p q p' q' : Peering) → Invariant joined c → IsOpen c.one p' → IsOpen c.two q' → RoundInTurn now there c d → Since c p q p' q' → Played joined (IsOf now p) (IsOf there q) now there p' q' c d
played-since joined now there c d p q p' q' i open_one open_two r since = played joined (IsOf now p) (IsOf there q) now there c d p' q' i open_one open_two r
    (λ x is channel t h. at_one channel t (subst (λ (y : Peering). HasSent y.outbox.senders channel t) (same-peer r.one x s1.peer is s1.is) h) t.transmission.due refl)
    (λ x is channel t h. at channel t (subst (λ (y : Peering). HasSent y.outbox.senders channel t) (same-peer r.two x s2.peer is s2.is) h) t.transmission.due refl)
  where
    s1 : TicksTo now c.one r.one p'
    s1 = ticks-to now c.one c.two r.one p' r.ticks_one open_one.is r.patient_one

    s2 : TicksTo there c.two r.two q'
    s2 = ticks-to there c.two r.one r.two q' r.ticks_two open_two.is r.patient_two

    at_one : (channel : ℕ) (t : Sent) → HasSent s1.peer.outbox.senders channel t → (b : Bool) → t.transmission.due ≡ b → IsOf now p channel t
    at_one channel t h true e = inl e
    at_one channel t h false e =
        let f = s1.tick.from channel t h e in
        elim (since.one channel t f.0) [ inl due ↦ inl due | inr k ↦ inr (k, f.1) ]

    at : (channel : ℕ) (t : Sent) → HasSent s2.peer.outbox.senders channel t → (b : Bool) → t.transmission.due ≡ b → IsOf there q channel t ⊎ OnItsWay q'.offset c.one channel t
    at channel t h true e = inl (inl e)
    at channel t h false e =
        let f = s2.tick.from channel t h e in
        elim (since.two channel t f.0) [
          | inl k ↦ elim k [ inl due ↦ inl (inl due) | inr old ↦ inl (inr (old, f.1)) ]
          | inr w ↦ inr w
        ]

-- what waited as rounds began is due once its timeout is over
due-by-now : (when : ℕ) (x : Peering) (channel : ℕ) (t : Sent) → AllOver when x → IsOf when x channel t → IsDue channel t
due-by-now when x channel t over (inl due) = due
due-by-now when x channel t over (inr k) = elim (over k.0.0 (Has-at x.outbox.senders channel k.0.0 k.0.1) t k.0.2) [
  | inl e ↦ e
  | inr e ↦ absurd (let z : true ≡ false = sym e ∙ k.1 in cc)
]

-- or as it was
or-as-before : (now : ℕ) (p : Peering) (channel : ℕ) (t : Sent) → IsOf now p channel t → IsDue channel t ⊎ HasSent p.outbox.senders channel t
or-as-before now p channel t (inl due) = inl due
or-as-before now p channel t (inr k) = inr k.0

waiting-rounds : (joined : Bool) (earlier : List (ℕ × ℕ)) (now there : ℕ) (later : List (ℕ × ℕ)) (c d : Connection) (p q p' q' : Peering) → Invariant joined c → c.one.peer ≡ Some p' → c.two.peer ≡ Some q' → Since c p q p' q'
    → AllOver now p → AllOver there q → RoundsInTurn (earlier ++ (now, there) ∷ later) c d → 2 * total p q ≤ length later → BothThrough d
waiting-rounds joined [] now there later c d p q p' q' i is_one is_two since over_one over_two r few =
    fresh-rounds joined later r.4 d k.one k.two k.joint k.is_one k.is_two k.on_one k.on_two (record {
      one = λ channel t h. due-by-now now p channel t over_one (k.none_one channel t h);
      two = λ channel t h. elim (k.way_two channel t h) [ inl e ↦ inl (due-by-now there q channel t over_two e) | inr w ↦ inr w ];
    }) r.6 (inl (let a = k.least_one in let e = k.least_two in let l = since.least in let same = was in omega arith))
  where
    same_one : r.0 ≡ p'
    same_one = same-peer c.one r.0 p' r.2.is is_one

    same_two : r.1 ≡ q'
    same_two = same-peer c.two r.1 q' r.3.is is_two

    was : total r.0 r.1 ≡ total p' q'
    was = λ j. total (same_one j) (same_two j)

    k : Played joined (IsOf now p) (IsOf there q) now there r.0 r.1 c r.4
    k = played-since joined now there c r.4 p q r.0 r.1 i r.2 r.3 r.5 (subst (λ (x : Peering). Since c p q x r.1) (sym same_one) (subst (λ (y : Peering). Since c p q p' y) (sym same_two) since))
waiting-rounds joined (m ∷ earlier) now there later c d p q p' q' i is_one is_two since over_one over_two r few =
    waiting-rounds joined earlier now there later r.4 d p q k.one k.two k.joint k.is_one k.is_two (record {
      one = λ channel t h. or-as-before m.0 p channel t (k.none_one channel t h);
      two = λ channel t h. elim (k.way_two channel t h) [ inl e ↦ inl (or-as-before m.1 q channel t e) | inr w ↦ inr w ];
      least = (let a = k.least_one in let e = k.least_two in let l = since.least in let same = was in omega arith);
    }) over_one over_two r.6 few
  where
    same_one : r.0 ≡ p'
    same_one = same-peer c.one r.0 p' r.2.is is_one

    same_two : r.1 ≡ q'
    same_two = same-peer c.two r.1 q' r.3.is is_two

    was : total r.0 r.1 ≡ total p' q'
    was = λ j. total (same_one j) (same_two j)

    k : Played joined (IsOf m.0 p) (IsOf m.1 q) m.0 m.1 r.0 r.1 c r.4
    k = played-since joined m.0 m.1 c r.4 p q r.0 r.1 i r.2 r.3 r.5 (subst (λ (x : Peering). Since c p q x r.1) (sym same_one) (subst (λ (y : Peering). Since c p q p' y) (sym same_two) since))

pub all-in-turn : (joined : Bool) (earlier : List (ℕ × ℕ)) (now there : ℕ) (later : List (ℕ × ℕ)) (c d : Connection) (p q : Peering) → Invariant joined c → c.one.peer ≡ Some p → c.two.peer ≡ Some q → AllOver now p → AllOver there q
    → RoundsInTurn (earlier ++ (now, there) ∷ later) c d → 2 * total p q ≤ length later → BothThrough d
all-in-turn joined earlier now there later c d p q i is_one is_two over_one over_two r few =
    waiting-rounds joined earlier now there later c d p q p q i is_one is_two (record { one = λ channel t h. inr h; two = λ channel t h. inl (inr h); least = omega arith }) over_one over_two r few

-- a round in which the one end has two turns begins with one in which it has one
pub begins-in-turn : (now there : ℕ) (c d : Connection) → RoundOfBoth now there c d → (b : Connection) × RoundInTurn now there c b
begins-in-turn now there c d r = (
  record { one = r.one_in; two = r.two_out },
  record {
    one = r.one;
    ticks_one = inl r.ticks_one;
    patient_one = r.patient_one;
    two = r.two;
    ticks_two = inl r.ticks_two;
    patient_two = r.patient_two;
    one_out = r.one_out;
    two_in = r.two_in;
    forth = r.forth;
    two_out = r.two_out;
    one_in = r.one_in;
    back = r.back;
    events_one = 0;
    takes_one = refl;
    events_two = 0;
    takes_two = refl;
  },
)
