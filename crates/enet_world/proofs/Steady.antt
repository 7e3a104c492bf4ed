-- A round without losses between two connected peers: patience outlasts it, and what waits after it waited before, or was acknowledged since.
use Rattle.std.proofs.Common.{◌≡◌, ℕ, ◌-◌, ◌*◌, ◌%◌, ◌<◌, ◌≤◌, Bool, true, false, List, refl, sym, ap, subst, ◌∙◌, inl, inr, ◌⊎◌, Some, ◌^◌, arith}
use Rattle.std.specs.List.{slice_get}
use Rattle.enet_rtt.specs.Clock.{meant_time}
use Rattle.enet_rtt.specs.Expiry.{gives_up, standard_patience}
use Rattle.enet_rtt.specs.Transmission.{went_at}
use Rattle.enet_rtt.specs.declared.transmission.Transmission.{Transmission}
use Rattle.enet_senders.specs.declared.control.SentControl.{SentControl}
use Rattle.law_connection.specs.LinkSteps.{Has}
use Rattle.enet_sender.specs.declared.sent.Sent.{Sent}
use Rattle.enet_sender.specs.Due.{SendingEnd}
use Rattle.enet_outbox.specs.declared.parts.Acknowledgement.{Acknowledgement}
use Rattle.enet_outbox.specs.Outbox.{has_ended}
use Rattle.enet_peer.specs.declared.parts.PeerState.{PeerState}
use Rattle.enet_peer.specs.declared.parts.PeerState.TheVariants as state
use Rattle.enet_peer.specs.Peering.{Peering}
use Rattle.enet_peer.specs.Calls.{is_answering, tick_of, ticked, with_throttle_limit}
use Rattle.law_connection.specs.Connection.{End, Connection}
use Rattle.law_connection.specs.Invariant.{Invariant}
use Rattle.law_progress.specs.Exchanges.{HasSent}
use Rattle.law_progress.specs.InTurn.{Ticks, RoundInTurn}
use Rattle.law_progress.proofs.BothRounds.{AnswersAt, OnItsWay, went-marked, Sending, Exchanged, exchanged, answers-all, tick-peer}
use Rattle.law_progress.proofs.Exchanges.{Joint, joint-swap, same-peer, Came, took-all}
use Rattle.law_progress.proofs.Found.{controls-rest}
use Rattle.law_progress.proofs.Waiting.{Each, Sends}
use Rattle.enet_world.specs.Stands.{AllYoung}
use Rattle.enet_world.proofs.Modest.{Controlled, modest-ticked, modest-pings}
use Rattle.enet_world.proofs.Moments.{outlasts, Waited, waited, waited-limited, has-place, ticks-joint}
use Rattle.enet_world.proofs.Pinged.{Stood, stood-takes}
use Rattle.enet_world.proofs.Pings.{IsLone, is_ping}
use Rattle.enet_world.proofs.Punctual.{Rests}
use Rattle.enet_world.proofs.Trips.{OnChannels, puts-stood, puts-each, puts-controls, puts-channels, Pinging, pinging-many, answers-pinged}
use Rattle.enet_world.proofs.Youth.{moment, IsOld, IsOlder, HasARound, old-lasts, round-lasts, old-marked, older-stays, old-since, older-since, round-since, begun-has, again-has, young-old, IsOldFor, HasRounds, old-for-lasts, rounds-last, old-for-marked, old-for-since, rounds-since, begun-rounds, again-rounds}

-- ---- before a round
-- a connected peer of which nothing was set
pub record IsPlain (p : Peering) : Type 0 where
  pub on : p.state ≡ state.Connected
  pub patience : p.patience ≡ standard_patience
  pub lone : IsLone is_ping p.outbox.control

-- what waits at the one end was sent before the rounds; and so what waits at the other, or its acknowledgement waits to go at the one. What
-- waits on the channels has so many milliseconds left
pub record Ready (left d a b : ℕ) (p q : Peering) : Type 0 where
  pub one_channels : (channel : ℕ) (t : Sent) → HasSent p.outbox.senders channel t → IsOldFor left a p.heard t.transmission
  pub one_controls : (t : SentControl) → Has p.outbox.control.sent t → IsOld d a p.heard t.transmission
  pub two_channels : (channel : ℕ) (t : Sent) → HasSent q.outbox.senders channel t → IsOldFor left b q.heard t.transmission ⊎ (HasRounds left b q.heard t.transmission × AnswersAt q.offset p channel t.command.number t.transmission)
  pub two_controls : (t : SentControl) → Has q.outbox.control.sent t → IsOld d b q.heard t.transmission ⊎ (HasARound d b q.heard t.transmission × AnswersAt q.offset p 0xFF t.command.number t.transmission)

-- where something waits on a channel, a round more is left
abbrev pub HasMore : (left d : ℕ) → Peering → Type 0
HasMore left d p = (channel : ℕ) (t : Sent) → HasSent p.outbox.senders channel t → d ≤ left

-- so no patience is over by the next moments
pub one-lasts : (left d a b : ℕ) (p q : Peering) → d < 30000 → IsPlain p → HasMore left d p → Ready left d a b p q → has_ended p.outbox (moment a d) p.patience p.heard ≡ false
one-lasts left d a b p q low plain more r =
    outlasts p (moment a d) plain.patience (λ t h. old-lasts d a p.heard t.transmission low (r.one_controls t h)) (λ channel t h. old-for-lasts d left a p.heard t.transmission (more channel t h) low (r.one_channels channel t h))

pub two-lasts : (left d a b : ℕ) (p q : Peering) → d < 30000 → IsPlain q → HasMore left d q → Ready left d a b p q → has_ended q.outbox (moment b d) q.patience q.heard ≡ false
two-lasts left d a b p q low plain more r = outlasts q (moment b d) plain.patience (λ t h. by t.transmission (r.two_controls t h)) (λ channel t h. on t.transmission (more channel t h) (r.two_channels channel t h))
  where
    on : {X : Type 0} (t : Transmission) → d ≤ left → IsOldFor left b q.heard t ⊎ (HasRounds left b q.heard t × X) → gives_up standard_patience (moment b d) q.heard t ≡ false
    on t some (inl old) = old-for-lasts d left b q.heard t some low old
    on t some (inr k) = rounds-last d left b q.heard t some low k.0

    by : {X : Type 0} (t : Transmission) → IsOld d b q.heard t ⊎ (HasARound d b q.heard t × X) → gives_up standard_patience (moment b d) q.heard t ≡ false
    by t (inl old) = old-lasts d b q.heard t low old
    by t (inr k) = round-lasts d b q.heard t low k.0

-- where all that waits is young
pub ready-first : (lasts d a b : ℕ) (p q : Peering) → AllYoung d lasts a p → AllYoung d lasts b q → Each (Rests a) p.outbox.control.sent p.outbox.senders → Each (Rests b) q.outbox.control.sent q.outbox.senders → Ready (lasts * d) d a b p q
ready-first lasts d a b p q young_p young_q rests_p rests_q = record {
  one_channels = λ channel t h. young_p.channels h.0 (at p.outbox.senders channel h.0 h.1) t h.2;
  one_controls = λ t h. young-old d a p.heard t.transmission (young_p.controls t h) (rests_p.0 t h);
  two_channels = λ channel t h. inl (young_q.channels h.0 (at q.outbox.senders channel h.0 h.1) t h.2);
  two_controls = λ t h. inl (young-old d b q.heard t.transmission (young_q.controls t h) (rests_q.0 t h));
}
  where
    at : (xs : List SendingEnd) (i : ℕ) (x : SendingEnd) → slice_get xs i ≡ Some x → Has xs x
    at = Rattle.law_progress.proofs.Waiting.Has-at

-- ---- a moment comes
record Timed (now : ℕ) (p : Peering) (new : End) : Type 0 where
  peer : Peering
  is : new.peer ≡ Some peer
  on : peer.state ≡ state.Connected
  lone : IsLone is_ping peer.outbox.control
  waited : Waited now p peer

timed : (now : ℕ) (own other new : End) (p : Peering) → Ticks now own other new → own.peer ≡ Some p → IsPlain p → has_ended p.outbox now p.patience p.heard ≡ false → Timed now p new
timed now own other new p ticks is plain lasts = by ticks
  where
    elsewhere : is_answering p.state ≡ false
    elsewhere = ap is_answering plain.on

    w : Waited now p (ticked p now)
    w = waited p now elsewhere lasts

    on : (ticked p now).state ≡ state.Connected
    on = w.state ∙ plain.on

    lone : IsLone is_ping (ticked p now).outbox.control
    lone = modest-pings (ticked p now) on (modest-ticked p now (subst (λ (s : PeerState). Controlled s p.outbox.control) (sym plain.on) plain.lone))

    by : Ticks now own other new → Timed now p new
    by (inl h) = record { peer = ticked p now; is = tick-peer own other new now p h is elsewhere; on = on; lone = lone; waited = w }
    by (inr h) = record {
      peer = with_throttle_limit (ticked p now) h.0;
      is = ap (λ (e : End). e.peer) h.3.3 ∙ ap (λ (x : Peering). Some (with_throttle_limit x h.0)) (same-peer h.1 h.3.0 (ticked p now) h.3.1 (tick-peer own other h.1 now p h.2 is elsewhere));
      on = on;
      lone = lone;
      waited = waited-limited p (ticked p now) now h.0 w;
    }

-- ---- a round
-- by what came when a peer was last heard
since-by : (u v w now : ℕ) → (u ≡ v) ⊎ (u ≡ now) → (v ≡ w) ⊎ (v ≡ now) → (u ≡ w) ⊎ (u ≡ now)
since-by u v w now (inr e) k = inr e
since-by u v w now (inl e) (inl f) = inl (e ∙ f)
since-by u v w now (inl e) (inr f) = inr (e ∙ f)

anything : (now wait : ℕ) → Sends (λ t. Unit {0}) now wait
anything now wait = record { first = tt; again = λ t r due. tt }

-- both ends are ready for another
pub record ReadyAgain (left d a b : ℕ) (e : Connection) : Type 0 where
  pub one : Peering
  pub is_one : e.one.peer ≡ Some one
  pub two : Peering
  pub is_two : e.two.peer ≡ Some two
  pub ready : Ready left d a b one two

pub steady-round : (joined : Bool) (left d a b : ℕ) (c e : Connection) (p q : Peering) → d < 30000 → Invariant joined c → c.one.peer ≡ Some p → c.two.peer ≡ Some q → IsPlain p → IsPlain q → HasMore left d p → HasMore left d q → Ready left d a b p q
    → RoundInTurn (moment a d) (moment b d) c e → ReadyAgain (left - d) d (moment a d) (moment b d) e
steady-round joined left d a b c e p q low i is_p is_q plain_p plain_q more_p more_q ready r = record {
  one = u;
  is_one = s3.is;
  two = v;
  is_two = f3.is;
  ready = record { one_channels = u_channels; one_controls = u_controls; two_channels = v_channels; two_controls = v_controls };
}
  where
    now : ℕ
    now = moment a d

    there : ℕ
    there = moment b d

    t1 : Timed now p r.one
    t1 = timed now c.one c.two r.one p r.ticks_one is_p plain_p (one-lasts left d a b p q low plain_p more_p ready)

    t2 : Timed there q r.two
    t2 = timed there c.two r.one r.two q r.ticks_two is_q plain_q (two-lasts left d a b p q low plain_q more_q ready)

    p0 : Peering
    p0 = t1.peer

    q0 : Peering
    q0 = t2.peer

    joint : Joint joined r.one r.two
    joint = joint-swap joined r.two r.one (ticks-joint joined there c.two r.one r.two r.ticks_two (joint-swap joined r.one c.two (ticks-joint joined now c.one c.two r.one r.ticks_one i)))

    -- what waits at either when it begins to put out, of which this holds
    P : Transmission → Type 0
    P t = IsOlder d now p.heard t

    Q : Transmission → Type 0
    Q t = IsOlder d there q.heard t

    -- and on the channels
    rest : ℕ
    rest = left - d

    P' : Transmission → Type 0
    P' t = IsOldFor rest now p.heard t

    Q' : Transmission → Type 0
    Q' t = IsOldFor rest there q.heard t

    d0 : (channel : ℕ) (t : Sent) → HasSent p0.outbox.senders channel t → P' t.transmission
    d0 channel t h = (let w = t1.waited.channels channel t h in subst (λ (y : Sent). P' y.transmission) w.2 (old-for-marked d left a p.heard p w.0.transmission (more_p channel w.0 w.1) (ready.one_channels channel w.0 w.1)))

    c0 : (t : SentControl) → Has p0.outbox.control.sent t → P t.transmission
    c0 t h = (let w = t1.waited.controls t h in subst (λ (y : SentControl). P y.transmission) w.2 (old-marked d a p w.0.transmission low (ready.one_controls w.0 w.1)))

    -- an acknowledgement that waited at the one end waits when it begins to put out
    waits-yet : (channel m n : ℕ) (x t : Transmission) → m ≡ n → ((time : ℕ) → went_at time x ≡ went_at time t) → AnswersAt q.offset p channel m x → AnswersAt q0.offset p0 channel n t
    waits-yet channel m n x t same went w =
        (w.0, subst (λ (l : List Acknowledgement). Has l (record { channel = channel; number = n; time = w.0 })) (sym t1.waited.acknowledgements) (subst (λ k. Has p.outbox.acknowledgements (record { channel = channel; number = k; time = w.0 })) same w.1), ap (λ k. went_at (meant_time w.0 (k % 2 ^ 16)) t) t2.waited.offset ∙ sym (went (meant_time w.0 (q.offset % 2 ^ 16))) ∙ w.2)

    at_two : (channel : ℕ) (t : Sent) → HasSent q0.outbox.senders channel t → Q' t.transmission ⊎ AnswersAt q0.offset p0 channel t.command.number t.transmission
    at_two channel t h = (let w = t2.waited.channels channel t h in by w.0 w.2 (more_q channel w.0 w.1) (ready.two_channels channel w.0 w.1))
      where
        by : (x : Sent) → Rattle.enet_sender.specs.Sender.marked (tick_of q there) x ≡ t → d ≤ left → IsOldFor left b q.heard x.transmission ⊎ (HasRounds left b q.heard x.transmission × AnswersAt q.offset p channel x.command.number x.transmission)
            → Q' t.transmission ⊎ AnswersAt q0.offset p0 channel t.command.number t.transmission
        by x same some (inl old) = inl (subst (λ (y : Sent). Q' y.transmission) same (old-for-marked d left b q.heard q x.transmission some old))
        by x same some (inr k) = inr (waits-yet channel x.command.number t.command.number x.transmission t.transmission (ap (λ (y : Sent). y.command.number) same)
            (λ time. sym (went-marked (tick_of q there) x.transmission time) ∙ ap (λ (y : Sent). went_at time y.transmission) same) k.1)

    controls_two : (t : SentControl) → Has q0.outbox.control.sent t → Q t.transmission ⊎ AnswersAt q0.offset p0 0xFF t.command.number t.transmission
    controls_two t h = (let w = t2.waited.controls t h in by w.0 w.2 (ready.two_controls w.0 w.1))
      where
        by : (x : SentControl) → Rattle.enet_senders.specs.Controlling.marked (tick_of q there) x ≡ t → IsOld d b q.heard x.transmission ⊎ (HasARound d b q.heard x.transmission × AnswersAt q.offset p 0xFF x.command.number x.transmission)
            → Q t.transmission ⊎ AnswersAt q0.offset p0 0xFF t.command.number t.transmission
        by x same (inl old) = inl (subst (λ (y : SentControl). Q y.transmission) same (old-marked d b q x.transmission low old))
        by x same (inr k) = inr (waits-yet 0xFF x.command.number t.command.number x.transmission t.transmission (ap (λ (y : SentControl). y.command.number) same)
            (λ time. sym (went-marked (tick_of q there) x.transmission time) ∙ ap (λ (y : SentControl). went_at time y.transmission) same) k.1)

    -- the channels
    x : Exchanged joined (λ channel t. P' t.transmission) now p0 q0 r.one_out r.two_in r.two_out r.one_in
    x = exchanged joined (λ channel t. P' t.transmission) now there p0 q0 r.one r.two r.one_out r.two_in r.two_out r.one_in joint t1.is t1.on t2.is t2.on r.forth r.back (λ channel t h. inl (d0 channel t h))

    -- the one end has put out all
    s : Pinging (λ t. P t.transmission) r.one_out r.two_in
    s = pinging-many (λ t. P t.transmission) now there r.forth.datagrams r.one r.two r.one_out r.two_in r.forth.puts
        (record { peer = p0; is = t1.is; on = t1.on; lone = t1.lone; other = q0; other_is = t2.is; other_on = t2.on; other_lone = t2.lone; all = λ t h. inl (c0 t h) })

    s_heard : s.peer.heard ≡ p.heard
    s_heard = (let k = puts-each (λ t. Unit {0}) now there r.forth.datagrams r.one r.two r.one_out r.two_in p0 r.forth.puts t1.is t1.on (anything now) ((λ t h. tt), (λ y h t j. tt)) in
        ap (λ (y : Peering). y.heard) (same-peer r.one_out s.peer k.0 s.is k.1) ∙ k.2 ∙ t1.waited.heard)

    f1 : Stood there r.two_in q0
    f1 = puts-stood now there r.forth.datagrams r.one r.two r.one_out r.two_in q0 r.forth.puts t2.is t2.on t2.lone

    q1 : Peering
    q1 = f1.peer

    q1_heard : (q1.heard ≡ q.heard) ⊎ (q1.heard ≡ there)
    q1_heard = since-by q1.heard q0.heard q.heard there f1.leaves.heard (inl t2.waited.heard)

    mid : (channel : ℕ) (t : Sent) → HasSent q1.outbox.senders channel t → Q' t.transmission
    mid channel t h =
        let m = answers-all joined (λ k y. Q' y.transmission) now there r.forth.datagrams r.one r.two r.one_out r.two_in p0 q0 r.forth.puts joint t1.is t1.on t2.is t2.on at_two in
        let rests = r.forth.spent m.2 m.3 in
        elim (m.4 channel t (subst (λ (y : Peering). HasSent y.outbox.senders channel t) (same-peer r.two_in q1 m.0 f1.is m.1) h)) [
          | inl k ↦ k
          | inr w ↦ absurd (subst (λ (l : List Acknowledgement). Has l (record { channel = channel; number = t.command.number; time = w.0 })) rests.acknowledgements w.1)
        ]

    mid_controls : (t : SentControl) → Has q1.outbox.control.sent t → Q t.transmission
    mid_controls t h =
        let m = answers-pinged (λ y. Q y.transmission) now there r.forth.datagrams r.one r.two r.one_out r.two_in p0 q0 r.forth.puts t1.is t1.on t2.is t2.on t2.lone controls_two in
        let rests = r.forth.spent m.2 m.3 in
        elim (m.4 t (subst (λ (y : Peering). Has y.outbox.control.sent t) (same-peer r.two_in q1 m.0 f1.is m.1) h)) [
          | inl k ↦ k
          | inr w ↦ absurd (subst (λ (l : List Acknowledgement). Has l (record { channel = 0xFF; number = t.command.number; time = w.0 })) rests.acknowledgements w.1)
        ]

    -- the other end has put out all
    s2 : Stood now r.one_in s.peer
    s2 = puts-stood there now r.back.datagrams r.two_in r.one_out r.two_out r.one_in s.peer r.back.puts s.is s.on s.lone

    s3 : Stood now e.one s2.peer
    s3 = stood-takes now r.events_one r.one_in r.two_out e.one s2.peer r.takes_one s2.is s2.on s2.lone

    u : Peering
    u = s3.peer

    u_heard : (u.heard ≡ p.heard) ⊎ (u.heard ≡ now)
    u_heard = since-by u.heard s2.peer.heard p.heard now s3.leaves.heard (since-by s2.peer.heard s.peer.heard p.heard now s2.leaves.heard (inl s_heard))

    u_controls : (t : SentControl) → Has u.outbox.control.sent t → IsOld d now u.heard t.transmission
    u_controls t h = old-since d now p.heard u.heard t.transmission u_heard (older-stays d now p.heard t.transmission due old)
      where
        at_in : Has s2.peer.outbox.control.sent t
        at_in = s3.leaves.controls t h

        due : t.transmission.due ≡ false
        due = (let rests = r.forth.spent s.peer s.is in controls-rest _ _ s.peer.outbox.control rests.controls t (s2.leaves.controls t at_in))

        old : P t.transmission
        old =
            let m = answers-pinged (λ y. P y.transmission) there now r.back.datagrams r.two_in r.one_out r.two_out r.one_in s.other s.peer r.back.puts s.other_is s.other_on s.is s.on s.lone s.all in
            let rests = r.back.spent m.2 m.3 in
            elim (m.4 t (subst (λ (y : Peering). Has y.outbox.control.sent t) (same-peer r.one_in s2.peer m.0 s2.is m.1) at_in)) [
              | inl k ↦ k
              | inr w ↦ absurd (subst (λ (l : List Acknowledgement). Has l (record { channel = 0xFF; number = t.command.number; time = w.0 })) rests.acknowledgements w.1)
            ]

    k1 : Came r.one_in e.one x.then'.other
    k1 = took-all r.events_one r.one_in r.two_out e.one x.then'.other r.takes_one x.then'.other_is x.then'.other_connected

    u_channels : (channel : ℕ) (t : Sent) → HasSent u.outbox.senders channel t → IsOldFor rest now u.heard t.transmission
    u_channels channel t h =
        let k = k1.kept.sent channel t (subst (λ (y : Peering). HasSent y.outbox.senders channel t) (same-peer e.one u k1.peer s3.is k1.is) h) in
        old-for-since rest now p.heard u.heard t.transmission u_heard (x.none channel t k)

    -- what waits at the other end has been there, or was sent now
    R : Transmission → Type 0
    R t = IsOlder d there q1.heard t ⊎ ((t.due ≡ false) × HasARound d there q1.heard t)

    R' : Transmission → Type 0
    R' t = IsOldFor rest there q1.heard t ⊎ ((t.due ≡ false) × HasRounds rest there q1.heard t)

    below : there < 2 ^ 32
    below = omega arith

    sends : (wait : ℕ) → Sends R there wait
    sends wait = record { first = inr (refl, begun-has d there q1.heard wait low); again = again' }
      where
        again' : (t : Transmission) → R t → t.due ≡ true → R (Rattle.enet_rtt.specs.Transmission.again there t)
        again' t (inl o) due = inr (refl, again-has d there q1.heard t below o)
        again' t (inr k) due = absurd (let z : true ≡ false = sym due ∙ k.0 in cc)

    sends' : (wait : ℕ) → Sends R' there wait
    sends' wait = record { first = inr (refl, begun-rounds rest there q1.heard wait); again = again' }
      where
        again' : (t : Transmission) → R' t → t.due ≡ true → R' (Rattle.enet_rtt.specs.Transmission.again there t)
        again' t (inl o) due = inr (refl, again-rounds rest there q1.heard t below o)
        again' t (inr k) due = absurd (let z : true ≡ false = sym due ∙ k.0 in cc)

    each : (q2 : Peering) × (r.two_out.peer ≡ Some q2) × (q2.heard ≡ q1.heard) × ((t : SentControl) → Has q2.outbox.control.sent t → R t.transmission)
    each = puts-controls R there now r.back.datagrams r.two_in r.one_out r.two_out r.one_in q1 r.back.puts f1.is f1.on sends (λ t h. inl (older-since d there q.heard q1.heard t.transmission q1_heard (mid_controls t h)))

    each' : (q2 : Peering) × (r.two_out.peer ≡ Some q2) × OnChannels R' q2.outbox.senders
    each' = puts-channels R' there now r.back.datagrams r.two_in r.one_out r.two_out r.one_in q1 r.back.puts f1.is f1.on sends'
        (λ y k t h. (let place = has-place q1.outbox.senders y k in inl (old-for-since rest there q.heard q1.heard t.transmission q1_heard (mid place.0 t (y, place.1, h)))))

    f2 : Pinging (λ t. Has q1.outbox.control.sent t) r.two_out r.one_in
    f2 = pinging-many (λ t. Has q1.outbox.control.sent t) there now r.back.datagrams r.two_in r.one_out r.two_out r.one_in r.back.puts
        (record { peer = q1; is = f1.is; on = f1.on; lone = f1.lone; other = s.peer; other_is = s.is; other_on = s.on; other_lone = s.lone; all = λ t h. inl h })

    q2 : Peering
    q2 = f2.peer

    same_q2 : each.0 ≡ q2
    same_q2 = same-peer r.two_out each.0 q2 each.1 f2.is

    q2_heard : q2.heard ≡ q1.heard
    q2_heard = ap (λ (y : Peering). y.heard) (sym same_q2) ∙ each.2

    f3 : Stood there e.two q2
    f3 = stood-takes there r.events_two r.two_out e.one e.two q2 r.takes_two f2.is f2.on f2.lone

    v : Peering
    v = f3.peer

    v_since : (v.heard ≡ q1.heard) ⊎ (v.heard ≡ there)
    v_since = since-by v.heard q2.heard q1.heard there f3.leaves.heard (inl q2_heard)

    v_heard : (v.heard ≡ q.heard) ⊎ (v.heard ≡ there)
    v_heard = since-by v.heard q1.heard q.heard there v_since q1_heard

    -- an acknowledgement that came to wait at the one end waits at last
    waits-at-last : (n channel number time : ℕ) (t : Transmission) (y : Peering) → r.one_in.peer ≡ Some y → Has y.outbox.acknowledgements (record { channel = channel; number = number; time = time }) → went_at (meant_time time (n % 2 ^ 16)) t ≡ true
        → v.offset ≡ n → AnswersAt v.offset u channel number t
    waits-at-last n channel number time t y is h went own =
        let z : Acknowledgement = record { channel = channel; number = number; time = time } in
        let k = took-all r.events_one r.one_in r.two_out e.one s2.peer r.takes_one s2.is s2.on in
        (time, subst (λ (w : Peering). Has w.outbox.acknowledgements z) (same-peer e.one k.peer u k.is s3.is) (k.kept.acknowledgements z (subst (λ (w : Peering). Has w.outbox.acknowledgements z) (same-peer r.one_in y s2.peer is s2.is) h)), ap (λ k. went_at (meant_time time (k % 2 ^ 16)) t) own ∙ went)

    -- of what was put in now
    new : (t : Transmission) (X : Type 0) → R t → t.due ≡ false → X → IsOld d there v.heard t ⊎ (HasARound d there v.heard t × X)
    new t X (inl o) due w = inl (old-since d there q1.heard v.heard t v_since (older-stays d there q1.heard t due o))
    new t X (inr k) due w = inr (round-since d there q1.heard v.heard t v_since k.1, w)

    v_controls : (t : SentControl) → Has v.outbox.control.sent t → IsOld d there v.heard t.transmission ⊎ (HasARound d there v.heard t.transmission × AnswersAt v.offset u 0xFF t.command.number t.transmission)
    v_controls t h = by (f2.all t at_out)
      where
        at_out : Has q2.outbox.control.sent t
        at_out = f3.leaves.controls t h

        due : t.transmission.due ≡ false
        due = (let rests = r.back.spent q2 f2.is in controls-rest _ _ q2.outbox.control rests.controls t at_out)

        by : Has q1.outbox.control.sent t ⊎ AnswersAt q2.offset f2.other 0xFF t.command.number t.transmission → IsOld d there v.heard t.transmission ⊎ (HasARound d there v.heard t.transmission × AnswersAt v.offset u 0xFF t.command.number t.transmission)
        by (inl old) = inl (old-since d there q.heard v.heard t.transmission v_heard (older-stays d there q.heard t.transmission due (mid_controls t old)))
        by (inr w) = new t.transmission (AnswersAt v.offset u 0xFF t.command.number t.transmission) (each.3 t (subst (λ (y : Peering). Has y.outbox.control.sent t) (sym same_q2) at_out)) due (waits-at-last q2.offset 0xFF t.command.number w.0 t.transmission f2.other f2.other_is w.1 w.2 f3.leaves.offset)

    b2 : Sending joined (HasSent x.first.other.outbox.senders) x.first.other x.first.peer r.two_out r.one_in
    b2 = x.then'

    k2 : Came r.two_out e.two b2.peer
    k2 = took-all r.events_two r.two_out e.one e.two b2.peer r.takes_two b2.is b2.connected

    -- of what was put in now on a channel
    new' : (t : Transmission) (X : Type 0) → R' t → X → IsOldFor rest there v.heard t ⊎ (HasRounds rest there v.heard t × X)
    new' t X (inl o) w = inl (old-for-since rest there q1.heard v.heard t v_since o)
    new' t X (inr k) w = inr (rounds-since rest there q1.heard v.heard t v_since k.1, w)

    v_channels : (channel : ℕ) (t : Sent) → HasSent v.outbox.senders channel t → IsOldFor rest there v.heard t.transmission ⊎ (HasRounds rest there v.heard t.transmission × AnswersAt v.offset u channel t.command.number t.transmission)
    v_channels channel t h = by (b2.all channel t at_out)
      where
        at_out : HasSent b2.peer.outbox.senders channel t
        at_out = k2.kept.sent channel t (subst (λ (y : Peering). HasSent y.outbox.senders channel t) (same-peer e.two v k2.peer f3.is k2.is) h)

        at_each : HasSent each'.0.outbox.senders channel t
        at_each = subst (λ (y : Peering). HasSent y.outbox.senders channel t) (same-peer r.two_out b2.peer each'.0 b2.is each'.1) at_out

        by : HasSent x.first.other.outbox.senders channel t ⊎ OnItsWay b2.peer.offset r.one_in channel t → IsOldFor rest there v.heard t.transmission ⊎ (HasRounds rest there v.heard t.transmission × AnswersAt v.offset u channel t.command.number t.transmission)
        by (inl old) = inl (old-for-since rest there q.heard v.heard t.transmission v_heard (mid channel t (subst (λ (y : Peering). HasSent y.outbox.senders channel t) (same-peer r.two_in x.first.other q1 x.first.other_is f1.is) old)))
        by (inr w) = new' t.transmission (AnswersAt v.offset u channel t.command.number t.transmission) (each'.2 at_each.0 (Rattle.law_progress.proofs.Waiting.Has-at each'.0.outbox.senders channel at_each.0 at_each.1) t at_each.2)
            (waits-at-last b2.peer.offset channel t.command.number w.0 t.transmission w.1 w.2 w.3 w.4 (f3.leaves.offset ∙ ap (λ (y : Peering). y.offset) (same-peer r.two_out q2 b2.peer f2.is b2.is)))
