-- A PING that goes where nothing is lost is acknowledged, as what goes on the channels is; and what a peer that stays connected keeps meanwhile.
use Rattle.std.proofs.Common.{◌≡◌, ℕ, zero, suc, ◌+◌, ◌%◌, ◌^◌, ◌&&◌, ◌==◌, not, Bool, true, false, cond, List, [], ◌∷◌, length, map, refl, sym, ap, subst, ◌∙◌, inl, inr, ◌⊎◌, arith, Option, Some, None}
use Rattle.std.proofs.lemmas.Bool.Decides.{nat_tests}
use Rattle.enet_codec.specs.Message.{Message}
use Rattle.enet_codec.specs.declared.stop.Stop.{Stop}
use Rattle.enet_codec.specs.declared.stop.Stop.TheVariants as stop
use Rattle.enet_rtt.specs.Clock.{meant_time}
use Rattle.enet_rtt.specs.Transmission.{went_at}
use Rattle.enet_senders.specs.Controlling as controlling
use Rattle.enet_senders.specs.declared.control.Control.{Control}
use Rattle.enet_senders.specs.declared.control.Control.TheVariants as control
use Rattle.enet_senders.specs.declared.control.Numbered.{Numbered}
use Rattle.enet_senders.specs.declared.control.SentControl.{SentControl}
use Rattle.law_connection.specs.LinkSteps.{Has}
use Rattle.enet_sender.specs.Due.{SendingEnd}
use Rattle.enet_outbox.specs.declared.parts.Acknowledgement.{Acknowledgement}
use Rattle.enet_outbox.specs.Outbox.{Outbox, is_crowded, after_acknowledgement}
use Rattle.enet_outbox.specs.Outbox as outbox
use Rattle.enet_outbox.specs.Emission.{acknowledgement_of}
use Rattle.enet_peer.specs.declared.parts.PeerEvent.{PeerEvent}
use Rattle.enet_peer.specs.declared.parts.PeerState.{PeerState}
use Rattle.enet_peer.specs.declared.parts.PeerState.TheVariants as state
use Rattle.enet_peer.specs.Peering.{Peering}
use Rattle.enet_peer.specs.CommandEffect.{Outcome, obeyed, stopped, on_last_disconnect}
use Rattle.enet_peer.specs.Calls.{is_answering, next_event}
use Rattle.enet_peer.specs.Refusing.{heeded}
use Rattle.enet_peer.proofs.Refusals.{heeded-obeyed}
use Rattle.law_connection.specs.Connection.{Put, End}
use Rattle.law_connection.specs.Steps.{InTime, with_peer}
use Rattle.law_connection.proofs.Events.{took}
use Rattle.law_progress.specs.Exchanges.{HasRoomFor, Comes, AllCome, Takes}
use Rattle.law_progress.proofs.Exchanges.{same-peer, all-came, took-all}
use Rattle.law_progress.proofs.Others.{control-heard}
use Rattle.law_progress.proofs.TakenAway.{taken-away}
use Rattle.law_progress.proofs.Waiting.{Has-removed}
use Rattle.enet_world.proofs.Modest.{Controlled, modest-obeyed, modest-pings}
use Rattle.enet_world.proofs.Pings.{IsLone, Idle, Queued, Sent, is_ping, Meets, meets}

-- ---- what a command that comes leaves
pub record Leaves (now : ℕ) (p q : Peering) : Type 0 where
  pub controls : (t : SentControl) → Has q.outbox.control.sent t → Has p.outbox.control.sent t
  pub heard : (q.heard ≡ p.heard) ⊎ (q.heard ≡ now)
  pub offset : q.offset ≡ p.offset

leaves-self : (now : ℕ) (p : Peering) → Leaves now p p
leaves-self now p = record { controls = λ t h. h; heard = inl refl; offset = refl }

pub leaves-then : (now : ℕ) (p q r : Peering) → Leaves now p q → Leaves now q r → Leaves now p r
leaves-then now p q r a b = record { controls = λ t h. a.controls t (b.controls t h); heard = by b.heard; offset = b.offset ∙ a.offset }
  where
    by : (r.heard ≡ q.heard) ⊎ (r.heard ≡ now) → (r.heard ≡ p.heard) ⊎ (r.heard ≡ now)
    by (inr e) = inr e
    by (inl e) = elim a.heard [ inl f ↦ inl (e ∙ f) | inr f ↦ inr (e ∙ f) ]

meets-leaves : (now : ℕ) (m : Message) (p : Peering) → Meets (Leaves now p) now m p
meets-leaves now m p = record {
  same = leaves-self now p;
  holds = λ b. record { controls = λ t h. h; heard = inl refl; offset = refl };
  acknowledges = λ channel number time. record { controls = gone channel number; heard = inr refl; offset = refl };
  hears = λ n. record { controls = λ t h. h; heard = inl refl; offset = refl };
  paces = λ interval acceleration deceleration. record { controls = λ t h. h; heard = inl refl; offset = refl };
  ends = λ b info e. ends b info;
  answers = λ q a k. record { controls = k.controls; heard = k.heard; offset = k.offset };
}
  where
    ends : (b : Bool) (info : ℕ) → Leaves now p (on_last_disconnect p b info)
    ends true info = record { controls = λ t h. absurd h; heard = inl refl; offset = refl }
    ends false info = record { controls = λ t h. absurd h; heard = inl refl; offset = refl }

    gone : (channel number : ℕ) (t : SentControl) → Has (after_acknowledgement p.outbox channel number).control.sent t → Has p.outbox.control.sent t
    gone channel number t h = by (channel == 0xFF) h
      where
        less : (o : Option ℕ) → Has (controlling.without_place p.outbox.control.sent o) t → Has p.outbox.control.sent t
        less None k = k
        less (Some i) k = Has-removed p.outbox.control.sent i t k

        at : (s : Option SendingEnd) → Has (outbox.acknowledged_on p.outbox channel number s).control.sent t → Has p.outbox.control.sent t
        at None k = k
        at (Some s) k = k

        by : (b : Bool) → Has (cond b (record p.outbox { control = controlling.after_acknowledgement p.outbox.control number }) (outbox.acknowledged_on p.outbox channel number (Rattle.std.specs.List.slice_get p.outbox.senders channel))).control.sent t → Has p.outbox.control.sent t
        by true k = less (controlling.position_of number p.outbox.control.sent) k
        by false k = at (Rattle.std.specs.List.slice_get p.outbox.senders channel) k

-- ---- what an end is left, whose peer stays connected
pub record Stood (now : ℕ) (new : End) (q : Peering) : Type 0 where
  pub peer : Peering
  pub is : new.peer ≡ Some peer
  pub on : peer.state ≡ state.Connected
  pub leaves : Leaves now q peer
  pub lone : IsLone is_ping peer.outbox.control

-- a connected peer obeys, whether its host is full or not
plainly : (to new : End) (full : Bool) (q : Peering) (now time : ℕ) (m : Message) → q.state ≡ state.Connected → new ≡ with_peer to (heeded full q now (Some time) m).after → new ≡ with_peer to (obeyed q now (Some time) m).after
plainly to new full q now time m on e = e ∙ ap (λ (o : Outcome). with_peer to o.after) (heeded-obeyed full q now (Some time) m (ap is_answering on))

stood-one : (now time : ℕ) (from : End) (put : Put) (to new : End) (q : Peering) → Comes now time from put to new → to.peer ≡ Some q → IsLone is_ping q.outbox.control → Stood now new q
stood-one now time from put to new q c is lone = elim c.after [
  | inl h ↦
      let same : h.0 ≡ q = same-peer to h.0 q h.1 is in
      let after : new ≡ with_peer to (obeyed q now (Some time) put.message).after =
      plainly to new h.3 q now time put.message on (subst (λ (x : Peering). new ≡ with_peer to (heeded h.3 x now (Some time) put.message).after) same h.4) in
      let peer : new.peer ≡ Some (obeyed q now (Some time) put.message).after = ap (λ (e : End). e.peer) after in
      let stays = c.stays (obeyed q now (Some time) put.message).after peer in
      record {
        peer = (obeyed q now (Some time) put.message).after;
        is = peer;
        on = stays;
        leaves = meets (Leaves now q) q now (Some time) put.message on (meets-leaves now put.message q);
        lone = modest-pings (obeyed q now (Some time) put.message).after stays (modest-obeyed q now (Some time) put.message (subst (λ (s : PeerState). Controlled s q.outbox.control) (sym on) lone));
      }
  | inr k ↦ record { peer = q; is = ap (λ (e : End). e.peer) k.1 ∙ is; on = on; leaves = leaves-self now q; lone = lone }
]
  where
    on : q.state ≡ state.Connected
    on = subst (λ (x : Peering). x.state ≡ state.Connected) (same-peer to c.peer q c.is is) c.connected

pub stood-all : (now time : ℕ) (from : End) (puts : List Put) (to new : End) (q : Peering) → AllCome now time from puts to new → to.peer ≡ Some q → q.state ≡ state.Connected → IsLone is_ping q.outbox.control → Stood now new q
stood-all now time from [] to new q c is on lone = record { peer = q; is = ap (λ (e : End). e.peer) c ∙ is; on = on; leaves = leaves-self now q; lone = lone }
stood-all now time from (put ∷ puts) to new q c is on lone =
    let a = stood-one now time from put to c.0 q c.1 is lone in
    let b = stood-all now time from puts c.0 new a.peer c.2 a.is a.on a.lone in
    record { peer = b.peer; is = b.is; on = b.on; leaves = leaves-then now q a.peer b.peer a.leaves b.leaves; lone = b.lone }

-- the user takes
abbrev Untouched : Peering → Peering → Type 0
Untouched p q = (q.outbox ≡ p.outbox) × (q.heard ≡ p.heard) × (q.offset ≡ p.offset)

untouched : (p q : Peering) (e : PeerEvent) → next_event p ≡ Some (record { event = e; after = q }) → Untouched p q
untouched p q e next = took (λ r t. Untouched p r) p q e next (λ info g. (refl, refl, refl)) (λ x rest g u. (refl, refl, refl)) (λ g u at. (refl, refl, refl))

pub stood-takes : (now n : ℕ) (own other new : End) (p : Peering) → Takes n own other new → own.peer ≡ Some p → p.state ≡ state.Connected → IsLone is_ping p.outbox.control → Stood now new p
stood-takes now zero own other new p t is on lone = record { peer = p; is = ap (λ (e : End). e.peer) t ∙ is; on = on; leaves = leaves-self now p; lone = lone }
stood-takes now (suc n) own other new p t is on lone =
    let h = t.1 in
    let one = took-all 1 own other t.0 p (t.0, t.1, refl) is on in
    let it : h.0 ≡ p = same-peer own h.0 p h.3 is in
    let same : h.1 ≡ one.peer = same-peer t.0 h.1 one.peer (ap (λ (e : End). e.peer) h.5) one.is in
    let left : Untouched p one.peer = subst (λ (x : Peering). Untouched p x) same (subst (λ (x : Peering). Untouched x h.1) it (untouched h.0 h.1 h.2 h.4)) in
    let rest = stood-takes now n t.0 other new one.peer t.2 one.is one.connected (subst (λ (o : Outbox). IsLone is_ping o.control) (sym left.0) lone) in
    record {
      peer = rest.peer;
      is = rest.is;
      on = rest.on;
      leaves = leaves-then now p one.peer rest.peer (record { controls = λ x k. subst (λ (o : Outbox). Has o.control.sent x) left.0 k; heard = inl left.1; offset = left.2 }) rest.leaves;
      lone = rest.lone;
    }

-- ---- a PING comes, and is answered
is-ping : (c : Control) → is_ping c ≡ true → c ≡ control.Ping
is-ping control.Ping e = refl
is-ping c e = absurd (let z : false ≡ true = e in cc)

-- where it doesn't stop, there is room for its acknowledgement
not-crowded : (q : Peering) (now time number : ℕ) → q.state ≡ state.Connected → (obeyed q now (Some time) (controlling.message_of (record { number = number; control = control.Ping }))).stop ≡ None → is_crowded q.outbox ≡ false
not-crowded q now time number on h = by (is_crowded q.outbox) _ (subst (λ (x : Peering). (obeyed x now (Some time) m).stop ≡ None) (sym at) h)
  where
    m : Message
    m = controlling.message_of (record { number = number; control = control.Ping })

    open' : Peering
    open' = record q { state = state.Connected }

    at : open' ≡ q
    at = ap (λ (s : PeerState). record q { state = s }) (sym on)

    by : (b : Bool) (o : Outcome) → (cond b (stopped open' stop.Waiting) o).stop ≡ None → b ≡ false
    by true o k = absurd (let z : ◌≡◌ {A = Option Stop} (Some stop.Waiting) None = k in cc)
    by false o k = refl

one-answered : (q : Peering) (n : Numbered) (now time : ℕ) → q.state ≡ state.Connected → is_ping n.control ≡ true → is_crowded q.outbox ≡ false ⊎ ((obeyed q now (Some time) (controlling.message_of n)).stop ≡ None)
    → Has (obeyed q now (Some time) (controlling.message_of n)).after.outbox.acknowledgements (record { channel = 0xFF; number = n.number; time = time })
one-answered q n now time on ping k =
    subst (λ (c : Control). Has (obeyed q now (Some time) (controlling.message_of (record { number = n.number; control = c }))).after.outbox.acknowledgements (record { channel = 0xFF; number = n.number; time = time })) (sym is)
    (control-heard q (record { number = n.number; control = control.Ping }) now time on refl refl (by k)).1
  where
    is : n.control ≡ control.Ping
    is = is-ping n.control ping

    by : is_crowded q.outbox ≡ false ⊎ ((obeyed q now (Some time) (controlling.message_of n)).stop ≡ None) → (not false && is_crowded q.outbox) ≡ false
    by (inl free) = free
    by (inr goes) = not-crowded q now time n.number on (subst (λ (c : Control). (obeyed q now (Some time) (controlling.message_of (record { number = n.number; control = c }))).stop ≡ None) is goes)

-- what is of channel 0xFF comes in time
in-time : (to from : End) (put : Put) → Has from.log put → put.message.head.channel ≡ 0xFF → InTime to from put
in-time to from put logged on = record {
  logged = logged;
  of_data = λ small c e. absurd (let z : put.message.head.channel ≡ 0xFF = on in omega arith);
  of_acknowledgement = λ small number time e. absurd (let z : put.message.head.channel ≡ 0xFF = on in omega arith);
}

pub came-pinged : (now time : ℕ) (from : End) (puts : List Put) (to new : End) (put : Put) (n : Numbered) → AllCome now time from puts to new → Has puts put → is_ping n.control ≡ true → put.message ≡ controlling.message_of n → Has from.log put
    → (q : Peering) × (new.peer ≡ Some q) × Has q.outbox.acknowledgements (record { channel = 0xFF; number = n.number; time = time })
came-pinged now time from [] to new put n come has ping message logged = absurd has
came-pinged now time from (x ∷ puts) to new put n come (inr has) ping message logged = came-pinged now time from puts come.0 new put n come.2 has ping message logged
came-pinged now time from (x ∷ puts) to new put n come (inl same) ping message logged = elim k.after [
  | inl h ↦
      let it : h.0 ≡ q = same-peer to h.0 q h.1 k.is in
      let after : come.0 ≡ with_peer to (obeyed q now (Some time) (controlling.message_of n)).after =
      subst (λ (m : Message). come.0 ≡ with_peer to (obeyed q now (Some time) m).after) said
      (plainly to come.0 h.3 q now time x.message k.connected (subst (λ (y : Peering). come.0 ≡ with_peer to (heeded h.3 y now (Some time) x.message).after) it h.4)) in
      let peer : come.0.peer ≡ Some (obeyed q now (Some time) (controlling.message_of n)).after = ap (λ (e : End). e.peer) after in
      let rest = all-came now time from puts come.0 new (obeyed q now (Some time) (controlling.message_of n)).after come.2 peer (k.stays (obeyed q now (Some time) (controlling.message_of n)).after peer) in
      (rest.peer, rest.is, rest.kept.acknowledgements a (one-answered q n now time k.connected ping (free k.room)))
  | inr late ↦ absurd (late.0 (subst (λ (y : Put). InTime to from y) (sym same) (in-time to from put logged (ap (λ (m : Message). m.head.channel) message))))
]
  where
    k : Comes now time from x to come.0
    k = come.1

    q : Peering
    q = k.peer

    a : Acknowledgement
    a = record { channel = 0xFF; number = n.number; time = time }

    said : x.message ≡ controlling.message_of n
    said = ap (λ (y : Put). y.message) same ∙ message

    free : HasRoomFor from x q ⊎ ((obeyed q now (Some time) x.message).stop ≡ None) → is_crowded q.outbox ≡ false ⊎ ((obeyed q now (Some time) (controlling.message_of n)).stop ≡ None)
    free (inl room) = inl room.free
    free (inr goes) = inr (subst (λ (m : Message). (obeyed q now (Some time) m).stop ≡ None) said goes)

-- ---- its acknowledgement comes, and takes it away
abbrev pub NoneOf : List SentControl → ℕ → ℕ → Type 0
NoneOf sent number time = (t : SentControl) → Has sent t → t.command.number ≡ number → went_at time t.transmission ≡ true → ⊥

same-number : (m n : ℕ) → (m ≡ n) ⊎ (m ≡ n → ⊥)
same-number m n = by (m == n) refl
  where
    by : (b : Bool) → (m == n) ≡ b → (m ≡ n) ⊎ (m ≡ n → ⊥)
    by true e = inl (grind (arith, nat_tests))
    by false e = inr (λ h. grind (arith, nat_tests))

ping-went : (t : SentControl) (time : ℕ) → is_ping t.command.control ≡ true → controlling.went_at time t ≡ went_at time t.transmission
ping-went t time e = ap (λ (c : Control). controlling.went_as c time t) (is-ping t.command.control e)

one-away : (p : Peering) (now time number then' : ℕ) → p.state ≡ state.Connected → IsLone is_ping p.outbox.control
    → NoneOf (obeyed p now (Some time) (acknowledgement_of (record { channel = 0xFF; number = number; time = then' }))).after.outbox.control.sent number (meant_time then' (p.offset % 2 ^ 16))
one-away p now time number then' on lone t h e went = by lone
  where
    m : Message
    m = acknowledgement_of (record { channel = 0xFF; number = number; time = then' })

    meant : ℕ
    meant = meant_time then' (p.offset % 2 ^ 16)

    before : Has p.outbox.control.sent t
    before = (let l = meets (Leaves now p) p now (Some time) m on (meets-leaves now m p) in l.controls t h)

    none-at : (xs : List SentControl) → length xs + 1 ≡ 1 → Has xs t → ⊥
    none-at [] k j = j
    none-at (x ∷ xs) k j = (let z : suc (length xs) + 1 ≡ 1 = k in omega arith)

    by : IsLone is_ping p.outbox.control → ⊥
    by (Idle a b) = subst (λ (l : List SentControl). Has l t) b before
    by (Queued n ok a b) = subst (λ (l : List SentControl). Has l t) b before
    by (Sent x ok a b) =
        let z = taken-away p now (Some time) number then' on (waits p.outbox.control.sent before)
        (λ u k same. ping-went u meant (subst (λ (y : SentControl). is_ping y.command.control ≡ true) (sym (only u k)) ok) ∙ ap (λ (y : SentControl). went_at meant y.transmission) (only u k ∙ sym (only t before)) ∙ went) in
        none-at (obeyed p now (Some time) m).after.outbox.control.sent (z.less ∙ ap (λ (l : List SentControl). length l) b) h
      where
        only : (u : SentControl) → Has p.outbox.control.sent u → u ≡ x
        only u k = elim (subst (λ (l : List SentControl). Has l u) b k) [ inl same ↦ sym same | inr none ↦ absurd none ]

        waits : (xs : List SentControl) → Has xs t → Has (map (λ (y : SentControl). y.command.number) xs) number
        waits [] k = absurd k
        waits (y ∷ xs) (inl same) = inl (ap (λ (z : SentControl). z.command.number) same ∙ e)
        waits (y ∷ xs) (inr k) = inr (waits xs k)

pub came-away : (now time : ℕ) (from : End) (puts : List Put) (to new : End) (p : Peering) (put : Put) (number then' : ℕ) → AllCome now time from puts to new → Has puts put → to.peer ≡ Some p → p.state ≡ state.Connected → IsLone is_ping p.outbox.control
    → put.message ≡ acknowledgement_of (record { channel = 0xFF; number = number; time = then' }) → Has from.log put → (q : Peering) × (new.peer ≡ Some q) × NoneOf q.outbox.control.sent number (meant_time then' (p.offset % 2 ^ 16))
came-away now time from [] to new p put number then' come has is on lone message logged = absurd has
came-away now time from (x ∷ puts) to new p put number then' come (inr has) is on lone message logged =
    let k = stood-one now time from x to come.0 p come.1 is lone in
    let rest = came-away now time from puts come.0 new k.peer put number then' come.2 has k.is k.on k.lone message logged in
    (rest.0, rest.1, subst (λ n. NoneOf rest.0.outbox.control.sent number (meant_time then' (n % 2 ^ 16))) k.leaves.offset rest.2)
came-away now time from (x ∷ puts) to new p put number then' come (inl same) is on lone message logged = elim come.1.after [
  | inl h ↦
      let k = stood-one now time from x to come.0 p come.1 is lone in
      let it : h.0 ≡ p = same-peer to h.0 p h.1 is in
      let after : come.0 ≡ with_peer to (obeyed p now (Some time) m).after =
      subst (λ (y : Message). come.0 ≡ with_peer to (obeyed p now (Some time) y).after) said
      (plainly to come.0 h.3 p now time x.message on (subst (λ (y : Peering). come.0 ≡ with_peer to (heeded h.3 y now (Some time) x.message).after) it h.4)) in
      let peer : k.peer ≡ (obeyed p now (Some time) m).after = same-peer come.0 k.peer (obeyed p now (Some time) m).after k.is (ap (λ (e : End). e.peer) after) in
      let rest = stood-all now time from puts come.0 new k.peer come.2 k.is k.on k.lone in
      (rest.peer, rest.is, λ t j e went. none t (subst (λ (y : Peering). Has y.outbox.control.sent t) peer (rest.leaves.controls t j)) e went)
  | inr late ↦ absurd (late.0 (subst (λ (y : Put). InTime to from y) (sym same) (in-time to from put logged (ap (λ (y : Message). y.head.channel) message))))
]
  where
    m : Message
    m = acknowledgement_of (record { channel = 0xFF; number = number; time = then' })

    said : x.message ≡ m
    said = ap (λ (y : Put). y.message) same ∙ message

    none : NoneOf (obeyed p now (Some time) m).after.outbox.control.sent number (meant_time then' (p.offset % 2 ^ 16))
    none = one-away p now time number then' on lone
