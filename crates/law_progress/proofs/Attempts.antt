-- An attempt to connect or to disconnect is about one command of channel 0xFF, which goes again and again until patience is over.
use Rattle.std.proofs.Common.{◌≡◌, ℕ, zero, suc, ◌+◌, ◌-◌, ◌*◌, ◌%◌, ◌^◌, ◌<◌, ◌≤◌, ◌&&◌, ◌||◌, ◌==◌, not, eqb, leb, ltb, nat_lt, max, min, Bool, true, false, cond, List, [], ◌∷◌, ◌++◌, length, map, refl, sym, ap, subst, ◌∙◌, inl, inr, ◌⊎◌, arith, Option, Some, None, is_some}
use Rattle.std.specs.List.{position, slice_get, slice_set, list_any, range_with_len}
use Rattle.enet_codec.specs.declared.packet.Packet.{Packet}
use Rattle.enet_codec.specs.declared.command.Verify.{Verify}
use Rattle.enet_codec.specs.declared.command.Offer.{Offer}
use Rattle.enet_codec.specs.declared.stop.Stop.TheVariants as stop
use Rattle.enet_codec.specs.Message.{Message, Body, acknowledge, connect, verify_connect, disconnect, ping, send_reliable, send_unreliable, send_fragment, send_unsequenced, send_unreliable_fragment, bandwidth_limit, throttle_configure}
use Rattle.enet_rtt.specs.Clock.{elapsed_time, meant_time}
use Rattle.enet_rtt.specs.Timing.{Estimate, timeout}
use Rattle.enet_rtt.specs.Transmission as transmission
use Rattle.enet_rtt.specs.Expiry.{gives_up}
use Rattle.enet_rtt.specs.declared.transmission.Transmission.{Transmission}
use Rattle.enet_rtt.specs.declared.transmission.Tick.{Tick}
use Rattle.enet_rtt.specs.declared.expiry.Patience.{Patience}
use Rattle.enet_rtt.specs.declared.expiry.Expiry.{Expiry}
use Rattle.enet_connect.specs.declared.terms.Terms.{Terms}
use Rattle.enet_connect.specs.declared.server.Server.{Server}
use Rattle.enet_connect.specs.Verification.{confirmed}
use Rattle.enet_senders.specs.Controlling as controlling
use Rattle.enet_senders.specs.Controlling.{Commands}
use Rattle.enet_senders.specs.declared.control.Control.{Control}
use Rattle.enet_senders.specs.declared.control.Control.TheVariants as control
use Rattle.enet_senders.specs.declared.control.Numbered.{Numbered}
use Rattle.enet_senders.specs.declared.control.SentControl.{SentControl}
use Rattle.enet_sender.specs.declared.sent.Sent.{Sent}
use Rattle.enet_sender.specs.Sender as sender
use Rattle.enet_sender.specs.Due.{SendingEnd, new_end}
use Rattle.enet_outbox.specs.declared.parts.Matched.{Matched}
use Rattle.enet_outbox.specs.declared.parts.Matched.TheVariants as matched
use Rattle.enet_outbox.specs.declared.parts.Pace.{Pace}
use Rattle.enet_outbox.specs.Outbox.{Outbox, matched_by, matched_on, as_data, has_late, marked_sender, cleared_sender}
use Rattle.enet_outbox.specs.Outbox as outbox
use Rattle.enet_outbox.specs.Emission.{Filling, filled}
use Rattle.enet_outbox.proofs.Filled.{by-filling}
use Rattle.enet_peer.specs.declared.parts.PeerState.{PeerState}
use Rattle.enet_peer.specs.declared.parts.PeerState.TheVariants as state
use Rattle.enet_peer.specs.declared.parts.Limits.{Limits}
use Rattle.enet_peer.specs.declared.parts.Offsets.{Offsets}
use Rattle.enet_peer.specs.Peering.{Peering, connecting, answering}
use Rattle.enet_peer.specs.Endings.{settled, disconnecting, cut_off_in, is_later}
use Rattle.enet_peer.proofs.Obeying.{unless-holds, unwelcomed-holds}
use Rattle.enet_peer.proofs.Refusals.{heeded-holds, is-answering}
use Rattle.enet_peer.specs.Refusing.{is_turned_away, told_full, turned_away}
use Rattle.enet_peer.specs.CommandEffect.{Outcome, obeyed, unless_refused, stopped, is_allowed, is_of_handshake, is_connect, by_body, answered, answered_at, is_answered_in, on_acknowledge, on_match, acknowledged, with_answer, on_verify_in, welcomed, on_disconnect_in}
use Rattle.enet_peer.specs.Calls.{pace_of, gone_on, gone_on_in, held_back, moved, ticked, pinged, after_timeouts_by, tick_of, growth_bound, is_waiting_for, is_connected, is_answering, next_event, event_after, packet_event, last_event}
use Rattle.law_progress.specs.Attempts.{Step, Hears, TellsAgain, PutsOut, Takes, after_step, after_take, Stays, Turn, Turns, last_of, LastsAtMost}
use Rattle.law_progress.proofs.Moving.{Lasting, and-both, by-expiry, by-moved}
use Rattle.law_progress.proofs.Timed.{Timed, elapsed-is, lt-of, timed-begun, timed-again, timed-marked}
use Rattle.law_progress.proofs.NothingLeft.{nothing-left}
use Rattle.law_progress.proofs.SomethingGoes.{none-due}

-- a client asks, a host answers, or an end disconnects
pub data Kind : Type 0 where
  Asks : Kind
  Answers : Kind
  Leaves : Kind

abbrev pub state_of : Kind → PeerState
state_of Asks = state.Connecting
state_of Answers = state.Answering
state_of Leaves = state.Disconnecting

-- the command that such an attempt is about
abbrev pub is_about : Kind → Control → Bool
is_about Asks (control.Connect offer) = true
is_about Answers (control.VerifyConnect verify) = true
is_about Leaves (control.Disconnect info) = true
is_about _ _ = false

reliable-about : (k : Kind) (x : Control) → is_about k x ≡ true → controlling.is_reliable x ≡ true
reliable-about k (control.Connect offer) e = refl
reliable-about k (control.VerifyConnect verify) e = refl
reliable-about k (control.Disconnect info) e = refl
reliable-about k control.Ping e = refl
reliable-about k (control.BandwidthLimit incoming outgoing) e = refl
reliable-about k (control.ThrottleConfigure interval acceleration deceleration) e = refl
reliable-about Asks (control.DisconnectNow info) e = absurd (cc)
reliable-about Answers (control.DisconnectNow info) e = absurd (cc)
reliable-about Leaves (control.DisconnectNow info) e = absurd (cc)

-- no channel has anything queued or sent
abbrev pub AreEmpty : List SendingEnd → Type 0
AreEmpty [] = Unit {0}
AreEmpty (s ∷ rest) = (s.sender.queued ≡ []) × (s.sender.sent ≡ []) × AreEmpty rest

empty-at : (xs : List SendingEnd) (i : ℕ) (s : SendingEnd) → AreEmpty xs → slice_get xs i ≡ Some s → (s.sender.queued ≡ []) × (s.sender.sent ≡ [])
empty-at [] i s h e = absurd (cc)
empty-at (x ∷ xs) zero s h e = let it : x ≡ s = cc in subst (λ (y : SendingEnd). (y.sender.queued ≡ []) × (y.sender.sent ≡ [])) it (h.0, h.1)
empty-at (x ∷ xs) (suc i) s h e = empty-at xs i s h.2 e

empty-marked : (tick : Tick) (xs : List SendingEnd) → AreEmpty xs → AreEmpty (map (marked_sender tick) xs)
empty-marked tick [] h = h
empty-marked tick (x ∷ xs) h = (h.0, ap (map (sender.marked tick)) h.1, empty-marked tick xs h.2)

empty-cleared : (xs : List SendingEnd) → AreEmpty (map cleared_sender xs)
empty-cleared [] = tt
empty-cleared (x ∷ xs) = (refl, refl, empty-cleared xs)

empty-new : (from n : ℕ) → AreEmpty (map new_end (range_with_len from n))
empty-new from zero = tt
empty-new from (suc n) = (refl, refl, empty-new (from + 1) n)

-- what an attempt is about, when the peer was made and when it first went, and what the peer keeps meanwhile: its patience, its estimate,
-- when it last heard, and for how many channels it asked. It is watched where the clock doesn't come round from when the peer was made on
pub record Attempt : Type 0 where
  pub kind : Kind
  pub command : Numbered
  pub watched : Bool
  pub made : ℕ
  pub first : ℕ
  pub patience : Patience
  pub estimate : Estimate
  pub heard : ℕ
  pub channels : ℕ
  pub about : is_about kind command.control ≡ true

-- its first timeout, and how far timeouts grow
abbrev pub wait_of : Attempt → ℕ
wait_of a = timeout a.estimate

abbrev pub bound_of : Attempt → ℕ
bound_of a = cond (a.estimate.sampled || is_answering (state_of a.kind) || (ltb 0 a.channels && not (is_waiting_for (state_of a.kind)))) 1000 4294967295

-- a moment, for what is late by then
abbrev pub tick_at : Attempt → ℕ → Tick
tick_at a now = record { now = now % 2 ^ 32; heard = a.heard; bound = bound_of a; present = wait_of a }

-- a server's wait for its client is over
abbrev pub is_past : Kind → ℕ → Transmission → Bool
is_past k n t = is_answering (state_of k) && leb 7500 (elapsed_time n t.first)

-- a server's wait for its client isn't over, and won't be when the clock comes round
pub record Soon (a : Attempt) (gap now : ℕ) : Type 0 where
  pub made : a.made ≤ a.first
  pub begun : a.first ≤ now
  pub soon : now < a.first + 7500
  pub near : a.first + 7500 + gap < a.made + 2 ^ 32

-- what is said of how a command goes again and again, from its first send on, moment by moment
pub record Course (G : ℕ → Transmission → Type 0) (a : Attempt) (gap : ℕ) : Type 0 where
  pub begins : G a.first (transmission.begun (a.first % 2 ^ 32) (wait_of a))
  pub again : (now : ℕ) (t : Transmission) → G now t → t.due ≡ true → G now (transmission.again (now % 2 ^ 32) t)
  pub marks : (before now : ℕ) (t : Transmission) → G before t → t.due ≡ false → before ≤ now → now ≤ before + gap → transmission.ends (now % 2 ^ 32) a.patience a.heard t ≡ false
      → is_past a.kind (now % 2 ^ 32) t ≡ false → G now (transmission.marked (tick_at a now) t)
  pub soon : (now : ℕ) (t : Transmission) → G now t → is_answering (state_of a.kind) ≡ true → a.watched ≡ true → Soon a gap now

-- by now the command went, and goes on so
abbrev Went : (ℕ → Transmission → Type 0) → Attempt → ℕ → SentControl → Type 0
Went G a now t = (t.command ≡ a.command) × G now t.transmission

-- channel 0xFF has it queued, at the first moment, or sent
abbrev Shape : (ℕ → Transmission → Type 0) → Attempt → ℕ → Commands → Type 0
Shape G a now c = ((c.queued ≡ a.command ∷ []) × (c.sent ≡ []) × (now ≡ a.first)) ⊎ ((t : SentControl) × (c.queued ≡ []) × (c.sent ≡ t ∷ []) × Went G a now t)

-- where it is sent and waits
record Rests (G : ℕ → Transmission → Type 0) (a : Attempt) (now : ℕ) (c : Commands) : Type 0 where
  sent : SentControl
  queued : c.queued ≡ []
  alone : c.sent ≡ sent ∷ []
  went : Went G a now sent
  waits : sent.transmission.due ≡ false

-- what is due first of one sent command
place : (t : SentControl) (b : Bool) → t.transmission.due ≡ b → position (λ (p : SentControl). p.transmission.due) (t ∷ []) ≡ cond b (Some 0) None
place t true e = (λ i. let k : ℕ = cond (not (e i)) (1 + 0) 0 in cond (ltb k 1) (Some k) None)
place t false e = (λ i. let k : ℕ = cond (not (e i)) (1 + 0) 0 in cond (ltb k 1) (Some k) None)

next-waits : (now wait : ℕ) (c : Commands) (t : SentControl) → c.queued ≡ [] → c.sent ≡ t ∷ [] → t.transmission.due ≡ false → controlling.next now wait c ≡ None
next-waits now wait c t none sent waits =
    ap (λ (l : List SentControl). controlling.next_of now wait c (position (λ (p : SentControl). p.transmission.due) l)) sent
    ∙ ap (controlling.next_of now wait c) (place t false waits) ∙ ap (controlling.next_queued now wait c) none

next-again : (now wait : ℕ) (c : Commands) (t : SentControl) → c.sent ≡ t ∷ [] → t.transmission.due ≡ true
    → controlling.next now wait c ≡ Some (record { command = t.command; commands = record c { sent = slice_set c.sent 0 (controlling.again now t) } })
next-again now wait c t sent due =
    ap (λ (l : List SentControl). controlling.next_of now wait c (position (λ (p : SentControl). p.transmission.due) l)) sent
    ∙ ap (controlling.next_of now wait c) (place t true due) ∙ ap (λ (l : List SentControl). controlling.next_resent now c 0 (slice_get l 0)) sent

next-first : (now wait : ℕ) (c : Commands) (x : Numbered) → c.queued ≡ x ∷ [] → c.sent ≡ [] → controlling.is_reliable x.control ≡ true
    → controlling.next now wait c ≡ Some (record { command = x; commands = record c { queued = []; sent = cond (controlling.is_reliable x.control) (c.sent ++ controlling.begun now wait x ∷ []) c.sent } })
next-first now wait c x queued none reliable =
    ap (λ (l : List SentControl). controlling.next_of now wait c (position (λ (p : SentControl). p.transmission.due) l)) none
    ∙ ap (controlling.next_queued now wait c) queued
    ∙ ap (λ (l : List SentControl). cond (controlling.is_in_span l x.number) (Some (record { command = x; commands = record c { queued = []; sent = cond (controlling.is_reliable x.control) (c.sent ++ controlling.begun now wait x ∷ []) c.sent } })) None) none

-- what goes of channel 0xFF keeps this
shape-next : (G : ℕ → Transmission → Type 0) (a : Attempt) {gap : ℕ} (k0 : Course G a gap) (now : ℕ) (c : Commands) (n : controlling.Next) → controlling.next (now % 2 ^ 32) (wait_of a) c ≡ Some n → Shape G a now c → Shape G a now n.commands
shape-next G a k0 now c n e (inl q) =
    let reliable = reliable-about a.kind a.command.control a.about in
    let x = a.command in
    let mine = next-first (now % 2 ^ 32) (wait_of a) c x q.0 q.1 reliable in
    let same : ◌≡◌ {A = controlling.Next} (record { command = x; commands = record c { queued = []; sent = cond (controlling.is_reliable x.control) (c.sent ++ controlling.begun (now % 2 ^ 32) (wait_of a) x ∷ []) c.sent } }) n = some-is (sym mine ∙ e) in
    subst (λ (k : controlling.Next). Shape G a now k.commands) same (inr (
      controlling.begun (now % 2 ^ 32) (wait_of a) x,
      refl,
      ap (λ b. cond b (c.sent ++ controlling.begun (now % 2 ^ 32) (wait_of a) x ∷ []) c.sent) reliable ∙ ap (λ (l : List SentControl). l ++ controlling.begun (now % 2 ^ 32) (wait_of a) x ∷ []) q.1,
      (refl, subst (λ k. G k (transmission.begun (k % 2 ^ 32) (wait_of a))) (sym q.2) k0.begins),
    ))
  where
    some-is : {X : Type 0} {u v : X} → Some u ≡ Some v → u ≡ v
    some-is {X} {u} {v} e = cc
shape-next G a k0 now c n e (inr (t, none, sent, w)) = by t.transmission.due refl
  where
    some-is : {X : Type 0} {u v : X} → Some u ≡ Some v → u ≡ v
    some-is {X} {u} {v} e = cc

    by : (b : Bool) → t.transmission.due ≡ b → Shape G a now n.commands
    by false k = absurd (let f : Some n ≡ None = sym e ∙ next-waits (now % 2 ^ 32) (wait_of a) c t none sent k in cc)
    by true k =
        let same : ◌≡◌ {A = controlling.Next} (record { command = t.command; commands = record c { sent = slice_set c.sent 0 (controlling.again (now % 2 ^ 32) t) } }) n = some-is (sym (next-again (now % 2 ^ 32) (wait_of a) c t sent k) ∙ e) in
        subst (λ (x : controlling.Next). Shape G a now x.commands) same (inr (
          controlling.again (now % 2 ^ 32) t,
          none,
          ap (λ (l : List SentControl). slice_set l 0 (controlling.again (now % 2 ^ 32) t)) sent,
          (w.0, k0.again now t.transmission w.1 k),
        ))

-- a datagram that is filled keeps what each command of channel 0xFF that goes keeps, where the channels are empty
abbrev Kept : (Commands → Type 0) → Filling → Type 0
Kept R f = AreEmpty f.outbox.senders × R f.outbox.control

kept-filled : (pace : Pace) (o : Outbox) (R : Commands → Type 0) → ((c : Commands) (n : controlling.Next) → controlling.next pace.now pace.timeout c ≡ Some n → R c → R n.commands) → AreEmpty o.senders → R o.control → Kept R (filled pace o)
kept-filled pace o R goes empty r = by-filling pace o (Kept R) (record {
  closes = λ f g. g;
  acknowledges = λ f a rest e g. g;
  controls = λ f n e g. (g.0, goes f.outbox.control n e g.1);
  puts_unsequenced = λ f u rest t e g. g;
  drops_unsequenced = λ f u rest t e g. g;
  puts_data = λ f k s n t there due g. absurd (let h = empty-at f.outbox.senders k s g.0 there in let x = none-due _ s.sender h.1 h.0 in let y : Some n ≡ None = sym due ∙ x in cc);
  drops_data = λ f k s n t there due kind g. absurd (let h = empty-at f.outbox.senders k s g.0 there in let x = none-due _ s.sender h.1 h.0 in let y : Some n ≡ None = sym due ∙ x in cc);
  keeps_room = λ f i x there wants g. g;
  gives_room = λ f i x n there due g. g;
}) (empty, r)

-- a server's peer was made at this moment, and isn't refused
abbrev IsFresh : Kind → Bool → ℕ → Peering → Type 0
IsFresh k watched made p = is_answering (state_of k) ≡ true → (p.refused ≡ false) × (watched ≡ true → p.made ≡ made % 2 ^ 32)

-- what a peer keeps at a moment while the attempt lasts
record Lasts (G : ℕ → Transmission → Type 0) (a : Attempt) (now : ℕ) (p : Peering) : Type 0 where
  state : p.state ≡ state_of a.kind
  empty : AreEmpty p.outbox.senders
  patience : p.patience ≡ a.patience
  estimate : p.estimate ≡ a.estimate
  heard : p.heard ≡ a.heard
  channels : p.offer.channels ≡ a.channels
  fresh : IsFresh a.kind a.watched a.made p
  shape : Shape G a now p.outbox.control

-- a server's peer was refused, and still waits
record Refused (a : Attempt) (gap now : ℕ) (p : Peering) : Type 0 where
  state : p.state ≡ state_of a.kind
  answers : is_answering (state_of a.kind) ≡ true
  refused : p.refused ≡ true
  made : a.watched ≡ true → p.made ≡ a.made % 2 ^ 32
  soon : a.watched ≡ true → Soon a gap now

-- the attempt lasts, or the peer was refused
abbrev Waits : (ℕ → Transmission → Type 0) → Attempt → ℕ → ℕ → Peering → Type 0
Waits G a gap now p = Lasts G a now p ⊎ Refused a gap now p

-- as much of it as a command that comes may change
record Same (p q : Peering) : Type 0 where
  control : q.outbox.control ≡ p.outbox.control
  senders : q.outbox.senders ≡ p.outbox.senders
  patience : q.patience ≡ p.patience
  estimate : q.estimate ≡ p.estimate
  heard : q.heard ≡ p.heard
  offer : q.offer ≡ p.offer
  refused : q.refused ≡ p.refused
  made : q.made ≡ p.made

same-lasts : (G : ℕ → Transmission → Type 0) (a : Attempt) (now : ℕ) (p q : Peering) → Same p q → q.state ≡ state_of a.kind → Lasts G a now p → Lasts G a now q
same-lasts G a now p q s e l = record {
  state = e;
  empty = subst (λ xs. AreEmpty xs) (sym s.senders) l.empty;
  patience = s.patience ∙ l.patience;
  estimate = s.estimate ∙ l.estimate;
  heard = s.heard ∙ l.heard;
  channels = ap (λ (o : Offer). o.channels) s.offer ∙ l.channels;
  fresh = λ answers. (let f = l.fresh answers in (s.refused ∙ f.0, λ watched. s.made ∙ f.1 watched));
  shape = subst (λ (c : Commands). Shape G a now c) (sym s.control) l.shape;
}

same-self : (p : Peering) → Same p p
same-self p = record { control = refl; senders = refl; patience = refl; estimate = refl; heard = refl; offer = refl; refused = refl; made = refl }

-- an acknowledgement that waits changes nothing of it
answered-same : (p e : Peering) (m : Message) (sent : Option ℕ) → Same p e → Same p (answered e m sent true).after
answered-same p e m sent k = go (m.head.acknowledge && true && is_answered_in e.state m.body) sent
  where
    go : (b : Bool) (o : Option ℕ) → Same p (cond b (answered_at e m.head o) (record { stop = None; after = e })).after
    go false o = k
    go true None = k
    go true (Some time) = record { control = k.control; senders = k.senders; patience = k.patience; estimate = k.estimate; heard = k.heard; offer = k.offer; refused = k.refused; made = k.made }

answered-state : (e : Peering) (m : Message) (sent : Option ℕ) (s : PeerState) → (answered e m sent true).after.state ≡ s → e.state ≡ s
answered-state e m sent s = go (m.head.acknowledge && true && is_answered_in e.state m.body) sent
  where
    go : (b : Bool) (o : Option ℕ) → (cond b (answered_at e m.head o) (record { stop = None; after = e })).after.state ≡ s → e.state ≡ s
    go false o h = h
    go true None h = h
    go true (Some time) h = h

-- what an acknowledgement can match
matches : (G : ℕ → Transmission → Type 0) (a : Attempt) (now : ℕ) (o : Outbox) (channel number time : ℕ) → AreEmpty o.senders → Shape G a now o.control → (matched_by o channel number time ≡ matched.Nothing) ⊎ (matched_by o channel number time ≡ matched.Control a.command.control)
matches G a now o channel number time empty shape = by (channel == 0xFF)
  where
    on : (x : Option SendingEnd) → slice_get o.senders channel ≡ x → matched_on x number time ≡ matched.Nothing
    on None e = refl
    on (Some s) e = ap (λ (l : List Sent). as_data (sender.matching_at time l (sender.position_of number l))) (empty-at o.senders channel s empty e).1

    at : Shape G a now o.control → (outbox.as_control (controlling.acknowledged_control o.control number time) ≡ matched.Nothing) ⊎ (outbox.as_control (controlling.acknowledged_control o.control number time) ≡ matched.Control a.command.control)
    at (inl q) = inl (ap (λ (l : List SentControl). outbox.as_control (controlling.control_at time l (controlling.position_of number l))) q.1)
    at (inr (t, none, sent, w)) = found (eqb t.command.number number) refl
      where
        is : outbox.as_control (controlling.acknowledged_control o.control number time) ≡ outbox.as_control (controlling.control_at time (t ∷ []) (controlling.position_of number (t ∷ [])))
        is = ap (λ (l : List SentControl). outbox.as_control (controlling.control_at time l (controlling.position_of number l))) sent

        timely : (b : Bool) → controlling.went_at time t ≡ b → outbox.as_control (controlling.acknowledged_control o.control number time) ≡ outbox.as_control (controlling.control_of time (Some t))
            → (outbox.as_control (controlling.acknowledged_control o.control number time) ≡ matched.Nothing) ⊎ (outbox.as_control (controlling.acknowledged_control o.control number time) ≡ matched.Control a.command.control)
        timely true u e = inr (e ∙ ap (λ b. outbox.as_control (cond b (Some t.command.control) None)) u ∙ ap (λ (x : Numbered). matched.Control x.control) w.0)
        timely false u e = inl (e ∙ ap (λ b. outbox.as_control (cond b (Some t.command.control) None)) u)

        found : (b : Bool) → eqb t.command.number number ≡ b → (outbox.as_control (controlling.acknowledged_control o.control number time) ≡ matched.Nothing) ⊎ (outbox.as_control (controlling.acknowledged_control o.control number time) ≡ matched.Control a.command.control)
        found true e = timely (controlling.went_at time t) refl (is ∙ (λ i. outbox.as_control (controlling.control_at time (t ∷ []) (let k : ℕ = cond (not (e i)) (1 + 0) 0 in cond (ltb k 1) (Some k) None))))
        found false e = inl (is ∙ (λ i. outbox.as_control (controlling.control_at time (t ∷ []) (let k : ℕ = cond (not (e i)) (1 + 0) 0 in cond (ltb k 1) (Some k) None))))

    by : (b : Bool) → (cond b (outbox.as_control (controlling.acknowledged_control o.control number time)) (matched_on (slice_get o.senders channel) number time) ≡ matched.Nothing)
        ⊎ (cond b (outbox.as_control (controlling.acknowledged_control o.control number time)) (matched_on (slice_get o.senders channel) number time) ≡ matched.Control a.command.control)
    by true = at shape
    by false = inl (on (slice_get o.senders channel) refl)

-- the acknowledgement of the command itself ends the attempt
ends-answering : (x : Control) (gone : Peering) → is_about Answers x ≡ true → (settled (with_answer state.Answering x gone)).state ≡ state.Answering → ⊥
ends-answering (control.VerifyConnect verify) gone e h = cc
ends-answering (control.Connect offer) gone e h = cc
ends-answering (control.Disconnect info) gone e h = cc
ends-answering (control.DisconnectNow info) gone e h = cc
ends-answering control.Ping gone e h = cc
ends-answering (control.BandwidthLimit incoming outgoing) gone e h = cc
ends-answering (control.ThrottleConfigure interval acceleration deceleration) gone e h = cc

ends-leaving : (x : Control) (gone : Peering) → is_about Leaves x ≡ true → (settled (with_answer state.Disconnecting x gone)).state ≡ state.Disconnecting → ⊥
ends-leaving (control.Disconnect info) gone e h = cc
ends-leaving (control.Connect offer) gone e h = cc
ends-leaving (control.VerifyConnect verify) gone e h = cc
ends-leaving (control.DisconnectNow info) gone e h = cc
ends-leaving control.Ping gone e h = cc
ends-leaving (control.BandwidthLimit incoming outgoing) gone e h = cc
ends-leaving (control.ThrottleConfigure interval acceleration deceleration) gone e h = cc

-- what a command that comes leaves as it was, where the peer stays in its state
abbrev Stands : Kind → Peering → Peering → Type 0
Stands k p e = e.state ≡ state_of k → Same p e

abbrev pub in_state : Kind → Peering → Peering
in_state k p = record p { state = state_of k }

same-in : (k : Kind) (p : Peering) → Same p (in_state k p)
same-in k p = record { control = refl; senders = refl; patience = refl; estimate = refl; heard = refl; offer = refl; refused = refl; made = refl }

-- an acknowledgement
acknowledgement-stands : (G : ℕ → Transmission → Type 0) (a : Attempt) (now moment channel number told : ℕ) (p : Peering) → AreEmpty p.outbox.senders → Shape G a now p.outbox.control → (k : Kind) → is_about k a.command.control ≡ true
    → Stands k p (on_acknowledge (in_state k p) moment channel number told)
acknowledgement-stands G a now moment channel number told p empty shape Asks about = λ h. same-in Asks p
acknowledgement-stands G a now moment channel number told p empty shape Answers about =
    let time : ℕ = meant_time told (p.offset % 2 ^ 16) in
    let old : Peering = in_state Answers p in
    let gone : Peering = acknowledged old moment channel number time in
    elim (matches G a now p.outbox channel number time empty shape) [
      | inl none ↦ subst (λ m. Stands Answers p (on_match m old gone)) (sym none) (λ h. same-in Answers p)
      | inr own ↦ subst (λ m. Stands Answers p (on_match m old gone)) (sym own) (λ h. absurd (ends-answering a.command.control gone about h))
    ]
acknowledgement-stands G a now moment channel number told p empty shape Leaves about =
    let time : ℕ = meant_time told (p.offset % 2 ^ 16) in
    let old : Peering = in_state Leaves p in
    let gone : Peering = acknowledged old moment channel number time in
    elim (matches G a now p.outbox channel number time empty shape) [
      | inl none ↦ subst (λ m. Stands Leaves p (on_match m old gone)) (sym none) (λ h. same-in Leaves p)
      | inr own ↦ subst (λ m. Stands Leaves p (on_match m old gone)) (sym own) (λ h. absurd (ends-leaving a.command.control gone about h))
    ]

-- a server's answer, and a DISCONNECT
verify-stands : (k : Kind) (p : Peering) (v : Verify) → Stands k p (on_verify_in (state_of k) (in_state k p) v)
verify-stands Asks p v = by (confirmed p.offer v)
  where
    by : (o : Option Terms) → Stands Asks p (welcomed (in_state Asks p) v o)
    by None = unwelcomed-holds (Stands Asks p) (in_state Asks p) v (λ h. same-in Asks p) (λ h. absurd (cc))
    by (Some terms) = λ h. absurd (cc)
verify-stands Answers p v = λ h. same-in Answers p
verify-stands Leaves p v = λ h. same-in Leaves p

disconnect-stands : (k : Kind) (p : Peering) (answerable : Bool) (info : ℕ) → Stands k p (on_disconnect_in (state_of k) (in_state k p) answerable info)
disconnect-stands Asks p answerable info = λ h. absurd (cc)
disconnect-stands Answers p answerable info = λ h. absurd (cc)
disconnect-stands Leaves p answerable info = λ h. absurd (cc)

-- only the commands of a handshake are allowed
pub handshake-alone : (k : Kind) (b : Body) → is_allowed (state_of k) b ≡ is_of_handshake b
handshake-alone Asks b = refl
handshake-alone Answers b = refl
handshake-alone Leaves b = refl

-- any command: what holds of the peer, of it once a command of the handshake took effect, and of one with an acknowledgement more
hears-holds : (P : Peering → Type 0) (k : Kind) (p : Peering) (moment : ℕ) (sent : Option ℕ) (m : Message) → P (in_state k p)
    → ((e : Peering) → P e → P (answered e m sent true).after)
    → ((number told : ℕ) → P (on_acknowledge (in_state k p) moment m.head.channel number told))
    → ((v : Verify) → P (on_verify_in (state_of k) (in_state k p) v))
    → ((answerable : Bool) (info : ℕ) → P (on_disconnect_in (state_of k) (in_state k p) answerable info))
    → P (obeyed (in_state k p) moment sent m).after
hears-holds P k p moment sent m same answers acknowledges verifies disconnects = by m.body
  where
    old : Peering
    old = in_state k p

    effect : Body → Outcome
    effect b = unless_refused old m (by_body old moment sent m b)

    allowed : (b : Body) → P (cond (is_of_handshake b) (by_body old moment sent m b) (stopped old stop.NotConnected)).after → P (cond (is_allowed (state_of k) b) (effect b) (stopped old stop.NotConnected)).after
    allowed b h = subst (λ x. P (cond x (effect b) (stopped old stop.NotConnected)).after) (sym (handshake-alone k b)) (inner (is_of_handshake b) h)
      where
        inner : (x : Bool) → P (cond x (by_body old moment sent m b) (stopped old stop.NotConnected)).after → P (cond x (effect b) (stopped old stop.NotConnected)).after
        inner true h = unless-holds P old m (by_body old moment sent m b) same h
        inner false h = h

    by : (b : Body) → P (cond (is_connect b) (stopped old stop.BadCommand) (cond (is_allowed (state_of k) b) (effect b) (stopped old stop.NotConnected))).after
    by (acknowledge number time) = allowed (acknowledge number time) (answers (on_acknowledge old moment m.head.channel number time) (acknowledges number time))
    by (connect offer) = same
    by (verify_connect v) = allowed (verify_connect v) (answers (on_verify_in (state_of k) old v) (verifies v))
    by (disconnect info) = allowed (disconnect info) (answers (on_disconnect_in (state_of k) old (m.head.acknowledge && is_some sent) info) (disconnects (m.head.acknowledge && is_some sent) info))
    by ping = allowed ping same
    by (send_reliable payload) = allowed (send_reliable payload) same
    by (send_unreliable number payload) = allowed (send_unreliable number payload) same
    by (send_fragment fragment payload) = allowed (send_fragment fragment payload) same
    by (send_unsequenced group payload) = allowed (send_unsequenced group payload) same
    by (send_unreliable_fragment fragment payload) = allowed (send_unreliable_fragment fragment payload) same
    by (bandwidth_limit incoming outgoing) = allowed (bandwidth_limit incoming outgoing) same
    by (throttle_configure interval acceleration deceleration) = allowed (throttle_configure interval acceleration deceleration) same

hears-stands : (G : ℕ → Transmission → Type 0) (a : Attempt) (now moment : ℕ) (sent : Option ℕ) (m : Message) (p : Peering) → AreEmpty p.outbox.senders → Shape G a now p.outbox.control → (k : Kind) → is_about k a.command.control ≡ true
    → Stands k p (obeyed (in_state k p) moment sent m).after
hears-stands G a now moment sent m p empty shape k about =
    hears-holds (Stands k p) k p moment sent m (λ h. same-in k p)
    (λ e h t. answered-same p e m sent (h (answered-state e m sent (state_of k) t)))
    (λ number told. acknowledgement-stands G a now moment m.head.channel number told p empty shape k about)
    (λ v. verify-stands k p v)
    (λ answerable info. disconnect-stands k p answerable info)

-- one that was refused stays so, whatever comes, and was made when it was made
abbrev StaysRefused : Peering → Peering → Type 0
StaysRefused p e = e.state ≡ state.Answering → (e.refused ≡ p.refused) × (e.made ≡ p.made)

answered-refused : (p e : Peering) (m : Message) (sent : Option ℕ) → StaysRefused p e → StaysRefused p (answered e m sent true).after
answered-refused p e m sent k = go (m.head.acknowledge && true && is_answered_in e.state m.body) sent
  where
    go : (b : Bool) (o : Option ℕ) → StaysRefused p (cond b (answered_at e m.head o) (record { stop = None; after = e })).after
    go false o = k
    go true None = k
    go true (Some time) = k

acknowledgement-refused : (p : Peering) (moment channel number told : ℕ) → StaysRefused p (on_acknowledge (in_state Answers p) moment channel number told)
acknowledgement-refused p moment channel number told = by (matched_by p.outbox channel number (meant_time told (p.offset % 2 ^ 16)))
  where
    old : Peering
    old = in_state Answers p

    gone : Peering
    gone = acknowledged old moment channel number (meant_time told (p.offset % 2 ^ 16))

    by-control : (x : Control) → StaysRefused p (settled (with_answer state.Answering x gone))
    by-control (control.VerifyConnect verify) = λ h. absurd (cc)
    by-control x = λ h. (refl, refl)

    by : (x : Matched) → StaysRefused p (on_match x old gone)
    by matched.Nothing = λ h. (refl, refl)
    by matched.Data = λ h. (refl, refl)
    by (matched.Control x) = by-control x

hears-refused : (p : Peering) (moment : ℕ) (sent : Option ℕ) (m : Message) → StaysRefused p (obeyed (in_state Answers p) moment sent m).after
hears-refused p moment sent m =
    hears-holds (StaysRefused p) Answers p moment sent m (λ h. (refl, refl))
    (λ e h. answered-refused p e m sent h)
    (λ number told. acknowledgement-refused p moment m.head.channel number told)
    (λ v h. (refl, refl))
    (λ answerable info h. absurd (cc))

-- the user takes an event
takes-same : (k : Kind) (p : Peering) → Same p (after_take (in_state k p) (next_event (in_state k p)))
takes-same k p = by p.greeting
  where
    old : Peering
    old = in_state k p

    last : (j : Kind) → Same p (after_take old (last_event (state_of j) old))
    last Asks = same-in k p
    last Answers = same-in k p
    last Leaves = same-in k p

    packets : (untaken : List Packet) → Same p (after_take old (packet_event old untaken))
    packets [] = last k
    packets (q ∷ rest) = record { control = refl; senders = refl; patience = refl; estimate = refl; heard = refl; offer = refl; refused = refl; made = refl }

    by : (greeting : Option ℕ) → Same p (after_take old (event_after old greeting))
    by (Some info) = record { control = refl; senders = refl; patience = refl; estimate = refl; heard = refl; offer = refl; refused = refl; made = refl }
    by None = packets p.inbox.untaken

-- a datagram is put out, which ends nothing here
pub waits-on : (k : Kind) (q : Peering) → q.state ≡ state_of k → gone_on q ≡ q
waits-on k q e = ap (λ s. gone_on_in s q) e ∙ by k e
  where
    by : (k : Kind) → q.state ≡ state_of k → gone_on_in (state_of k) q ≡ q
    by Asks h = ap (λ s. cond (is_later s && outbox.is_done q.outbox) (disconnecting q q.info) q) h
    by Answers h = ap (λ s. cond (is_later s && outbox.is_done q.outbox) (disconnecting q q.info) q) h
    by Leaves h = ap (λ s. cond (is_later s && outbox.is_done q.outbox) (disconnecting q q.info) q) h

puts-kept : (G : ℕ → Transmission → Type 0) (a : Attempt) (now : ℕ) (R : Commands → Type 0) (p : Peering) → ((c : Commands) (n : controlling.Next) → controlling.next (now % 2 ^ 32) (wait_of a) c ≡ Some n → R c → R n.commands) → Lasts G a now p → R p.outbox.control
    → Kept R (filled (pace_of p (now % 2 ^ 32)) p.outbox)
puts-kept G a now R p goes l r =
    kept-filled (pace_of p (now % 2 ^ 32)) p.outbox R (λ c n e h. goes c n (ap (λ w. controlling.next (now % 2 ^ 32) w c) (sym (ap timeout l.estimate)) ∙ e) h) l.empty r

puts-lasts : (G : ℕ → Transmission → Type 0) (a : Attempt) {gap : ℕ} (k0 : Course G a gap) (now : ℕ) (p : Peering) → Lasts G a now p → Lasts G a now (after_step (now % 2 ^ 32) p PutsOut)
puts-lasts G a k0 now p l =
    let f = filled (pace_of p (now % 2 ^ 32)) p.outbox in
    let q : Peering = record p { outbox = f.outbox } in
    let k = puts-kept G a now (λ c. Shape G a now c) p (λ c n e h. shape-next G a k0 now c n e h) l l.shape in
    subst (λ (x : Peering). Lasts G a now x) (sym (waits-on a.kind q l.state)) (record { state = l.state; empty = k.0; patience = l.patience; estimate = l.estimate; heard = l.heard; channels = l.channels; fresh = l.fresh; shape = k.1 })

puts-refused : (a : Attempt) (gap now moment : ℕ) (p : Peering) → Refused a gap now p → Refused a gap now (after_step moment p PutsOut)
puts-refused a gap now moment p r =
    let q : Peering = record p { outbox = (filled (pace_of p moment) p.outbox).outbox } in
    subst (λ (x : Peering). Refused a gap now x) (sym (waits-on a.kind q r.state)) (record { state = r.state; answers = r.answers; refused = r.refused; made = r.made; soon = r.soon })

-- while the command is queued or sent, it is soon
shape-soon : (G : ℕ → Transmission → Type 0) (a : Attempt) (gap : ℕ) → Course G a gap → (now : ℕ) (c : Commands) → is_answering (state_of a.kind) ≡ true → a.watched ≡ true → Shape G a now c → Soon a gap now
shape-soon G a gap k0 now c answers watched (inl q) = subst (λ (n : ℕ). Soon a gap n) (sym q.2) (k0.soon a.first (transmission.begun (a.first % 2 ^ 32) (wait_of a)) k0.begins answers watched)
shape-soon G a gap k0 now c answers watched (inr (t, none, sent, w)) = k0.soon now t.transmission w.1 answers watched

-- the host is full, and refuses the peer
turned-away : (G : ℕ → Transmission → Type 0) (a : Attempt) (gap : ℕ) → Course G a gap → (now : ℕ) (p : Peering) → is_answering p.state ≡ true → Lasts G a now p → Refused a gap now (turned_away p)
turned-away G a gap k0 now p answers l =
    let here : is_answering (state_of a.kind) ≡ true = sym (ap is_answering l.state) ∙ answers in
    let f = l.fresh here in
    record { state = l.state; answers = here; refused = refl; made = f.1; soon = λ watched. shape-soon G a gap k0 now p.outbox.control here watched l.shape }

-- a step keeps what holds while the attempt lasts
step-lasts : (G : ℕ → Transmission → Type 0) (a : Attempt) (gap : ℕ) → Course G a gap → (now : ℕ) (p : Peering) (step : Step) → Lasts G a now p → (after_step (now % 2 ^ 32) p step).state ≡ state_of a.kind → Waits G a gap now (after_step (now % 2 ^ 32) p step)
step-lasts G a gap k0 now p step l e = by step e
  where
    n : ℕ
    n = now % 2 ^ 32

    at : in_state a.kind p ≡ p
    at = ap (λ s. record p { state = s }) (sym l.state)

    again : (b c : Bool) → is_turned_away p ≡ b → (cond b (cond c p (told_full p)) p).state ≡ state_of a.kind → Waits G a gap now (cond b (cond c p (told_full p)) p)
    again false c away h = inl l
    again true c away h =
        let both = and-both (is_answering p.state) p.refused away in
        let f = l.fresh (sym (ap is_answering l.state) ∙ both.0) in
        absurd (let x : true ≡ false = sym both.1 ∙ f.0 in cc)

    by : (step : Step) → (after_step n p step).state ≡ state_of a.kind → Waits G a gap now (after_step n p step)
    by (Hears full sent m) h =
        heeded-holds (λ (o : Outcome). o.after.state ≡ state_of a.kind → Waits G a gap now o.after) full p n sent m
        (λ h. (let stands : Stands a.kind p (obeyed p n sent m).after = subst (λ (x : Peering). Stands a.kind p (obeyed x n sent m).after) at (hears-stands G a now n sent m p l.empty l.shape a.kind a.about) in
        inl (same-lasts G a now p (obeyed p n sent m).after (stands h) h l)))
        (λ answers h. inr (turned-away G a gap k0 now p answers l)) h
    by TellsAgain h = again (is_turned_away p) (nat_lt 0 (length p.outbox.control.queued)) refl h
    by PutsOut h = inl (puts-lasts G a k0 now p l)
    by Takes h = inl (same-lasts G a now p (after_take p (next_event p)) (subst (λ (x : Peering). Same p (after_take x (next_event x))) at (takes-same a.kind p)) h l)

-- and of one that was refused
step-refused : (a : Attempt) (gap now moment : ℕ) (p : Peering) (step : Step) → Refused a gap now p → (after_step moment p step).state ≡ state_of a.kind → Refused a gap now (after_step moment p step)
step-refused a gap now moment p step r e = by step e
  where
    at : in_state a.kind p ≡ p
    at = ap (λ s. record p { state = s }) (sym r.state)

    answering : state_of a.kind ≡ state.Answering
    answering = is-answering (state_of a.kind) r.answers

    waits : in_state Answers p ≡ p
    waits = ap (λ s. record p { state = s }) (sym (r.state ∙ answering))

    stays : (q : Peering) → StaysRefused p q → q.state ≡ state_of a.kind → Refused a gap now q
    stays q s h = let k = s (h ∙ answering) in record { state = h; answers = r.answers; refused = k.0 ∙ r.refused; made = λ watched. k.1 ∙ r.made watched; soon = r.soon }

    again : (b c : Bool) → Refused a gap now (cond b (cond c p (told_full p)) p)
    again false c = r
    again true true = r
    again true false = record { state = r.state; answers = r.answers; refused = r.refused; made = r.made; soon = r.soon }

    by : (step : Step) → (after_step moment p step).state ≡ state_of a.kind → Refused a gap now (after_step moment p step)
    by (Hears full sent m) h =
        heeded-holds (λ (o : Outcome). o.after.state ≡ state_of a.kind → Refused a gap now o.after) full p moment sent m
        (λ h. stays (obeyed p moment sent m).after (subst (λ (x : Peering). StaysRefused p (obeyed x moment sent m).after) waits (hears-refused p moment sent m)) h)
        (λ answers h. record { state = r.state; answers = r.answers; refused = refl; made = r.made; soon = r.soon }) h
    by TellsAgain h = again (is_turned_away p) (nat_lt 0 (length p.outbox.control.queued))
    by PutsOut h = puts-refused a gap now moment p r
    by Takes h =
        let s : Same p (after_take p (next_event p)) = subst (λ (x : Peering). Same p (after_take x (next_event x))) at (takes-same a.kind p) in
        stays (after_take p (next_event p)) (λ answers. (s.refused, s.made)) h

step-waits : (G : ℕ → Transmission → Type 0) (a : Attempt) (gap : ℕ) → Course G a gap → (now : ℕ) (p : Peering) (step : Step) → Waits G a gap now p → (after_step (now % 2 ^ 32) p step).state ≡ state_of a.kind → Waits G a gap now (after_step (now % 2 ^ 32) p step)
step-waits G a gap k0 now p step (inl l) e = step-lasts G a gap k0 now p step l e
step-waits G a gap k0 now p step (inr r) e = inr (step-refused a gap now (now % 2 ^ 32) p step r e)

stays-state : (s : PeerState) (moment : ℕ) (steps : List Step) (p q : Peering) → Stays s moment steps p q → p.state ≡ s
stays-state s moment [] p q h = h.0
stays-state s moment (step ∷ steps) p q h = h.0

stays-waits : (G : ℕ → Transmission → Type 0) (a : Attempt) (gap : ℕ) → Course G a gap → (now : ℕ) (steps : List Step) (p q : Peering) → Waits G a gap now p → Stays (state_of a.kind) (now % 2 ^ 32) steps p q → Waits G a gap now q
stays-waits G a gap k0 now [] p q l h = subst (λ (x : Peering). Waits G a gap now x) h.1 l
stays-waits G a gap k0 now (step ∷ steps) p q l h =
    let r = after_step (now % 2 ^ 32) p step in
    stays-waits G a gap k0 now steps r q (step-waits G a gap k0 now p step l (stays-state (state_of a.kind) (now % 2 ^ 32) steps r q h.1)) h.1

-- a moment comes
or-left : (x y : Bool) → (x || y) ≡ false → x ≡ false
or-left true y e = e
or-left false y e = refl

cut-ends : (k : Kind) (p : Peering) (n : ℕ) → (pinged (cut_off_in (state_of k) p) n).state ≡ state_of k → ⊥
cut-ends Asks p n e = cc
cut-ends Answers p n e = cc
cut-ends Leaves p n e = cc

pub unpinged : (k : Kind) (q : Peering) (n : ℕ) → q.state ≡ state_of k → pinged q n ≡ q
unpinged k q n e = by k e
  where
    by : (k : Kind) → q.state ≡ state_of k → pinged q n ≡ q
    by Asks h = ap (λ s. cond (is_connected s && outbox.has_nothing_reliable q.outbox && leb q.ping_interval (elapsed_time n q.heard)) (record q { outbox = outbox.with_control q.outbox control.Ping }) q) h
    by Answers h = ap (λ s. cond (is_connected s && outbox.has_nothing_reliable q.outbox && leb q.ping_interval (elapsed_time n q.heard)) (record q { outbox = outbox.with_control q.outbox control.Ping }) q) h
    by Leaves h = ap (λ s. cond (is_connected s && outbox.has_nothing_reliable q.outbox && leb q.ping_interval (elapsed_time n q.heard)) (record q { outbox = outbox.with_control q.outbox control.Ping }) q) h

-- what is to be shown of channel 0xFF for it
record Marked (G : ℕ → Transmission → Type 0) (a : Attempt) (now : ℕ) (p : Peering) : Type 0 where
  resent : Lasting p (now % 2 ^ 32) → Shape G a now (controlling.with_marked (tick_at a now) p.outbox.control)
  held : Lasting p (now % 2 ^ 32) → Shape G a now (controlling.with_held_back (tick_at a now) p.outbox.control)
  rests : Lasting p (now % 2 ^ 32) → has_late p.outbox (now % 2 ^ 32) ≡ false → Shape G a now p.outbox.control

moved-lasts : (G : ℕ → Transmission → Type 0) (a : Attempt) (now : ℕ) (short : Bool) (p : Peering) → p.state ≡ state_of a.kind → AreEmpty p.outbox.senders → p.patience ≡ a.patience → p.estimate ≡ a.estimate → p.heard ≡ a.heard → p.offer.channels ≡ a.channels → IsFresh a.kind a.watched a.made p → Marked G a now p
    → (moved short p (now % 2 ^ 32)).state ≡ state_of a.kind → Lasts G a now (moved short p (now % 2 ^ 32))
moved-lasts G a now short p at empty patience estimate heard channels fresh k = by-moved Keeps short p n tick held
  where
    n : ℕ
    n = now % 2 ^ 32

    Keeps : Peering → Type 0
    Keeps q = q.state ≡ state_of a.kind → Lasts G a now q

    bound : growth_bound p ≡ bound_of a
    bound = λ i. cond ((estimate i).sampled || is_answering (at i) || (ltb 0 (channels i) && not (is_waiting_for (at i)))) 1000 4294967295

    tick_is : tick_of p n ≡ tick_at a now
    tick_is = λ i. record { now = n; heard = heard i; bound = bound i; present = timeout (estimate i) }

    tick : Keeps (ticked p n)
    tick = by-expiry (λ (e : Expiry). Keeps (pinged (after_timeouts_by e p n) n)) p n
        (λ h. absurd (cut-ends a.kind p n (subst (λ s. (pinged (cut_off_in s p) n).state ≡ state_of a.kind) at h)))
        (λ e f h. (let q : Peering = record p { outbox = outbox.marked p.outbox (tick_of p n) } in
        subst (λ (x : Peering). Lasts G a now x) (sym (unpinged a.kind q n at))
        (record { state = at; empty = empty-marked (tick_of p n) p.outbox.senders empty; patience = patience; estimate = estimate; heard = heard; channels = channels; fresh = fresh; shape = subst (λ (t : Tick). Shape G a now (controlling.with_marked t p.outbox.control)) (sym tick_is) (k.resent e) })))
        (λ e f h. subst (λ (x : Peering). Lasts G a now x) (sym (unpinged a.kind p n at)) (record { state = at; empty = empty; patience = patience; estimate = estimate; heard = heard; channels = channels; fresh = fresh; shape = k.rests e f }))

    held : p.state ≡ state.Answering → Lasting p n → Keeps (held_back p n)
    held answers e h = record { state = at; empty = empty; patience = patience; estimate = estimate; heard = heard; channels = channels; fresh = fresh; shape = subst (λ (t : Tick). Shape G a now (controlling.with_held_back t p.outbox.control)) (sym tick_is) (k.held e) }

-- one that was refused waits no longer than 7,500 ms after it was made
moved-refused : (a : Attempt) (gap before now : ℕ) (short : Bool) (p : Peering) → Refused a gap before p → before ≤ now → now ≤ before + gap
    → (moved short p (now % 2 ^ 32)).state ≡ state_of a.kind → Refused a gap now (moved short p (now % 2 ^ 32))
moved-refused a gap before now short p r up down = by-moved Keeps short p n tick (λ answers e h. stays (held_back p n) e refl refl h)
  where
    n : ℕ
    n = now % 2 ^ 32

    Keeps : Peering → Type 0
    Keeps q = q.state ≡ state_of a.kind → Refused a gap now q

    age : a.watched ≡ true → elapsed_time n p.made ≡ now - a.made
    age watched = ap (elapsed_time n) (r.made watched) ∙ (let s = r.soon watched in elapsed-is a.made now (let x = s.made in let y = s.begun in omega arith) (let x = s.soon in let y = s.near in omega arith))

    -- it has waited so long, or it isn't over
    young : Lasting p n → leb 7500 (elapsed_time n p.made) ≡ false
    young e =
        ap (λ b. b && leb 7500 (elapsed_time n p.made)) (sym (ap is_answering r.state ∙ r.answers))
        ∙ ap (λ b. is_answering p.state && cond b (leb 7500 (elapsed_time n p.made)) (list_any (controlling.has_waited 7500 n) p.outbox.control.sent)) (sym r.refused)
        ∙ e.1

    soon : Lasting p n → a.watched ≡ true → Soon a gap now
    soon e watched =
        let s = r.soon watched in
        let x = lt-of 7500 (elapsed_time n p.made) (young e) in
        let y = age watched in
        let made = s.made in
        let begun = s.begun in
        record { made = s.made; begun = omega arith; soon = omega arith; near = s.near }

    stays : (q : Peering) → Lasting p n → q.refused ≡ p.refused → q.made ≡ p.made → Keeps q
    stays q e refused made h = record { state = h; answers = r.answers; refused = refused ∙ r.refused; made = λ watched. made ∙ r.made watched; soon = soon e }

    tick : Keeps (ticked p n)
    tick = by-expiry (λ (e : Expiry). Keeps (pinged (after_timeouts_by e p n) n)) p n
        (λ h. absurd (cut-ends a.kind p n (subst (λ s. (pinged (cut_off_in s p) n).state ≡ state_of a.kind) r.state h)))
        (λ e f. (let q : Peering = record p { outbox = outbox.marked p.outbox (tick_of p n) } in subst Keeps (sym (unpinged a.kind q n r.state)) (stays q e refl refl)))
        (λ e f. subst Keeps (sym (unpinged a.kind p n r.state)) (stays p e refl refl))

-- before the first turn it is queued
first-marked : (G : ℕ → Transmission → Type 0) (a : Attempt) (p : Peering) → p.outbox.control.queued ≡ a.command ∷ [] → p.outbox.control.sent ≡ [] → Marked G a a.first p
first-marked G a p queued none = record {
  resent = λ e. inl (queued, ap (map (controlling.marked (tick_at a a.first))) none, refl);
  held = λ e. inl (queued, ap (map (controlling.held_back (tick_at a a.first))) none, refl);
  rests = λ e f. inl (queued, none, refl);
}

-- later it waits, and where it waited out its timeout it is due to go again, or held back, or patience is over
later-marked : (G : ℕ → Transmission → Type 0) (a : Attempt) (before now gap : ℕ) (p : Peering) → Course G a gap → Rests G a before p.outbox.control → p.state ≡ state_of a.kind → p.patience ≡ a.patience → p.heard ≡ a.heard → IsFresh a.kind a.watched a.made p → before ≤ now → now ≤ before + gap → Marked G a now p
later-marked G a before now gap p k0 r at patience heard fresh up down = record {
  resent = λ e. inr (controlling.marked tick t, r.queued, ap (map (controlling.marked tick)) r.alone, (r.went.0, goes e));
  held = λ e. inr (controlling.held_back tick t, r.queued, ap (map (controlling.held_back tick)) r.alone, holds e (transmission.is_late n t.transmission) refl);
  rests = λ e f. inr (t, r.queued, r.alone, (r.went.0, subst (λ (x : Transmission). G now x) (stays f) (goes e)));
}
  where
    n : ℕ
    n = now % 2 ^ 32

    t : SentControl
    t = r.sent

    tick : Tick
    tick = tick_at a now

    grows : Bool → Transmission
    grows b = cond b (record t.transmission { timeout = transmission.next_time tick t.transmission; due = true }) t.transmission

    -- nothing is late: it stays as it was
    stays : has_late p.outbox n ≡ false → transmission.marked tick t.transmission ≡ t.transmission
    stays f =
        let first : (transmission.is_late n t.transmission || false) ≡ false = ap (list_any (controlling.is_late n)) (sym r.alone) ∙ or-left (list_any (controlling.is_late n) p.outbox.control.sent) _ f in
        ap grows (or-left (transmission.is_late n t.transmission) false first)

    not_ended : Lasting p n → transmission.ends n a.patience a.heard t.transmission ≡ false
    not_ended e =
        let first : (transmission.ends n p.patience p.heard t.transmission || false) ≡ false = ap (list_any (controlling.ends n p.patience p.heard)) (sym r.alone) ∙ or-left (list_any (controlling.ends n p.patience p.heard) p.outbox.control.sent) _ e.0 in
        ap (λ x. transmission.ends n x a.heard t.transmission) (sym patience) ∙ ap (λ x. transmission.ends n p.patience x t.transmission) (sym heard)
        ∙ or-left (transmission.ends n p.patience p.heard t.transmission) false first

    not_past : Lasting p n → is_past a.kind n t.transmission ≡ false
    not_past e = by (is_answering (state_of a.kind)) refl
      where
        waited : List SentControl → Bool
        waited l = list_any (controlling.has_waited 7500 n) l

        by : (b : Bool) → is_answering (state_of a.kind) ≡ b → (b && leb 7500 (elapsed_time n t.transmission.first)) ≡ false
        by false answers = refl
        by true answers =
            let f = fresh answers in
            or-left (leb 7500 (elapsed_time n t.transmission.first)) false
            (ap (λ b. b && waited (t ∷ [])) (sym (ap is_answering at ∙ answers))
            ∙ ap (λ l. is_answering p.state && waited l) (sym r.alone)
            ∙ ap (λ b. is_answering p.state && cond b (leb 7500 (elapsed_time n p.made)) (waited p.outbox.control.sent)) (sym f.0)
            ∙ e.1)

    goes : Lasting p n → G now (transmission.marked tick t.transmission)
    goes e = k0.marks before now t.transmission r.went.1 r.waits up down (not_ended e) (not_past e)

    -- it counts as tried, as if it had gone
    holds : Lasting p n → (b : Bool) → transmission.is_late n t.transmission ≡ b → Went G a now (cond b (record t { transmission = transmission.again n (transmission.marked tick t.transmission) }) t)
    holds e true late = (r.went.0, k0.again now (transmission.marked tick t.transmission) (goes e) (ap (λ b. (grows b).due) late))
    holds e false late = (r.went.0, subst (λ (x : Transmission). G now x) (ap grows late) (goes e))

-- at the end of a turn nothing is left to be put out, so the command waits
record Rested (G : ℕ → Transmission → Type 0) (a : Attempt) (now : ℕ) (p : Peering) : Type 0 where
  lasts : Lasts G a now p
  rests : Rests G a now p.outbox.control

rests-left : (G : ℕ → Transmission → Type 0) (a : Attempt) (now : ℕ) (c : Commands) → controlling.next (now % 2 ^ 32) (wait_of a) c ≡ None → Shape G a now c → Rests G a now c
rests-left G a now c none (inl q) =
    absurd (let f : None ≡ Some _ = sym none ∙ next-first (now % 2 ^ 32) (wait_of a) c a.command q.0 q.1 (reliable-about a.kind a.command.control a.about) in cc)
rests-left G a now c none (inr (t, queued, sent, w)) = by t.transmission.due refl
  where
    by : (b : Bool) → t.transmission.due ≡ b → Rests G a now c
    by false k = record { sent = t; queued = queued; alone = sent; went = w; waits = k }
    by true k = absurd (let f : None ≡ Some _ = sym none ∙ next-again (now % 2 ^ 32) (wait_of a) c t sent k in cc)

-- or the peer was refused
abbrev Ends : (ℕ → Transmission → Type 0) → Attempt → ℕ → ℕ → Peering → Type 0
Ends G a gap now p = Rested G a now p ⊎ Refused a gap now p

turn-rests : (G : ℕ → Transmission → Type 0) (a : Attempt) (gap : ℕ) → Course G a gap → (now : ℕ) (p q : Peering) → ((short : Bool) → (moved short p (now % 2 ^ 32)).state ≡ state_of a.kind → Waits G a gap now (moved short p (now % 2 ^ 32))) → Turn (state_of a.kind) now p q → Ends G a gap now q
turn-rests G a gap k0 now p q first turn = subst (λ (x : Peering). Ends G a gap now x) (sym turn.after) (by l)
  where
    n : ℕ
    n = now % 2 ^ 32

    l : Waits G a gap now turn.last
    l = stays-waits G a gap k0 now turn.steps (moved turn.short p n) turn.last (first turn.short (stays-state (state_of a.kind) n turn.steps (moved turn.short p n) turn.last turn.stays)) turn.stays

    r : Peering
    r = record turn.last { outbox = (filled (pace_of turn.last n) turn.last.outbox).outbox }

    none : Lasts G a now turn.last → controlling.next n (wait_of a) turn.last.outbox.control ≡ None
    none l = ap (λ w. controlling.next n w turn.last.outbox.control) (sym (ap timeout l.estimate)) ∙ nothing-left (pace_of turn.last n) turn.last.outbox (wide (min turn.last.terms.mtu 4096)) turn.spent
      where
        wide : (m : ℕ) → 576 ≤ max 576 m
        wide m = grind arith

    kept : Lasts G a now turn.last → Kept (λ c. Rests G a now c) (filled (pace_of turn.last n) turn.last.outbox)
    kept l = puts-kept G a now (λ c. Rests G a now c) turn.last (λ c x e k. absurd (let f : Some x ≡ None = sym e ∙ next-waits n (wait_of a) c k.sent k.queued k.alone k.waits in cc)) l (rests-left G a now turn.last.outbox.control (none l) l.shape)

    by : Waits G a gap now turn.last → Ends G a gap now (after_step n turn.last PutsOut)
    by (inr x) = inr (puts-refused a gap now n turn.last x)
    by (inl l) =
        let k = kept l in
        inl (subst (λ (x : Peering). Rested G a now x) (sym (waits-on a.kind r l.state)) (record {
          lasts = record { state = l.state; empty = k.0; patience = l.patience; estimate = l.estimate; heard = l.heard; channels = l.channels; fresh = l.fresh; shape = (let c = k.1 in inr (c.sent, c.queued, c.alone, c.went)) };
          rests = k.1;
        }))

-- the next moment comes
next-waits-on : (G : ℕ → Transmission → Type 0) (a : Attempt) (gap : ℕ) → Course G a gap → (now next : ℕ) (p : Peering) → now ≤ next → next ≤ now + gap → Ends G a gap now p
    → (short : Bool) → (moved short p (next % 2 ^ 32)).state ≡ state_of a.kind → Waits G a gap next (moved short p (next % 2 ^ 32))
next-waits-on G a gap k0 now next p up down (inl k) short e =
    inl (moved-lasts G a next short p k.lasts.state k.lasts.empty k.lasts.patience k.lasts.estimate k.lasts.heard k.lasts.channels k.lasts.fresh
    (later-marked G a now next gap p k0 k.rests k.lasts.state k.lasts.patience k.lasts.heard k.lasts.fresh up down) e)
next-waits-on G a gap k0 now next p up down (inr k) short e = inr (moved-refused a gap now next short p k up down e)

-- turn after turn
turns-last : (G : ℕ → Transmission → Type 0) (a : Attempt) (gap : ℕ) → Course G a gap → (moments : List ℕ) (now : ℕ) (p q : Peering) → ((r : Peering) → Turn (state_of a.kind) now p r → Ends G a gap now r) → Turns (state_of a.kind) gap now p moments q
    → Ends G a gap (last_of now moments) q
turns-last G a gap k0 [] now p q first turn = first q turn
turns-last G a gap k0 (next ∷ later) now p q first (r, turn, up, down, rest) =
    turns-last G a gap k0 later next r q (λ x t. turn-rests G a gap k0 next r x (λ short e. next-waits-on G a gap k0 now next r up down (first r turn) short e) t) rest

-- a peer of which channel 0xFF has its command queued, alone, and no channel anything
pub record Begins (k : Kind) (p : Peering) : Type 0 where
  pub state : p.state ≡ state_of k
  pub empty : AreEmpty p.outbox.senders
  pub command : Numbered
  pub queued : p.outbox.control.queued ≡ command ∷ []
  pub none : p.outbox.control.sent ≡ []
  pub about : is_about k command.control ≡ true

-- the attempt that it begins at this moment, and the command as it goes at the end of a turn, where the peer wasn't refused
abbrev pub attempt_at : Bool → (k : Kind) (p : Peering) → Begins k p → ℕ → ℕ → Attempt
attempt_at watched k p b made now = record {
  kind = k;
  command = b.command;
  watched = watched;
  made = made;
  first = now;
  patience = p.patience;
  estimate = p.estimate;
  heard = p.heard;
  channels = p.offer.channels;
  about = b.about;
}

abbrev pub attempt_of : (k : Kind) (p : Peering) → Begins k p → ℕ → ℕ → Attempt
attempt_of k p b made now = attempt_at true k p b made now

pub begun-goes : (G : ℕ → Transmission → Type 0) (watched : Bool) (k : Kind) (p : Peering) (b : Begins k p) (gap made now : ℕ) (moments : List ℕ) (q : Peering) → IsFresh k watched made p → Course G (attempt_at watched k p b made now) gap
    → Turns (state_of k) gap now p moments q
    → ((t : Transmission) × (t.due ≡ false) × G (last_of now moments) t) ⊎ ((is_answering (state_of k) ≡ true) × (q.refused ≡ true) × (watched ≡ true → last_of now moments < now + 7500))
begun-goes G watched k p b gap made now moments q fresh k0 turns =
    let a : Attempt = attempt_at watched k p b made now in
    elim (turns-last G a gap k0 moments now p q (λ r t. turn-rests G a gap k0 now p r (λ short e. inl (moved-lasts G a now short p b.state b.empty refl refl refl refl fresh (first-marked G a p b.queued b.none) e)) t) turns) [
      | inl last ↦ (let r = last.rests in inl (r.sent.transmission, r.waits, r.went.1))
      | inr last ↦ inr (last.answers, last.refused, λ w. (let s = last.soon w in s.soon))
    ]

-- so where it doesn't wait for a client
pub asked-goes : (G : ℕ → Transmission → Type 0) (k : Kind) (p : Peering) (b : Begins k p) (gap now : ℕ) (moments : List ℕ) (q : Peering) → is_answering (state_of k) ≡ false → Course G (attempt_of k p b now now) gap → Turns (state_of k) gap now p moments q
    → (t : Transmission) × (t.due ≡ false) × G (last_of now moments) t
asked-goes G k p b gap now moments q asks k0 turns =
    elim (begun-goes G true k p b gap now now moments q (λ answers. absurd (let x : true ≡ false = sym answers ∙ asks in cc)) k0 turns) [
      | inl goes ↦ goes
      | inr late ↦ absurd (let x : true ≡ false = sym late.0 ∙ asks in cc)
    ]

-- a timeout grows no faster than the time since the first send
timed-course : (a : Attempt) (gap : ℕ) → is_answering (state_of a.kind) ≡ false → wait_of a + 2 * a.patience.maximum + gap < 2 ^ 32 → Course (Timed a.first (wait_of a) a.patience.maximum) a gap
timed-course a gap asks near = record {
  begins = timed-begun a.first (wait_of a) (wait_of a) a.patience.maximum (omega arith);
  again = λ now t w due. timed-again a.first (wait_of a) a.patience.maximum now t w due;
  marks = λ before now t w waits up down not_ended not_past. timed-marked a.first (wait_of a) a.patience.maximum before now (tick_at a now) t refl (omega arith) w waits up (let x = w.in_time in omega arith)
      (λ late. or-left (leb a.patience.maximum (elapsed_time (now % 2 ^ 32) t.first)) _ (ap (λ b. b && gives_up a.patience (now % 2 ^ 32) a.heard t) (sym late) ∙ not_ended));
  soon = λ now t w answers watched. absurd (let x : true ≡ false = sym answers ∙ asks in cc);
}

begun-lasts : (k : Kind) (p : Peering) → is_answering (state_of k) ≡ false → Begins k p → LastsAtMost (state_of k) p (timeout p.estimate + 2 * p.patience.maximum)
begun-lasts k p asks b gap now moments q near turns =
    let a : Attempt = attempt_of k p b now now in
    let last = asked-goes (Timed a.first (wait_of a) a.patience.maximum) k p b gap now moments q asks (timed-course a gap asks near) turns in
    let w = last.2 in
    let x = w.in_time in
    omega arith

pub asking : (start offset : ℕ) (offer : Offer) (limits : Limits) → Begins Asks (connecting start offset offer limits)
asking start offset offer limits = record { state = refl; empty = empty-new 0 _; command = _; queued = refl; none = refl; about = refl }

pub replying : (start : ℕ) (offsets : Offsets) (offer : Offer) (server : Server) (limits : Limits) → Begins Answers (answering start offsets offer server limits)
replying start offsets offer server limits = record { state = refl; empty = empty-new 0 _; command = _; queued = refl; none = refl; about = refl }

pub asking-ends : (start offset : ℕ) (offer : Offer) (limits : Limits) → LastsAtMost state.Connecting (connecting start offset offer limits) 60500
asking-ends start offset offer limits = begun-lasts Asks (connecting start offset offer limits) refl (asking start offset offer limits)

pub leaving-ends : (p : Peering) (info : ℕ) → LastsAtMost state.Disconnecting (disconnecting p info) (timeout p.estimate + 2 * p.patience.maximum)
leaving-ends p info = begun-lasts Leaves (disconnecting p info) refl (record { state = refl; empty = empty-cleared p.outbox.senders; command = _; queued = refl; none = refl; about = refl })
