-- An attempt to connect or to disconnect is over only so that the user is told.
use Rattle.std.proofs.Common.{◌≡◌, ℕ, ◌%◌, ◌^◌, ◌&&◌, Bool, true, false, cond, List, [], ◌∷◌, refl, sym, ap, subst, ◌∙◌, inl, inr, ◌⊎◌, Option, Some, None, is_some, length, nat_lt}
use Rattle.enet_codec.specs.declared.packet.Packet.{Packet}
use Rattle.enet_codec.specs.declared.command.Verify.{Verify}
use Rattle.enet_codec.specs.declared.stop.Stop.TheVariants as stop
use Rattle.enet_codec.specs.Message.{Message, Body, acknowledge, connect, verify_connect, disconnect, ping, send_reliable, send_unreliable, send_fragment, send_unsequenced, send_unreliable_fragment, bandwidth_limit, throttle_configure}
use Rattle.enet_rtt.specs.Clock.{meant_time}
use Rattle.enet_rtt.specs.declared.expiry.Expiry.{Expiry}
use Rattle.enet_rtt.specs.declared.expiry.Expiry.TheVariants.{No, Resend, End}
use Rattle.enet_connect.specs.declared.terms.Terms.{Terms}
use Rattle.enet_connect.specs.Verification.{confirmed}
use Rattle.enet_senders.specs.declared.control.Control.{Control}
use Rattle.enet_senders.specs.declared.control.Control.TheVariants as control
use Rattle.enet_outbox.specs.declared.parts.Matched.{Matched}
use Rattle.enet_outbox.specs.declared.parts.Matched.TheVariants as matched
use Rattle.enet_outbox.specs.Outbox.{matched_by}
use Rattle.enet_outbox.specs.Outbox as outbox
use Rattle.enet_outbox.specs.Emission.{filled}
use Rattle.enet_peer.specs.declared.parts.PeerState.{PeerState}
use Rattle.enet_peer.specs.declared.parts.PeerState.TheVariants as state
use Rattle.enet_peer.specs.Peering.{Peering}
use Rattle.enet_peer.specs.Endings.{settled, cut_off_in}
use Rattle.enet_peer.proofs.Obeying.{unless-holds, unwelcomed-holds}
use Rattle.enet_peer.specs.CommandEffect.{Outcome, obeyed, unless_refused, stopped, is_allowed, is_of_handshake, is_connect, by_body, answered, answered_at, is_answered_in, on_acknowledge, on_match, acknowledged, with_answer, on_verify_in, welcomed, on_disconnect_in}
use Rattle.enet_peer.specs.Calls.{pace_of, expiry_of, moved, ticked, pinged, after_timeouts_by, tick_of, next_event, event_after, packet_event, last_event}
use Rattle.enet_peer.specs.Refusing.{is_turned_away, told_full}
use Rattle.enet_peer.proofs.Refusals.{heeded-holds}
use Rattle.law_progress.specs.Attempts.{Step, Hears, TellsAgain, PutsOut, Takes, after_step, after_take, IsTold, TellsWhenLeft}
use Rattle.law_progress.proofs.Moving.{by-moved}
use Rattle.law_progress.proofs.Attempts.{Kind, Asks, Answers, Leaves, state_of, in_state, handshake-alone, waits-on, unpinged}

-- a Connect event waits, or a Disconnect event is to be taken, or the peer is free
abbrev pub Tells : Peering → Type 0
Tells q = ((info : ℕ) × (q.greeting ≡ Some info)) ⊎ ((q.state ≡ state.Ended) ⊎ (q.state ≡ state.Free))

pub told-by : (q : Peering) → Tells q → IsTold q
told-by q (inl c) = inl (_, ap (event_after q) c.1)
told-by q (inr (inr free)) = inr free
told-by q (inr (inl ended)) = inl (greets q.greeting refl)
  where
    last : (s : PeerState) → s ≡ state.Ended → q.state ≡ s → (t : Rattle.enet_peer.specs.Calls.Taken) × (last_event q.state q ≡ Some t)
    last s e f = (_, ap (λ x. last_event x q) ended)

    packets : (untaken : List Packet) → q.inbox.untaken ≡ untaken → (t : Rattle.enet_peer.specs.Calls.Taken) × (packet_event q q.inbox.untaken ≡ Some t)
    packets [] e = (_, ap (packet_event q) e ∙ ap (λ x. last_event x q) ended)
    packets (x ∷ rest) e = (_, ap (packet_event q) e)

    greets : (greeting : Option ℕ) → q.greeting ≡ greeting → (t : Rattle.enet_peer.specs.Calls.Taken) × (next_event q ≡ Some t)
    greets (Some info) e = (_, ap (event_after q) e)
    greets None e = let k = packets q.inbox.untaken refl in (k.0, ap (event_after q) e ∙ k.1)

-- it is still in its state, or that is so
abbrev Goes : Kind → Peering → Type 0
Goes k q = (q.state ≡ state_of k) ⊎ Tells q

answered-goes : (k : Kind) (e : Peering) (m : Message) (sent : Option ℕ) → Goes k e → Goes k (answered e m sent true).after
answered-goes k e m sent h = go (m.head.acknowledge && true && is_answered_in e.state m.body) sent
  where
    go : (b : Bool) (o : Option ℕ) → Goes k (cond b (answered_at e m.head o) (record { stop = None; after = e })).after
    go false o = h
    go true None = h
    go true (Some time) = h

answer-goes : (k : Kind) (what : Control) (gone : Peering) → Goes k (settled (with_answer (state_of k) what (in_state k gone)))
answer-goes Asks what gone = inl refl
answer-goes Answers (control.VerifyConnect verify) gone = inr (inl (_, refl))
answer-goes Answers (control.Connect offer) gone = inl refl
answer-goes Answers (control.Disconnect info) gone = inl refl
answer-goes Answers (control.DisconnectNow info) gone = inl refl
answer-goes Answers control.Ping gone = inl refl
answer-goes Answers (control.BandwidthLimit incoming outgoing) gone = inl refl
answer-goes Answers (control.ThrottleConfigure interval acceleration deceleration) gone = inl refl
answer-goes Leaves (control.Disconnect info) gone = inr (inr (inl refl))
answer-goes Leaves (control.VerifyConnect verify) gone = inl refl
answer-goes Leaves (control.Connect offer) gone = inl refl
answer-goes Leaves (control.DisconnectNow info) gone = inl refl
answer-goes Leaves control.Ping gone = inl refl
answer-goes Leaves (control.BandwidthLimit incoming outgoing) gone = inl refl
answer-goes Leaves (control.ThrottleConfigure interval acceleration deceleration) gone = inl refl

acknowledgement-goes : (k : Kind) (p : Peering) (moment channel number told : ℕ) → Goes k (on_acknowledge (in_state k p) moment channel number told)
acknowledgement-goes Asks p moment channel number told = inl refl
acknowledgement-goes Answers p moment channel number told = by (matched_by p.outbox channel number time)
  where
    time : ℕ
    time = meant_time told (p.offset % 2 ^ 16)

    by : (m : Matched) → Goes Answers (on_match m (in_state Answers p) (acknowledged (in_state Answers p) moment channel number time))
    by matched.Nothing = inl refl
    by matched.Data = inl refl
    by (matched.Control what) = answer-goes Answers what (acknowledged (in_state Answers p) moment channel number time)
acknowledgement-goes Leaves p moment channel number told = by (matched_by p.outbox channel number time)
  where
    time : ℕ
    time = meant_time told (p.offset % 2 ^ 16)

    by : (m : Matched) → Goes Leaves (on_match m (in_state Leaves p) (acknowledged (in_state Leaves p) moment channel number time))
    by matched.Nothing = inl refl
    by matched.Data = inl refl
    by (matched.Control what) = answer-goes Leaves what (acknowledged (in_state Leaves p) moment channel number time)

verify-goes : (k : Kind) (p : Peering) (v : Verify) → Goes k (on_verify_in (state_of k) (in_state k p) v)
verify-goes Asks p v = by (confirmed p.offer v)
  where
    by : (o : Option Terms) → Goes Asks (welcomed (in_state Asks p) v o)
    by None = unwelcomed-holds (Goes Asks) (in_state Asks p) v (inl refl) (inr (inr (inl refl)))
    by (Some terms) = inr (inl (_, refl))
verify-goes Answers p v = inl refl
verify-goes Leaves p v = inl refl

disconnect-goes : (k : Kind) (p : Peering) (answerable : Bool) (info : ℕ) → Goes k (on_disconnect_in (state_of k) (in_state k p) answerable info)
disconnect-goes Asks p answerable info = inr (inr (inl refl))
disconnect-goes Answers p answerable info = inr (inr (inr refl))
disconnect-goes Leaves p answerable info = inr (inr (inl refl))

hears-goes : (k : Kind) (p : Peering) (moment : ℕ) (sent : Option ℕ) (m : Message) → Goes k (obeyed (in_state k p) moment sent m).after
hears-goes k p moment sent m = by m.body
  where
    old : Peering
    old = in_state k p

    effect : Body → Outcome
    effect b = unless_refused old m (by_body old moment sent m b)

    allowed : (b : Body) → Goes k (cond (is_of_handshake b) (by_body old moment sent m b) (stopped old stop.NotConnected)).after → Goes k (cond (is_allowed (state_of k) b) (effect b) (stopped old stop.NotConnected)).after
    allowed b h = subst (λ x. Goes k (cond x (effect b) (stopped old stop.NotConnected)).after) (sym (handshake-alone k b)) (inner (is_of_handshake b) h)
      where
        inner : (x : Bool) → Goes k (cond x (by_body old moment sent m b) (stopped old stop.NotConnected)).after → Goes k (cond x (effect b) (stopped old stop.NotConnected)).after
        inner true h = unless-holds (Goes k) old m (by_body old moment sent m b) (inl refl) h
        inner false h = h

    by : (b : Body) → Goes k (cond (is_connect b) (stopped old stop.BadCommand) (cond (is_allowed (state_of k) b) (effect b) (stopped old stop.NotConnected))).after
    by (acknowledge number time) = allowed (acknowledge number time) (answered-goes k (on_acknowledge old moment m.head.channel number time) m sent (acknowledgement-goes k p moment m.head.channel number time))
    by (connect offer) = inl refl
    by (verify_connect v) = allowed (verify_connect v) (answered-goes k (on_verify_in (state_of k) old v) m sent (verify-goes k p v))
    by (disconnect info) = allowed (disconnect info) (answered-goes k (on_disconnect_in (state_of k) old (m.head.acknowledge && is_some sent) info) m sent (disconnect-goes k p (m.head.acknowledge && is_some sent) info))
    by ping = allowed ping (inl refl)
    by (send_reliable payload) = allowed (send_reliable payload) (inl refl)
    by (send_unreliable number payload) = allowed (send_unreliable number payload) (inl refl)
    by (send_fragment fragment payload) = allowed (send_fragment fragment payload) (inl refl)
    by (send_unsequenced group payload) = allowed (send_unsequenced group payload) (inl refl)
    by (send_unreliable_fragment fragment payload) = allowed (send_unreliable_fragment fragment payload) (inl refl)
    by (bandwidth_limit incoming outgoing) = allowed (bandwidth_limit incoming outgoing) (inl refl)
    by (throttle_configure interval acceleration deceleration) = allowed (throttle_configure interval acceleration deceleration) (inl refl)

takes-goes : (k : Kind) (p : Peering) → Goes k (after_take (in_state k p) (next_event (in_state k p)))
takes-goes k p = by p.greeting
  where
    old : Peering
    old = in_state k p

    last : (j : Kind) → Goes k (after_take old (last_event (state_of j) old))
    last Asks = inl refl
    last Answers = inl refl
    last Leaves = inl refl

    packets : (untaken : List Packet) → Goes k (after_take old (packet_event old untaken))
    packets [] = last k
    packets (q ∷ rest) = inl refl

    by : (greeting : Option ℕ) → Goes k (after_take old (event_after old greeting))
    by (Some info) = inl refl
    by None = packets p.inbox.untaken

puts-goes : (k : Kind) (p : Peering) (now : ℕ) → Goes k (after_step now (in_state k p) PutsOut)
puts-goes k p now =
    let q : Peering = record (in_state k p) { outbox = (filled (pace_of (in_state k p) now) p.outbox).outbox } in
    inl (ap (λ (x : Peering). x.state) (waits-on k q refl))

ticked-goes : (k : Kind) (p : Peering) (now : ℕ) → Goes k (ticked (in_state k p) now)
ticked-goes k p now = by (expiry_of (in_state k p) now)
  where
    old : Peering
    old = in_state k p

    cut : (j : Kind) → Goes k (pinged (cut_off_in (state_of j) old) now)
    cut Asks = inr (inr (inl refl))
    cut Answers = inr (inr (inr refl))
    cut Leaves = inr (inr (inl refl))

    by : (e : Expiry) → Goes k (pinged (after_timeouts_by e old now) now)
    by End = cut k
    by Resend = let q : Peering = record old { outbox = outbox.marked p.outbox (tick_of old now) } in inl (ap (λ (x : Peering). x.state) (unpinged k q now refl))
    by No = inl (ap (λ (x : Peering). x.state) (unpinged k old now refl))

moved-goes : (k : Kind) (short : Bool) (p : Peering) (now : ℕ) → Goes k (moved short (in_state k p) now)
moved-goes k short p now = by-moved (Goes k) short (in_state k p) now (ticked-goes k p now) (λ answers lasts. inl refl)

left-told : (k : Kind) (q : Peering) → Goes k q → (q.state ≡ state_of k) ⊎ IsTold q
left-told k q (inl h) = inl h
left-told k q (inr t) = inr (told-by q t)

pub told : (k : Kind) → TellsWhenLeft (state_of k)
told k = record {
  step = λ p now step e. subst (λ (x : Peering). ((after_step now x step).state ≡ state_of k) ⊎ IsTold (after_step now x step)) (at p e) (by p now step);
  tick = λ short p now e. subst (λ (x : Peering). ((moved short x now).state ≡ state_of k) ⊎ IsTold (moved short x now)) (at p e) (left-told k _ (moved-goes k short p now));
}
  where
    at : (p : Peering) → p.state ≡ state_of k → in_state k p ≡ p
    at p e = ap (λ s. record p { state = s }) (sym e)

    by : (p : Peering) (now : ℕ) (step : Step) → ((after_step now (in_state k p) step).state ≡ state_of k) ⊎ IsTold (after_step now (in_state k p) step)
    by p now (Hears full sent m) = left-told k _ (heeded-holds (λ (o : Outcome). Goes k o.after) full (in_state k p) now sent m (hears-goes k p now sent m) (λ answers. inl refl))
    by p now TellsAgain = left-told k _ (again-goes (is_turned_away (in_state k p)) (nat_lt 0 (length p.outbox.control.queued)))
      where
        again-goes : (b c : Bool) → Goes k (cond b (cond c (in_state k p) (told_full (in_state k p))) (in_state k p))
        again-goes true true = inl refl
        again-goes true false = inl refl
        again-goes false c = inl refl
    by p now PutsOut = left-told k _ (puts-goes k p now)
    by p now Takes = left-told k _ (takes-goes k p)
