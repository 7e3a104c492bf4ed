-- A peer that is to disconnect later ceases to be so only where it disconnects, or its user is told.
use Rattle.std.proofs.Common.{◌≡◌, ℕ, ◌%◌, ◌^◌, ◌&&◌, Bool, true, false, cond, List, [], ◌∷◌, refl, sym, ap, subst, inl, inr, ◌⊎◌, Option, Some, None, Result, Ok, Err, is_some}
use Rattle.enet_codec.specs.declared.packet.Packet.{Packet}
use Rattle.enet_codec.specs.declared.stop.Stop.{Stop}
use Rattle.enet_codec.specs.declared.stop.Stop.TheVariants as stop
use Rattle.enet_codec.specs.Message.{Message, Body, acknowledge, connect, verify_connect, disconnect, ping, send_reliable, send_unreliable, send_fragment, send_unsequenced, send_unreliable_fragment, bandwidth_limit, throttle_configure}
use Rattle.enet_rtt.specs.Clock.{meant_time}
use Rattle.enet_rtt.specs.declared.expiry.Expiry.{Expiry}
use Rattle.enet_rtt.specs.declared.expiry.Expiry.TheVariants.{No, Resend, End}
use Rattle.enet_inbox.specs.DataEffect.{passed_over}
use Rattle.enet_outbox.specs.declared.parts.Matched.{Matched}
use Rattle.enet_outbox.specs.declared.parts.Matched.TheVariants as matched
use Rattle.enet_outbox.specs.Outbox.{matched_by, is_done}
use Rattle.enet_outbox.specs.Emission.{filled}
use Rattle.enet_peer.specs.declared.parts.PeerState.TheVariants as state
use Rattle.enet_peer.specs.Peering.{Peering}
use Rattle.enet_peer.specs.Endings.{settled, disconnecting, is_later}
use Rattle.enet_peer.proofs.Obeying.{unless-holds}
use Rattle.enet_peer.specs.CommandEffect.{Outcome, obeyed, unless_refused, stopped, is_allowed, is_connect, by_body, by_answer, answered, answered_at, is_answered_in, on_acknowledge, on_match, acknowledged, on_disconnect_in, on_bandwidth, on_throttle}
use Rattle.enet_peer.specs.Calls.{pace_of, expiry_of, moved, ticked, pinged, after_timeouts_by, next_event, event_after, packet_event}
use Rattle.enet_peer.proofs.Refusals.{heeded-obeyed}
use Rattle.law_progress.specs.Attempts.{Step, Hears, TellsAgain, PutsOut, Takes, after_step, after_take, IsTold}
use Rattle.law_progress.specs.Later.{IsLeaving, LeavesOrTells}
use Rattle.law_progress.proofs.Moving.{moved-elsewhere}
use Rattle.law_progress.proofs.Told.{Tells, told-by}

-- it is still in its state, or leaving, or its user is told
abbrev Goes : Peering → Type 0
Goes q = (q.state ≡ state.DisconnectLater) ⊎ (IsLeaving q ⊎ Tells q)

abbrev at_later : Peering → Peering
at_later p = record p { state = state.DisconnectLater }

answered-goes : (e : Peering) (m : Message) (sent : Option ℕ) (may : Bool) → Goes e → Goes (answered e m sent may).after
answered-goes e m sent may h = go (m.head.acknowledge && may && is_answered_in e.state m.body) sent
  where
    go : (b : Bool) (o : Option ℕ) → Goes (cond b (answered_at e m.head o) (record { stop = None; after = e })).after
    go false o = h
    go true None = h
    go true (Some time) = h

settled-goes : (q : Peering) → Goes q → Goes (settled q)
settled-goes q h = by (is_later q.state && is_done q.outbox)
  where
    by : (b : Bool) → Goes (cond b (disconnecting q q.info) q)
    by true = inr (inl (inl refl))
    by false = h

acknowledge-goes : (p : Peering) (now channel number told : ℕ) → Goes (on_acknowledge (at_later p) now channel number told)
acknowledge-goes p now channel number told = by (matched_by p.outbox channel number time)
  where
    time : ℕ
    time = meant_time told (p.offset % 2 ^ 16)

    old : Peering
    old = at_later p

    gone : Peering
    gone = acknowledged old now channel number time

    later : gone.state ≡ state.DisconnectLater
    later = refl

    by : (x : Matched) → Goes (on_match x old gone)
    by matched.Nothing = inl refl
    by matched.Data = settled-goes gone (inl later)
    by (matched.Control what) = settled-goes gone (inl later)

disconnect-goes : (p : Peering) (answerable : Bool) (info : ℕ) → Goes (on_disconnect_in state.DisconnectLater (at_later p) answerable info)
disconnect-goes p true info = inr (inl (inr refl))
disconnect-goes p false info = inr (inr (inr (inl refl)))

hears-goes : (p : Peering) (now : ℕ) (sent : Option ℕ) (m : Message) → Goes (obeyed (at_later p) now sent m).after
hears-goes p now sent m = by m.body
  where
    old : Peering
    old = at_later p

    same : Goes old
    same = inl refl

    passed : (r : Result Bool Stop) → Goes (by_answer old m sent r).after
    passed (Err why) = same
    passed (Ok may) = answered-goes old m sent may same

    effect : (b : Body) → Goes (by_body old now sent m b).after → Goes (unless_refused old m (by_body old now sent m b)).after
    effect b h = unless-holds Goes old m (by_body old now sent m b) same h

    by : (b : Body) → Goes (cond (is_connect b) (stopped old stop.BadCommand) (cond (is_allowed state.DisconnectLater b) (unless_refused old m (by_body old now sent m b)) (stopped old stop.NotConnected))).after
    by (acknowledge number time) = effect (acknowledge number time) (answered-goes (on_acknowledge old now m.head.channel number time) m sent true (acknowledge-goes p now m.head.channel number time))
    by (connect offer) = same
    by (verify_connect v) = effect (verify_connect v) (answered-goes old m sent true same)
    by (disconnect info) = effect (disconnect info) (answered-goes (on_disconnect_in state.DisconnectLater old (m.head.acknowledge && is_some sent) info) m sent true (disconnect-goes p (m.head.acknowledge && is_some sent) info))
    by ping = effect ping (answered-goes old m sent true same)
    by (send_reliable payload) = effect (send_reliable payload) (passed (passed_over p.inbox m))
    by (send_unreliable number payload) = effect (send_unreliable number payload) (passed (passed_over p.inbox m))
    by (send_fragment fragment payload) = effect (send_fragment fragment payload) (passed (passed_over p.inbox m))
    by (send_unsequenced group payload) = effect (send_unsequenced group payload) (passed (passed_over p.inbox m))
    by (send_unreliable_fragment fragment payload) = effect (send_unreliable_fragment fragment payload) (passed (passed_over p.inbox m))
    by (bandwidth_limit incoming outgoing) = effect (bandwidth_limit incoming outgoing) (answered-goes (on_bandwidth old incoming) m sent true (inl refl))
    by (throttle_configure interval acceleration deceleration) = effect (throttle_configure interval acceleration deceleration) (answered-goes (on_throttle old interval acceleration deceleration) m sent true (inl refl))

takes-goes : (p : Peering) → Goes (after_take (at_later p) (next_event (at_later p)))
takes-goes p = by p.greeting
  where
    old : Peering
    old = at_later p

    packets : (untaken : List Packet) → Goes (after_take old (packet_event old untaken))
    packets [] = inl refl
    packets (q ∷ rest) = inl refl

    by : (greeting : Option ℕ) → Goes (after_take old (event_after old greeting))
    by (Some info) = inl refl
    by None = packets p.inbox.untaken

ticked-goes : (p : Peering) (n : ℕ) → ((ticked (at_later p) n).state ≡ state.DisconnectLater) ⊎ Tells (ticked (at_later p) n)
ticked-goes p n = by (expiry_of (at_later p) n)
  where
    old : Peering
    old = at_later p

    by : (e : Expiry) → ((pinged (after_timeouts_by e old n) n).state ≡ state.DisconnectLater) ⊎ Tells (pinged (after_timeouts_by e old n) n)
    by End = inr (inr (inl refl))
    by Resend = inl refl
    by No = inl refl

pub leaves-or-tells : LeavesOrTells
leaves-or-tells = record {
  step = λ p now step e. subst (λ (x : Peering). ((after_step now x step).state ≡ state.DisconnectLater) ⊎ (IsLeaving (after_step now x step) ⊎ IsTold (after_step now x step))) (at p e) (tells (after_step now (at_later p) step) (by p now step));
  tick = λ short p now e. subst (λ (x : Peering). ((moved short x now).state ≡ state.DisconnectLater) ⊎ IsTold (moved short x now)) (at p e) (tick short p now);
}
  where
    at : (p : Peering) → p.state ≡ state.DisconnectLater → at_later p ≡ p
    at p e = ap (λ s. record p { state = s }) (sym e)

    tells : (q : Peering) → Goes q → (q.state ≡ state.DisconnectLater) ⊎ (IsLeaving q ⊎ IsTold q)
    tells q (inl h) = inl h
    tells q (inr (inl h)) = inr (inl h)
    tells q (inr (inr t)) = inr (inr (told-by q t))

    by : (p : Peering) (now : ℕ) (step : Step) → Goes (after_step now (at_later p) step)
    by p now (Hears full sent m) = subst (λ (o : Outcome). Goes o.after) (sym (heeded-obeyed full (at_later p) now sent m refl)) (hears-goes p now sent m)
    by p now TellsAgain = inl refl
    by p now PutsOut = settled-goes (record (at_later p) { outbox = (filled (pace_of (at_later p) now) p.outbox).outbox }) (inl refl)
    by p now Takes = takes-goes p

    tick : (short : Bool) (p : Peering) (now : ℕ) → ((moved short (at_later p) now).state ≡ state.DisconnectLater) ⊎ IsTold (moved short (at_later p) now)
    tick short p now = subst (λ (x : Peering). (x.state ≡ state.DisconnectLater) ⊎ IsTold x) (sym (moved-elsewhere short (at_later p) now refl))
        (elim (ticked-goes p now) [ inl h ↦ inl h | inr t ↦ inr (told-by (ticked (at_later p) now) t) ])
