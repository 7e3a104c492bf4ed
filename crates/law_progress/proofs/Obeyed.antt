-- What a command that comes leaves of a peer that stays connected: fewer commands are outstanding, or its channels are as they were; and
-- no acknowledgement that waits to go is lost.
use Rattle.std.proofs.Common.{◌≡◌, ℕ, zero, suc, ◌%◌, ◌^◌, ◌+◌, ◌<◌, ◌≤◌, ◌&&◌, ◌==◌, eqb, Bool, true, false, cond, List, [], ◌∷◌, length, refl, sym, ap, subst, ◌∙◌, inl, inr, ◌⊎◌, arith, Option, Some, None, Result, Ok, Err, is_some}
use Rattle.std.specs.List.{slice_get, slice_set}
use Rattle.enet_codec.specs.declared.stop.Stop.{Stop}
use Rattle.enet_codec.specs.declared.stop.Stop.TheVariants as stop
use Rattle.enet_codec.specs.Message.{Message, Body, acknowledge, connect, verify_connect, disconnect, ping, send_reliable, send_unreliable, send_fragment, send_unsequenced, send_unreliable_fragment, bandwidth_limit, throttle_configure}
use Rattle.enet_rtt.specs.Clock.{meant_time}
use Rattle.enet_senders.specs.Controlling as controlling
use Rattle.enet_sender.specs.Sender as sender
use Rattle.enet_sender.specs.Sender.{Sender}
use Rattle.enet_sender.specs.declared.sent.Sent.{Sent}
use Rattle.enet_sender.specs.declared.outgoing.Acknowledged.{Acknowledged}
use Rattle.enet_sender.specs.Due.{SendingEnd}
use Rattle.enet_inbox.specs.DataEffect.{DataEffect, arrival}
use Rattle.enet_outbox.specs.declared.parts.Acknowledgement.{Acknowledgement}
use Rattle.enet_outbox.specs.declared.parts.Matched.{Matched}
use Rattle.enet_outbox.specs.declared.parts.Matched.TheVariants as matched
use Rattle.enet_outbox.specs.Outbox.{Outbox, matched_by}
use Rattle.enet_outbox.specs.Outbox as outbox
use Rattle.enet_peer.specs.declared.parts.PeerState.TheVariants as state
use Rattle.enet_peer.specs.Peering.{Peering}
use Rattle.enet_peer.specs.CommandEffect.{obeyed, unless_refused, stopped, is_allowed, is_connect, by_body, by_answer, by_arrival, answered, answered_at, is_answered_in, on_acknowledge, on_match, acknowledged, on_disconnect_in, on_bandwidth, on_throttle}
use Rattle.enet_peer.specs.CommandEffect as effect
use Rattle.enet_peer.proofs.Obeying.{unless-holds}
use Rattle.enet_outbox.specs.Room.{IsAwaited, RoomIsAwaited}
use Rattle.enet_outbox.proofs.Rooms.{awaited-on}
use Rattle.enet_receiver.specs.Members.{Has}
use Rattle.law_connection.proofs.Firsts.{drop_first, without-first, Has-from_drop}
use Rattle.law_connection.proofs.Lists.{Has-push_left}
use Rattle.law_progress.specs.Exchanges.{outstanding_over, HasSent}
use Rattle.law_progress.proofs.Emitted.{over-set}
use Rattle.law_progress.proofs.SomethingGoes.{get-set}

pub record Kept (p q : Peering) : Type 0 where
  pub senders : (q.outbox.senders ≡ p.outbox.senders) ⊎ (outstanding_over q.outbox.senders < outstanding_over p.outbox.senders)
  pub mtu : q.terms.mtu ≡ p.terms.mtu
  pub offset : q.offset ≡ p.offset
  pub acknowledgements : (a : Acknowledgement) → Has p.outbox.acknowledgements a → Has q.outbox.acknowledgements a
  pub sent : (channel : ℕ) (t : Sent) → HasSent q.outbox.senders channel t → HasSent p.outbox.senders channel t
  pub awaited : RoomIsAwaited p.outbox → RoomIsAwaited q.outbox

pub kept-self : (p : Peering) → Kept p p
kept-self p = record { senders = inl refl; mtu = refl; offset = refl; acknowledgements = λ a h. h; sent = λ channel t h. h; awaited = λ h. h }

pub kept-least : (p q : Peering) → Kept p q → outstanding_over q.outbox.senders ≤ outstanding_over p.outbox.senders
kept-least p q k = elim k.senders [ inl same ↦ (let e : outstanding_over q.outbox.senders ≡ outstanding_over p.outbox.senders = ap outstanding_over same in omega arith) | inr less ↦ omega arith ]

pub kept-then : (p q r : Peering) → Kept p q → Kept q r → Kept p r
kept-then p q r a b = record { senders = by a.senders b.senders; mtu = b.mtu ∙ a.mtu; offset = b.offset ∙ a.offset; acknowledgements = λ x h. b.acknowledgements x (a.acknowledgements x h); sent = λ channel t h. a.sent channel t (b.sent channel t h); awaited = λ h. b.awaited (a.awaited h) }
  where
    by : (q.outbox.senders ≡ p.outbox.senders) ⊎ (outstanding_over q.outbox.senders < outstanding_over p.outbox.senders)
        → (r.outbox.senders ≡ q.outbox.senders) ⊎ (outstanding_over r.outbox.senders < outstanding_over q.outbox.senders)
        → (r.outbox.senders ≡ p.outbox.senders) ⊎ (outstanding_over r.outbox.senders < outstanding_over p.outbox.senders)
    by (inl x) (inl y) = inl (y ∙ x)
    by (inl x) (inr y) = inr (let e : outstanding_over q.outbox.senders ≡ outstanding_over p.outbox.senders = ap outstanding_over x in omega arith)
    by (inr x) y = inr (let l = kept-least q r b in omega arith)

abbrev Stays : Peering → Peering → Type 0
Stays p q = q.state ≡ state.Connected → Kept p q

answered-stays : (p e : Peering) (m : Message) (sent : Option ℕ) (may : Bool) → Stays p e → Stays p (answered e m sent may).after
answered-stays p e m sent may h = go (m.head.acknowledge && may && is_answered_in e.state m.body) sent
  where
    go : (b : Bool) (o : Option ℕ) → Stays p (cond b (answered_at e m.head o) (record { stop = None; after = e })).after
    go false o = h
    go true None = h
    go true (Some time) = λ k. (let r = h k in record { senders = r.senders; mtu = r.mtu; offset = r.offset; acknowledgements = λ a j. Has-push_left e.outbox.acknowledgements _ a (r.acknowledgements a j); sent = r.sent; awaited = r.awaited })

-- an acknowledgement takes one away, if any
drop-either : (n : ℕ) (xs : List Sent) → (drop_first (λ (q : Sent). q.command.number == n) xs ≡ xs) ⊎ (length (drop_first (λ (q : Sent). q.command.number == n) xs) + 1 ≡ length xs)
drop-either n [] = inl refl
drop-either n (x ∷ xs) = elim (eqb x.command.number n) as (λ b. (cond b xs (x ∷ drop_first (λ (q : Sent). q.command.number == n) xs) ≡ x ∷ xs) ⊎ (length (cond b xs (x ∷ drop_first (λ (q : Sent). q.command.number == n) xs)) + 1 ≡ suc (length xs))) [
  | true ↦ inr (omega arith)
  | false ↦ elim (drop-either n xs) [ inl same ↦ inl (ap (λ (l : List Sent). x ∷ l) same) | inr less ↦ inr (omega arith) ]
]

set-self : (xs : List SendingEnd) (k : ℕ) (x : SendingEnd) → slice_get xs k ≡ Some x → slice_set xs k x ≡ xs
set-self [] k x e = refl
set-self (z ∷ zs) zero x e = let it : z ≡ x = cc in ap (λ (y : SendingEnd). y ∷ zs) (sym it)
set-self (z ∷ zs) (suc k) x e = ap (λ (l : List SendingEnd). z ∷ l) (set-self zs k x e)

gone-kept : (p : Peering) (now channel number time : ℕ) → Kept p (acknowledged p now channel number time)
gone-kept p now channel number time = by (channel == 0xFF)
  where
    told : Option Acknowledged
    told = outbox.told_by p.outbox channel number time

    after : Outbox → Peering
    after o = effect.sampled (record p { outbox = outbox.with_growth o told }) now time

    on : (x : Option SendingEnd) → slice_get p.outbox.senders channel ≡ x → Kept p (after (outbox.acknowledged_on p.outbox channel number x))
    on None e = record { senders = inl refl; mtu = refl; offset = refl; acknowledgements = λ a h. h; sent = λ k t h. h; awaited = λ h. h }
    on (Some s) e = record { senders = elim (drop-either number s.sender.sent) [ inl a ↦ inl (as-before a) | inr a ↦ inr (fewer a) ]; mtu = refl; offset = refl; acknowledgements = λ a h. h; sent = from; awaited = λ h. awaited-on p.outbox channel number (Some s) e h }
      where
        new : SendingEnd
        new = record s { sender = sender.after_acknowledgement s.sender number }

        is : new.sender.sent ≡ drop_first (λ (q : Sent). q.command.number == number) s.sender.sent
        is = without-first (λ (q : Sent). q.command.number == number) s.sender.sent

        from : (k : ℕ) (t : Sent) → HasSent (slice_set p.outbox.senders channel new) k t → HasSent p.outbox.senders k t
        from k t h = elim (get-set p.outbox.senders channel k new h.0 h.1) [
          | inl w ↦ (
            s,
            subst (λ j. slice_get p.outbox.senders j ≡ Some s) w.0 e,
            Has-from_drop (λ (q : Sent). q.command.number == number) s.sender.sent t
                (subst (λ (l : List Sent). Has l t) is (subst (λ (y : SendingEnd). Has y.sender.sent t) (sym w.1) h.2)),
          )
          | inr w ↦ (h.0, w.1, h.2)
        ]

        with_sent : List Sent → SendingEnd
        with_sent l = record s { sender = record s.sender { sent = l } }

        as-before : drop_first (λ (q : Sent). q.command.number == number) s.sender.sent ≡ s.sender.sent → slice_set p.outbox.senders channel new ≡ p.outbox.senders
        as-before a =
            let same : new ≡ s = ap with_sent (is ∙ a) in
            ap (slice_set p.outbox.senders channel) same ∙ set-self p.outbox.senders channel s e

        fewer : length (drop_first (λ (q : Sent). q.command.number == number) s.sender.sent) + 1 ≡ length s.sender.sent → outstanding_over (slice_set p.outbox.senders channel new) < outstanding_over p.outbox.senders
        fewer a =
            let total = over-set p.outbox.senders channel s new e in
            let size : length new.sender.sent ≡ length (drop_first (λ (q : Sent). q.command.number == number) s.sender.sent) = ap (λ (l : List Sent). length l) is in
            omega arith

    by : (b : Bool) → Kept p (after (cond b (record p.outbox { control = controlling.after_acknowledgement p.outbox.control number }) (outbox.acknowledged_on p.outbox channel number (slice_get p.outbox.senders channel))))
    by true = record { senders = inl refl; mtu = refl; offset = refl; acknowledgements = λ a h. h; sent = λ k t h. h; awaited = λ h. h }
    by false = on (slice_get p.outbox.senders channel) refl

abbrev connected : Peering → Peering
connected p = record p { state = state.Connected }

same-stays : (p q : Peering) → q.outbox.senders ≡ p.outbox.senders → q.terms.mtu ≡ p.terms.mtu → q.offset ≡ p.offset → q.outbox.acknowledgements ≡ p.outbox.acknowledgements → q.outbox.kept ≡ p.outbox.kept → Stays p q
same-stays p q senders mtu offset acks kept k = record {
  senders = inl senders;
  mtu = mtu;
  offset = offset;
  acknowledgements = λ a h. subst (λ (l : List Acknowledgement). Has l a) (sym acks) h;
  sent = λ channel t h. subst (λ (l : List SendingEnd). HasSent l channel t) senders h;
  awaited = λ h. subst (λ (l : List SendingEnd). IsAwaited l q.outbox.kept) (sym senders) (subst (IsAwaited p.outbox.senders) (sym kept) h);
}

acknowledge-stays : (p : Peering) (now channel number told : ℕ) → Stays p (on_acknowledge (connected p) now channel number told)
acknowledge-stays p now channel number told = by (matched_by p.outbox channel number time)
  where
    time : ℕ
    time = meant_time told (p.offset % 2 ^ 16)

    old : Peering
    old = connected p

    gone : Peering
    gone = acknowledged old now channel number time

    less : Kept p gone
    less = (let k = gone-kept old now channel number time in record { senders = k.senders; mtu = k.mtu; offset = k.offset; acknowledgements = k.acknowledgements; sent = k.sent; awaited = k.awaited })

    by : (x : Matched) → Stays p (on_match x old gone)
    by matched.Nothing = same-stays p old refl refl refl refl refl
    by matched.Data = λ k. less
    by (matched.Control what) = λ k. less

disconnect-stays : (p : Peering) (answerable : Bool) (info : ℕ) → Stays p (on_disconnect_in state.Connected (connected p) answerable info)
disconnect-stays p true info = λ k. absurd (cc)
disconnect-stays p false info = λ k. absurd (cc)

hears-stays : (p : Peering) (now : ℕ) (sent : Option ℕ) (m : Message) → Stays p (obeyed (connected p) now sent m).after
hears-stays p now sent m = by m.body
  where
    old : Peering
    old = connected p

    same : Stays p old
    same = same-stays p old refl refl refl refl refl

    comes : (a : DataEffect) → Stays p (by_arrival old m sent a).after
    comes a = go a.answer
      where
        there : Peering
        there = record old { inbox = a.after }

        go : (r : Result Bool Stop) → Stays p (by_answer there m sent r).after
        go (Err why) = same-stays p there refl refl refl refl refl
        go (Ok may) = answered-stays p there m sent may (same-stays p there refl refl refl refl refl)

    effect-of : (b : Body) → Stays p (by_body old now sent m b).after → Stays p (unless_refused old m (by_body old now sent m b)).after
    effect-of b h = unless-holds (Stays p) old m (by_body old now sent m b) same h

    by : (b : Body) → Stays p (cond (is_connect b) (stopped old stop.BadCommand) (cond (is_allowed state.Connected b) (unless_refused old m (by_body old now sent m b)) (stopped old stop.NotConnected))).after
    by (acknowledge number time) = effect-of (acknowledge number time) (answered-stays p (on_acknowledge old now m.head.channel number time) m sent true (acknowledge-stays p now m.head.channel number time))
    by (connect offer) = same
    by (verify_connect v) = effect-of (verify_connect v) (answered-stays p old m sent true same)
    by (disconnect info) = effect-of (disconnect info) (answered-stays p (on_disconnect_in state.Connected old (m.head.acknowledge && is_some sent) info) m sent true (disconnect-stays p (m.head.acknowledge && is_some sent) info))
    by ping = effect-of ping (answered-stays p old m sent true same)
    by (send_reliable payload) = effect-of (send_reliable payload) (comes (arrival p.inbox m))
    by (send_unreliable number payload) = effect-of (send_unreliable number payload) (comes (arrival p.inbox m))
    by (send_fragment fragment payload) = effect-of (send_fragment fragment payload) (comes (arrival p.inbox m))
    by (send_unsequenced group payload) = effect-of (send_unsequenced group payload) (comes (arrival p.inbox m))
    by (send_unreliable_fragment fragment payload) = effect-of (send_unreliable_fragment fragment payload) (comes (arrival p.inbox m))
    by (bandwidth_limit incoming outgoing) = effect-of (bandwidth_limit incoming outgoing) (answered-stays p (on_bandwidth old incoming) m sent true (same-stays p (on_bandwidth old incoming) refl refl refl refl refl))
    by (throttle_configure interval acceleration deceleration) =
        effect-of (throttle_configure interval acceleration deceleration) (answered-stays p (on_throttle old interval acceleration deceleration) m sent true (same-stays p (on_throttle old interval acceleration deceleration) refl refl refl refl refl))

-- a command comes to a connected peer, which stays connected
pub hears-kept : (p : Peering) (now : ℕ) (sent : Option ℕ) (m : Message) → p.state ≡ state.Connected → (obeyed p now sent m).after.state ≡ state.Connected → Kept p (obeyed p now sent m).after
hears-kept p now sent m is stays = subst (λ (x : Peering). Kept p (obeyed x now sent m).after) at (hears-stays p now sent m (subst (λ (x : Peering). (obeyed x now sent m).after.state ≡ state.Connected) (sym at) stays))
  where
    at : connected p ≡ p
    at = ap (λ s. record p { state = s }) (sym is)
