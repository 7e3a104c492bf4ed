-- A connected peer takes in the other kinds of command, too: those of channel 0xFF, which it acknowledges, and unsequenced packets.
use Rattle.std.proofs.Common.{◌≡◌, ℕ, ◌<◌, ◌≤◌, ◌&&◌, not, leb, ltb, Bool, true, false, cond, List, [], ◌∷◌, ◌++◌, length, map, refl, sym, ap, subst, ◌∙◌, inl, inr, ◌⊎◌, arith, Option, Some, None, Result, Ok, Err, suc}
use Rattle.std.proofs.lemmas.Bool.Decides.{nat_tests}
use Rattle.std.specs.Prelude.{is_ok}
use Rattle.enet_codec.specs.declared.stop.Stop.{Stop}
use Rattle.enet_codec.specs.declared.stop.Stop.TheVariants as stop
use Rattle.enet_unsequenced.specs.Groups.{dispatches}
use Rattle.enet_senders.specs.Controlling.{is_reliable, message_of}
use Rattle.enet_senders.specs.declared.control.Control.{Control}
use Rattle.enet_senders.specs.declared.control.Control.TheVariants as control
use Rattle.enet_senders.specs.declared.control.Numbered.{Numbered}
use Rattle.enet_receiver.specs.Foresight.{ReceivingEnd}
use Rattle.enet_receiver.specs.Members.{Has}
use Rattle.enet_inbox.specs.Inbox.{Inbox, is_full, given_way_receiver, given_way}
use Rattle.enet_inbox.specs.DataEffect.{DataEffect, stopped, handled, unsequenced, unsequenced_taken, plain_arrival, is_waiting, makes_room, arrival}
use Rattle.enet_outbox.specs.declared.parts.Acknowledgement.{Acknowledgement}
use Rattle.enet_outbox.specs.declared.parts.Unsequenced.{Unsequenced}
use Rattle.enet_outbox.specs.Outbox.{is_crowded}
use Rattle.enet_outbox.specs.Emission.{unsequenced_of}
use Rattle.enet_peer.specs.declared.parts.PeerState.TheVariants as state
use Rattle.enet_peer.specs.Peering.{Peering}
use Rattle.enet_peer.specs.CommandEffect.{Outcome, obeyed, by_arrival}
use Rattle.law_progress.specs.Peers.{TakesIn, IsHeard, ends}
use Rattle.law_progress.proofs.Filling.{Has-push}

-- channel 0xFF
pub control-heard : (q : Peering) (n : Numbered) (now time : ℕ) → q.state ≡ state.Connected → IsHeard q n time (obeyed q now (Some time) (message_of n))
control-heard q n now time connected asks opens free = subst (λ (x : Peering). Heard (obeyed x now (Some time) (message_of n))) at (by n.control asks opens free)
  where
    open' : Peering
    open' = record q { state = state.Connected }

    at : open' ≡ q
    at = ap (λ s. record q { state = s }) (sym connected)

    a : Acknowledgement
    a = record { channel = 0xFF; number = n.number; time = time }

    Heard : Outcome → Type 0
    Heard o = (o.stop ≡ None) × Has o.after.outbox.acknowledgements a

    waits : Has (q.outbox.acknowledgements ++ a ∷ []) a
    waits = Has-push q.outbox.acknowledgements a

    fewer : (x : Bool) (o : Outcome) → x ≡ false → Heard o → Heard (cond x (Rattle.enet_peer.specs.CommandEffect.stopped open' stop.Waiting) o)
    fewer true o e h = absurd (cc)
    fewer false o e h = h

    other : (a x : Bool) (o : Outcome) → a ≡ false → x ≡ false → Heard o
        → Heard (cond a (Rattle.enet_peer.specs.CommandEffect.stopped open' stop.NotConnected) (cond x (Rattle.enet_peer.specs.CommandEffect.stopped open' stop.Waiting) o))
    other true x o e f h = absurd (cc)
    other false x o e f h = fewer x o f h

    by : (c : Control) → is_reliable c ≡ true → Rattle.law_progress.specs.Peers.is_refused q c ≡ false → (not (ends c) && is_crowded q.outbox) ≡ false → Heard (obeyed open' now (Some time) (message_of (record { number = n.number; control = c })))
    by (control.Connect offer) e o f = absurd (cc)
    by (control.VerifyConnect verify) e o f = other q.is_server (is_crowded q.outbox) _ o f (refl, waits)
    by (control.Disconnect info) e o f = (refl, inl refl)
    by (control.DisconnectNow info) e o f = absurd (cc)
    by control.Ping e o f = fewer (is_crowded q.outbox) _ f (refl, waits)
    by (control.BandwidthLimit incoming outgoing) e o f = fewer (is_crowded q.outbox) _ f (refl, waits)
    by (control.ThrottleConfigure interval acceleration deceleration) e o f = fewer (is_crowded q.outbox) _ f (refl, waits)

-- an unsequenced packet finds room, if need be once the unreliable packets that wait give way
room-or-waits : (b : Inbox) (channel group : ℕ) (payload : List ℕ) → leb (length b.receivers) channel ≡ false → ltb b.max_packet (length payload) ≡ false
    → (is_ok (unsequenced b channel group payload).answer ≡ true) ⊎ ((unsequenced b channel group payload).answer ≡ Err stop.Waiting)
room-or-waits b channel group payload there short =
    subst (λ (a : DataEffect). (is_ok a.answer ≡ true) ⊎ (a.answer ≡ Err stop.Waiting)) (sym tests) (by (dispatches b.seen group) (is_full b))
  where
    taken : DataEffect
    taken = handled (unsequenced_taken b channel group payload) true

    tests : unsequenced b channel group payload ≡ cond (not (dispatches b.seen group)) (handled b true) (cond (is_full b) (stopped b stop.Waiting) taken)
    tests = λ i. cond (there i) (stopped b stop.BadChannel) (cond (short i) (stopped b stop.BadFragment) (cond (not (dispatches b.seen group)) (handled b true) (cond (is_full b) (stopped b stop.Waiting) taken)))

    by : (new full : Bool) → (is_ok (cond (not new) (handled b true) (cond full (stopped b stop.Waiting) taken)).answer ≡ true) ⊎ ((cond (not new) (handled b true) (cond full (stopped b stop.Waiting) taken)).answer ≡ Err stop.Waiting)
    by false full = inl refl
    by true true = inr refl
    by true false = inl refl

with-room : (b : Inbox) (channel group : ℕ) (payload : List ℕ) → leb (length b.receivers) channel ≡ false → ltb b.max_packet (length payload) ≡ false → is_full b ≡ false → is_ok (unsequenced b channel group payload).answer ≡ true
with-room b channel group payload there short room =
    subst (λ (a : DataEffect). is_ok a.answer ≡ true) (sym tests) (by (dispatches b.seen group))
  where
    taken : DataEffect
    taken = handled (unsequenced_taken b channel group payload) true

    tests : unsequenced b channel group payload ≡ cond (not (dispatches b.seen group)) (handled b true) taken
    tests = λ i. cond (there i) (stopped b stop.BadChannel) (cond (short i) (stopped b stop.BadFragment) (cond (not (dispatches b.seen group)) (handled b true) (cond (room i) (stopped b stop.Waiting) taken)))

    by : (new : Bool) → is_ok (cond (not new) (handled b true) taken).answer ≡ true
    by false = refl
    by true = refl

given-length : (rs : List ReceivingEnd) → length (map given_way_receiver rs) ≡ length rs
given-length [] = refl
given-length (r ∷ rs) = ap suc (given-length rs)

arrives : (b : Inbox) (u : Unsequenced) → u.channel < length b.receivers → length u.body ≤ b.max_packet → is_full (given_way b) ≡ false → is_ok (arrival b (unsequenced_of u)).answer ≡ true
arrives b u on short room = by (room-or-waits b u.channel u.group u.body there fits)
  where
    there : leb (length b.receivers) u.channel ≡ false
    there = above (length b.receivers) u.channel on
      where
        above : (m n : ℕ) → n < m → leb m n ≡ false
        above m n h = grind (arith, nat_tests)

    fits : ltb b.max_packet (length u.body) ≡ false
    fits = within b.max_packet (length u.body) short
      where
        within : (m n : ℕ) → n ≤ m → ltb m n ≡ false
        within m n h = grind (arith, nat_tests)

    way : Inbox
    way = given_way b

    gives : is_ok (unsequenced way u.channel u.group u.body).answer ≡ true
    gives = with-room way u.channel u.group u.body (ap (λ n. leb n u.channel) (given-length b.receivers) ∙ there) fits room

    not_waiting : (r : Result Bool Stop) → is_ok r ≡ true → is_waiting r ≡ false
    not_waiting (Ok may) e = refl
    not_waiting (Err why) e = absurd (cc)

    by : (is_ok (unsequenced b u.channel u.group u.body).answer ≡ true) ⊎ ((unsequenced b u.channel u.group u.body).answer ≡ Err stop.Waiting) → is_ok (arrival b (unsequenced_of u)).answer ≡ true
    by (inl ok) =
        let stays : makes_room b (unsequenced_of u) ≡ false = ap (λ w. w && is_ok (plain_arrival way (unsequenced_of u)).answer) (not_waiting (unsequenced b u.channel u.group u.body).answer ok) in
        ap (λ w. is_ok (plain_arrival (cond w way b) (unsequenced_of u)).answer) stays ∙ ok
    by (inr waits) =
        let goes : makes_room b (unsequenced_of u) ≡ true = (λ i. is_waiting (waits i) && gives i) in
        ap (λ w. is_ok (plain_arrival (cond w way b) (unsequenced_of u)).answer) goes ∙ gives

pub unsequenced-taken : (q : Peering) (u : Unsequenced) (now : ℕ) (sent : Option ℕ) → TakesIn q u → (obeyed q now sent (unsequenced_of u)).stop ≡ None
unsequenced-taken q u now sent t = subst (λ (x : Peering). (obeyed x now sent (unsequenced_of u)).stop ≡ None) at (goes (arrival q.inbox (unsequenced_of u)) (arrives q.inbox u t.channel t.short t.room))
  where
    open' : Peering
    open' = record q { state = state.Connected }

    at : open' ≡ q
    at = ap (λ s. record q { state = s }) (sym t.connected)

    goes : (a : DataEffect) → is_ok a.answer ≡ true → (by_arrival open' (unsequenced_of u) sent a).stop ≡ None
    goes a ok = by a.answer ok
      where
        by : (r : Result Bool Stop) → is_ok r ≡ true → (Rattle.enet_peer.specs.CommandEffect.by_answer (record open' { inbox = a.after }) (unsequenced_of u) sent r).stop ≡ None
        by (Ok may) e = refl
        by (Err why) e = absurd (cc)
