-- A peer that is to disconnect later queues nothing new, and each command that it sent waits for so long at most: so it comes to do so.
use Rattle.std.proofs.Common.{◌≡◌, ℕ, zero, suc, ◌+◌, ◌-◌, ◌*◌, ◌%◌, ◌^◌, ◌<◌, ◌≤◌, ◌&&◌, ◌==◌, leb, max, min, Bool, true, false, cond, List, [], ◌∷◌, ◌++◌, length, map, refl, sym, ap, subst, ◌∙◌, inl, inr, ◌⊎◌, arith, Option, Some, None, Result, Ok, Err, is_some}
use Rattle.std.proofs.lemmas.List.{length-append, length-map}
use Rattle.std.specs.List.{slice_get, slice_set, list_any, remove}
use Rattle.enet_codec.specs.declared.packet.Packet as codec
use Rattle.enet_codec.specs.declared.command.Offer.{Offer}
use Rattle.enet_codec.specs.declared.stop.Stop.{Stop}
use Rattle.enet_codec.specs.declared.stop.Stop.TheVariants as stop
use Rattle.enet_codec.specs.Message.{Message, Body, acknowledge, connect, verify_connect, disconnect, ping, send_reliable, send_unreliable, send_fragment, send_unsequenced, send_unreliable_fragment, bandwidth_limit, throttle_configure}
use Rattle.enet_rtt.specs.Clock.{elapsed_time, meant_time}
use Rattle.enet_rtt.specs.Timing.{IsWithin}
use Rattle.enet_rtt.specs.Transmission as transmission
use Rattle.enet_rtt.specs.declared.transmission.Transmission.{Transmission}
use Rattle.enet_rtt.specs.declared.transmission.Tick.{Tick}
use Rattle.enet_rtt.specs.declared.expiry.Expiry.{Expiry}
use Rattle.enet_rtt.specs.declared.expiry.Expiry.TheVariants.{No, Resend, End}
use Rattle.enet_connect.specs.declared.terms.Terms.{Terms}
use Rattle.enet_connect.specs.declared.server.Server.{Server}
use Rattle.enet_senders.specs.Controlling as controlling
use Rattle.enet_senders.specs.Controlling.{Commands}
use Rattle.enet_senders.specs.declared.control.Control.{Control}
use Rattle.enet_senders.specs.declared.control.Numbered.{Numbered}
use Rattle.enet_senders.specs.declared.control.SentControl.{SentControl}
use Rattle.enet_fragment.specs.declared.data.DataCommand.{DataCommand}
use Rattle.enet_receiver.specs.Members.{Has}
use Rattle.enet_sender.specs.declared.sent.Sent.{Sent}
use Rattle.enet_sender.specs.Sender as sender
use Rattle.enet_sender.specs.declared.outgoing.Occasion.{Occasion}
use Rattle.enet_sender.specs.Sender.{Sender, Next, next, with_skipped}
use Rattle.enet_sender.specs.declared.outgoing.Acknowledged.{Acknowledged}
use Rattle.enet_sender.specs.Due.{SendingEnd}
use Rattle.enet_inbox.specs.DataEffect.{passed_over}
use Rattle.enet_outbox.specs.declared.parts.Matched.{Matched}
use Rattle.enet_outbox.specs.declared.parts.Matched.TheVariants as matched
use Rattle.enet_outbox.specs.declared.parts.Pace.{Pace}
use Rattle.enet_outbox.specs.Outbox.{Outbox, has_late, matched_by, marked_sender, is_done}
use Rattle.enet_outbox.specs.Outbox as outbox
use Rattle.enet_outbox.specs.Emission.{filled, data_put, with_sender}
use Rattle.enet_outbox.proofs.Filled.{by-filling}
use Rattle.enet_outbox.specs.Room.{IsAwaited}
use Rattle.enet_outbox.proofs.Rooms.{awaited-marked, awaited-on}
use Rattle.enet_peer.specs.declared.parts.PeerState.{PeerState}
use Rattle.enet_peer.specs.declared.parts.PeerState.TheVariants as state
use Rattle.enet_peer.specs.declared.parts.Limits.{Limits}
use Rattle.enet_peer.specs.declared.parts.Offsets.{Offsets}
use Rattle.enet_peer.specs.Peering.{Peering, joined, connecting, answering}
use Rattle.enet_peer.specs.Endings.{settled, disconnecting, cut_off_in}
use Rattle.enet_peer.proofs.Obeying.{unless-holds}
use Rattle.enet_peer.specs.CommandEffect.{Outcome, obeyed, unless_refused, stopped, is_allowed, is_connect, by_body, by_answer, answered, answered_at, is_answered_in, on_acknowledge, on_match, acknowledged, on_disconnect_in, on_bandwidth, on_throttle}
use Rattle.enet_peer.specs.Calls.{pace_of, expiry_of, gone_on, is_answering, is_connected, moved, ticked, pinged, after_timeouts_by, tick_of, next_event, event_after, packet_event}
use Rattle.enet_peer.specs.Refusing.{told_again}
use Rattle.enet_peer.proofs.Refusals.{heeded-obeyed}
use Rattle.law_progress.specs.Outboxes.{AllFit, WaitsForSome}
use Rattle.law_progress.specs.Attempts.{Step, Hears, TellsAgain, PutsOut, Takes, after_take, after_step, Stays, Turn, Turns, last_of}
use Rattle.law_progress.specs.Later.{queued_over, sent_over, still_to_do, DisconnectsLater}
use Rattle.law_progress.proofs.Moving.{Lasting, by-expiry, by-moved, moved-elsewhere}
use Rattle.law_progress.proofs.Paces.{Paces, paces-begun, paces-again, paces-marked, late-brief}
use Rattle.law_progress.proofs.Kept.{stays-set}
use Rattle.law_progress.proofs.Trips.{Has-map}
use Rattle.law_progress.proofs.Controls.{some-is, GoesControl, Heads, Repeats, goes-control}
use Rattle.law_progress.proofs.SomethingGoes.{get-set, set-same, skipped-length}
use Rattle.law_progress.proofs.Spent.{Goes, First, Again, goes-of, filled-fits}
use Rattle.law_progress.proofs.Blocked.{done-or-waits}
use Rattle.law_progress.proofs.Fitting.{Fits, fits-moments, as-moments, all-fits, joined-fits, asking-fits, answering-fits}
use Rattle.law_progress.proofs.Lately.{Lately, Known, as-lately, known-moments}
use Rattle.law_progress.proofs.Waiting.{Each, Fair, Rests, Goes as Goes_any, Has-at, Has-set, Has-pushed, Has-mapped, Has-removed, each-set, none-new, fair-obeyed, fair-takes, timeout-low, none-of, or-both, patient as patient-by}

-- how many are queued, where one channel changed
queued-set : (xs : List SendingEnd) (k : ℕ) (x y : SendingEnd) → slice_get xs k ≡ Some x → queued_over (slice_set xs k y) + length x.sender.queued ≡ queued_over xs + length y.sender.queued
queued-set [] k x y t = absurd (cc)
queued-set (z ∷ zs) zero x y t =
    let it : z ≡ x = cc in
    let same : length z.sender.queued ≡ length x.sender.queued = ap (λ (s : SendingEnd). length s.sender.queued) it in
    omega arith
queued-set (z ∷ zs) (suc k) x y t = let rest = queued-set zs k x y t in omega arith

queued-marked : (tick : Tick) (xs : List SendingEnd) → queued_over (map (marked_sender tick) xs) ≡ queued_over xs
queued-marked tick [] = refl
queued-marked tick (x ∷ xs) = ap (λ n. length x.sender.queued + n) (queued-marked tick xs)

-- how many were sent
sent-set : (xs : List SendingEnd) (k : ℕ) (x y : SendingEnd) → slice_get xs k ≡ Some x → sent_over (slice_set xs k y) + length x.sender.sent ≡ sent_over xs + length y.sender.sent
sent-set [] k x y t = absurd (cc)
sent-set (z ∷ zs) zero x y t =
    let it : z ≡ x = cc in
    let same : length z.sender.sent ≡ length x.sender.sent = ap (λ (s : SendingEnd). length s.sender.sent) it in
    omega arith
sent-set (z ∷ zs) (suc k) x y t = let rest = sent-set zs k x y t in omega arith

sent-marked : (tick : Tick) (xs : List SendingEnd) → sent_over (map (marked_sender tick) xs) ≡ sent_over xs
sent-marked tick [] = refl
sent-marked tick (x ∷ xs) = (let own : length (map (sender.marked tick) x.sender.sent) ≡ length x.sender.sent = length-map x.sender.sent (sender.marked tick) in let rest = sent-marked tick xs in omega arith)

-- a command that waits to go costs a stretch of time
stretches : (less more stretch : ℕ) → less + 1 ≤ more → less * stretch + stretch ≤ more * stretch
stretches less more stretch h =
    let k : ℕ = more - less - 1 in
    let e : more ≡ less + 1 + k = omega arith in
    let f : more * stretch ≡ (less + 1 + k) * stretch = ap (λ n. n * stretch) e in
    let g : (less + 1 + k) * stretch ≡ less * stretch + stretch + k * stretch = omega arith in
    omega arith

no-more : (less more stretch : ℕ) → less ≤ more → less * stretch ≤ more * stretch
no-more less more stretch h =
    let k : ℕ = more - less in
    let e : more ≡ less + k = omega arith in
    let f : more * stretch ≡ (less + k) * stretch = ap (λ n. n * stretch) e in
    let g : (less + k) * stretch ≡ less * stretch + k * stretch = omega arith in
    omega arith

set-length : {X : Type 0} (xs : List X) (i : ℕ) (y : X) → length (slice_set xs i y) ≡ length xs
set-length [] i y = refl
set-length (x ∷ xs) zero y = refl
set-length (x ∷ xs) (suc i) y = let rest = set-length xs i y in omega arith

-- all that was sent first went by a moment, which moves on by a stretch with each command that goes for the first time or is acknowledged;
-- and nothing went longer ago than a stretch before the beginning
abbrev Until : ℕ → ℕ → ℕ → ℕ → ℕ → Transmission → Type 0
Until most stretch start limit now t = (first : ℕ) × Paces first most now t × (first ≤ limit) × (start ≤ first + stretch)

until-later : (most stretch start limit higher now : ℕ) (t : Transmission) → limit ≤ higher → Until most stretch start limit now t → Until most stretch start higher now t
until-later most stretch start limit higher now t up g = (g.0, g.1, (let x = g.2 in omega arith), g.3)

-- a command in transit last went by the greatest patience after that moment
abbrev Holds : ℕ → ℕ → ℕ → ℕ → ℕ → Transmission → Type 0
Holds most stretch start limit now t = (t.due ≡ false) × (g : Until most stretch start limit now t) × (g.1.last ≤ limit + most)

abbrev Held : ℕ → ℕ → ℕ → ℕ → ℕ → Outbox → Type 0
Held most stretch start limit now o =
    ((t : SentControl) × Has o.control.sent t × Holds most stretch start limit now t.transmission)
    ⊎ ((s : SendingEnd) × Has o.senders s × (t : Sent) × Has s.sender.sent t × Holds most stretch start limit now t.transmission)

record Paced (most stretch total start now : ℕ) (o : Outbox) : Type 0 where
  limit : ℕ
  each : Each (Until most stretch start limit now) o.control.sent o.senders
  count : limit + still_to_do o * stretch ≤ total
  near : now ≤ limit + stretch
  begun : start ≤ now + stretch
  held : (now ≤ limit + most) ⊎ Held most stretch start limit now o

-- a datagram that is filled keeps this
filled-paced : (most stretch total start now : ℕ) (pace : Pace) (o : Outbox) → pace.now ≡ now % 2 ^ 32 → pace.timeout ≤ 5000 → Paced most stretch total start now o → Paced most stretch total start now (filled pace o).outbox
filled-paced most stretch total start now pace o same low r = by-filling pace o (λ f. Keeps f.outbox) (record {
  closes = λ f g. g;
  acknowledges = λ f a rest e g. record { limit = g.limit; each = g.each; count = g.count; near = g.near; begun = g.begun; held = g.held };
  controls = λ f n e g. controls f.outbox n g (goes-control pace.now pace.timeout f.outbox.control n e);
  puts_unsequenced = λ f u rest t e g. record { limit = g.limit; each = g.each; count = g.count; near = g.near; begun = g.begun; held = g.held };
  drops_unsequenced = λ f u rest t e g. record { limit = g.limit; each = g.each; count = g.count; near = g.near; begun = g.begun; held = g.held };
  puts_data = λ f k s n t there due g. senders f.outbox (data_put f k s n (record f.outbox { throttle = t })).outbox k s n n.sender there g (goes-of _ s.sender n due) refl refl refl (omega arith) refl refl;
  drops_data = λ f k s n t there due kind g. senders f.outbox (with_sender (record f.outbox { throttle = t }) k (record s { sender = with_skipped n.sender })) k s n (with_skipped n.sender) there g (goes-of _ s.sender n due) refl refl refl (skipped-length n.sender.queued) refl refl;
  keeps_room = λ f i x there wants g. record { limit = g.limit; each = g.each; count = g.count; near = g.near; begun = g.begun; held = g.held };
  gives_room = λ f i x n there due g. record { limit = g.limit; each = g.each; count = g.count; near = g.near; begun = g.begun; held = g.held };
}) r
  where
    Keeps : Outbox → Type 0
    Keeps u = Paced most stretch total start now u

    Goes_on : ℕ → Transmission → Type 0
    Goes_on limit t = Until most stretch start limit now t

    further : (limit : ℕ) (t : Transmission) → Goes_on limit t → Goes_on (limit + stretch) t
    further limit t g = until-later most stretch start limit (limit + stretch) now t (omega arith) g

    -- what goes now, or again
    begins : (limit : ℕ) → now ≤ limit + stretch → start ≤ now + stretch → Goes_on (limit + stretch) (transmission.begun pace.now pace.timeout)
    begins limit near begun = subst (λ m. Goes_on (limit + stretch) (transmission.begun m pace.timeout)) (sym same) (now, paces-begun now pace.timeout most low, near, begun)

    repeats : (limit : ℕ) (t : Transmission) → t.due ≡ true → Goes_on limit t → Goes_on limit (transmission.again pace.now t)
    repeats limit t due g = subst (λ m. Goes_on limit (transmission.again m t)) (sym same) (g.0, paces-again g.0 most now t g.1 due, g.2, g.3)

    controls : (u : Outbox) (n : controlling.Next) → Keeps u → GoesControl pace.now pace.timeout u.control n → Keeps (record u { control = n.commands })
    controls u n g (Heads x rest q is) = subst (λ (c : controlling.Next). Keeps (record u { control = c.commands })) is (record {
      limit = g.limit + stretch;
      each = (λ t h. pushed (controlling.is_reliable x.control) t h, λ s k t h. further g.limit t.transmission (g.each.1 s k t h));
      count = (let c = g.count in
          let len : length u.control.queued ≡ suc (length rest) = ap (λ (l : List Numbered). length l) q in
          let more = size (controlling.is_reliable x.control) in
          let less = stretches (still_to_do after) (still_to_do u) stretch (omega arith) in omega arith);
      near = (let c = g.near in omega arith);
      begun = g.begun;
      held = inl (let c = g.near in omega arith);
    })
      where
        new : SentControl
        new = controlling.begun pace.now pace.timeout x

        after : Outbox
        after = record u { control = record u.control { queued = rest; sent = cond (controlling.is_reliable x.control) (u.control.sent ++ new ∷ []) u.control.sent } }

        size : (b : Bool) → length (cond b (u.control.sent ++ new ∷ []) u.control.sent) ≤ length u.control.sent + 1
        size true = (let l = length-append u.control.sent (new ∷ []) in omega arith)
        size false = omega arith

        pushed : (b : Bool) (t : SentControl) → Has (cond b (u.control.sent ++ new ∷ []) u.control.sent) t → Goes_on (g.limit + stretch) t.transmission
        pushed false t h = further g.limit t.transmission (g.each.0 t h)
        pushed true t h = elim (Has-pushed u.control.sent new t h) [
          | inl now_is ↦ subst (λ (y : SentControl). Goes_on (g.limit + stretch) y.transmission) now_is (begins g.limit g.near g.begun)
          | inr old ↦ further g.limit t.transmission (g.each.0 t old)
        ]
    controls u n g (Repeats i p there due is) = subst (λ (c : controlling.Next). Keeps (record u { control = c.commands })) is (record {
      limit = g.limit;
      each = (
        (λ t h. elim (Has-set u.control.sent i again t h) [
          | inl now_is ↦ subst (λ (y : SentControl). Goes_on g.limit y.transmission) now_is (repeats g.limit p.transmission due (g.each.0 p (Has-at u.control.sent i p there)))
          | inr old ↦ g.each.0 t old
        ]),
        g.each.1,
      );
      count = (let c = g.count in let l = set-length u.control.sent i again in let k = no-more (still_to_do after) (still_to_do u) stretch (omega arith) in omega arith);
      near = g.near;
      begun = g.begun;
      held = elim g.held [ inl early ↦ inl early | inr h ↦ inr (stays h) ];
    })
      where
        again : SentControl
        again = controlling.again pace.now p

        after : Outbox
        after = record u { control = record u.control { sent = slice_set u.control.sent i again } }

        -- what isn't due isn't what went
        stays : Held most stretch start g.limit now u → Held most stretch start g.limit now after
        stays (inr w) = inr w
        stays (inl w) = elim (stays-set u.control.sent i p w.0 again there w.1) [
          | inl has ↦ inl (w.0, has, w.2)
          | inr is_p ↦ absurd (let z : true ≡ false = sym due ∙ ap (λ (y : SentControl). y.transmission.due) is_p ∙ w.2.0 in cc)
        ]

    -- one channel goes on to a sender that has sent what the next one has, and has no more queued
    senders : (u v : Outbox) (k : ℕ) (s : SendingEnd) (n : Next) (new : Sender) {o : Occasion} → slice_get u.senders k ≡ Some s → Keeps u → Goes o s.sender n → o.now ≡ pace.now → o.timeout ≡ pace.timeout
        → v.control ≡ u.control → length new.queued ≤ length n.sender.queued → v.senders ≡ slice_set u.senders k (record s { sender = new }) → (new.sent ≡ n.sender.sent) → Keeps v
    senders u v k s n new {o} there g goes at_now at_wait control short over sent = by goes
      where
        end : SendingEnd
        end = record s { sender = new }

        at : (limit : ℕ) → ((t : Sent) → Has n.sender.sent t → Goes_on limit t.transmission) → g.limit ≤ limit → limit + still_to_do v * stretch ≤ total → now ≤ limit + stretch
            → (now ≤ limit + most) ⊎ Held most stretch start limit now v → Keeps v
        at limit own up count near held = record {
          limit = limit;
          each = (
            (λ t h. until-later most stretch start g.limit limit now t.transmission up (g.each.0 t (subst (λ (c : Commands). Has c.sent t) control h))),
            (λ x h t m. each-set (Goes_on limit) u.senders k s new there (λ y j. own y (subst (λ (l : List Sent). Has l y) sent j)) (λ y j z i. until-later most stretch start g.limit limit now z.transmission up (g.each.1 y j z i)) x
                (subst (λ (l : List SendingEnd). Has l x) over h) t m),
          );
          count = count;
          near = near;
          begun = g.begun;
          held = held;
        }

        queued_is : queued_over v.senders + length s.sender.queued ≡ queued_over u.senders + length new.queued
        queued_is = ap (λ (l : List SendingEnd). queued_over l + length s.sender.queued) over ∙ queued-set u.senders k s end there

        sent_is : sent_over v.senders + length s.sender.sent ≡ sent_over u.senders + length n.sender.sent
        sent_is = ap (λ (l : List SendingEnd). sent_over l + length s.sender.sent) over ∙ sent-set u.senders k s end there ∙ ap (λ (l : List Sent). sent_over u.senders + length l) sent

        controls_is : still_to_do v ≡ 2 * (length u.control.queued + queued_over v.senders) + (length u.control.sent + sent_over v.senders)
        controls_is = ap (λ (c : Commands). 2 * (length c.queued + queued_over v.senders) + (length c.sent + sent_over v.senders)) control

        by : Goes o s.sender n → Keeps v
        by (First c rest q may is) = at (g.limit + stretch)
            (λ t h. pushed c.reliable t (subst (λ (x : Next). Has x.sender.sent t) (sym is) h))
            (omega arith)
            (let e = g.count in
            let len : length s.sender.queued ≡ suc (length rest) = ap (λ (l : List DataCommand). length l) q in
            let left : length n.sender.queued ≡ length rest = ap (λ (x : Next). length x.sender.queued) (sym is) in
            let gone : length n.sender.sent ≡ length (cond c.reliable (s.sender.sent ++ first ∷ []) s.sender.sent) = ap (λ (x : Next). length x.sender.sent) (sym is) in
            let more = size c.reliable in
            let a = queued_is in
            let b = sent_is in
            let d = controls_is in
            let less = stretches (still_to_do v) (still_to_do u) stretch (omega arith) in omega arith)
            (let e = g.near in omega arith)
            (inl (let e = g.near in omega arith))
          where
            first : Sent
            first = sender.begun o.now o.timeout c

            size : (b : Bool) → length (cond b (s.sender.sent ++ first ∷ []) s.sender.sent) ≤ length s.sender.sent + 1
            size true = (let l = length-append s.sender.sent (first ∷ []) in omega arith)
            size false = omega arith

            pushed : (b : Bool) (t : Sent) → Has (cond b (s.sender.sent ++ first ∷ []) s.sender.sent) t → Goes_on (g.limit + stretch) t.transmission
            pushed false t h = further g.limit t.transmission (g.each.1 s (Has-at u.senders k s there) t h)
            pushed true t h = elim (Has-pushed s.sender.sent first t h) [
              | inl now_is ↦ subst (λ (y : Sent). Goes_on (g.limit + stretch) y.transmission) now_is
                  (subst (λ m. Goes_on (g.limit + stretch) (transmission.begun m o.timeout)) (sym at_now) (subst (λ w. Goes_on (g.limit + stretch) (transmission.begun pace.now w)) (sym at_wait) (begins g.limit g.near g.begun)))
              | inr old ↦ further g.limit t.transmission (g.each.1 s (Has-at u.senders k s there) t old)
            ]
        by (Again i p where_is due is) = at g.limit
            (λ t h. elim (Has-set s.sender.sent i again t (subst (λ (x : Next). Has x.sender.sent t) (sym is) h)) [
              | inl now_is ↦ subst (λ (y : Sent). Goes_on g.limit y.transmission) now_is
                  (subst (λ m. Goes_on g.limit (transmission.again m p.transmission)) (sym at_now) (repeats g.limit p.transmission due (g.each.1 s (Has-at u.senders k s there) p (Has-at s.sender.sent i p where_is))))
              | inr old ↦ g.each.1 s (Has-at u.senders k s there) t old
            ])
            (omega arith)
            (let e = g.count in
            let left : length n.sender.queued ≡ length s.sender.queued = ap (λ (x : Next). length x.sender.queued) (sym is) in
            let gone : length n.sender.sent ≡ length (slice_set s.sender.sent i again) = ap (λ (x : Next). length x.sender.sent) (sym is) in
            let l = set-length s.sender.sent i again in
            let a = queued_is in
            let b = sent_is in
            let d = controls_is in
            let less = no-more (still_to_do v) (still_to_do u) stretch (omega arith) in omega arith)
            g.near
            (elim g.held [ inl early ↦ inl early | inr h ↦ inr (stays h) ])
          where
            again : Sent
            again = sender.again o.now p

            in_new : (t : Sent) → Has (slice_set s.sender.sent i again) t → Has new.sent t
            in_new t h = subst (λ (l : List Sent). Has l t) (sym sent) (subst (λ (x : Next). Has x.sender.sent t) is h)

            stays : Held most stretch start g.limit now u → Held most stretch start g.limit now v
            stays (inl w) = inl (w.0, subst (λ (c : Commands). Has c.sent w.0) (sym control) w.1, w.2)
            stays (inr w) = elim (stays-set u.senders k s w.0 end there w.1) [
              | inl has ↦ inr (w.0, subst (λ (l : List SendingEnd). Has l w.0) (sym over) has, w.2, w.3, w.4)
              | inr is_s ↦ elim (stays-set s.sender.sent i p w.2 again where_is (subst (λ (y : SendingEnd). Has y.sender.sent w.2) (sym is_s) w.3)) [
                | inl has ↦ inr (end, subst (λ (l : List SendingEnd). Has l end) (sym over) (Has-at (slice_set u.senders k end) k end (set-same u.senders k end s there)), w.2, in_new w.2 has, w.4)
                | inr is_p ↦ absurd (let z : true ≡ false = sym due ∙ ap (λ (y : Sent). y.transmission.due) is_p ∙ w.4.0 in cc)
              ]
            ]

-- a peer that is to disconnect later, of which all fits, by now
abbrev pace_at : Peering → Pace
pace_at p = pace_of p 0

fit-at : (a b : Pace) (o : Outbox) → a.mtu ≡ b.mtu → AllFit a o → AllFit b o
fit-at a b o same all = record {
  fit = record {
    mtu = subst (λ m. 576 ≤ m) same all.fit.mtu;
    unsequenced = λ u h. subst (λ m. length u.body + 28 ≤ m) same (all.fit.unsequenced u h);
    queued = λ i s t c h. subst (λ m. length c.body + 28 ≤ m) same (all.fit.queued i s t c h);
  };
  awaited = all.awaited;
  sent = λ i s t p h. subst (λ m. length p.command.body + 28 ≤ m) same (all.sent i s t p h);
}

-- what a command that comes leaves: no more is to be done, and less, or what was sent is as it was; and all still fits
record Fewer (p q : Peering) : Type 0 where
  count : still_to_do q.outbox ≤ still_to_do p.outbox
  less : (still_to_do q.outbox < still_to_do p.outbox) ⊎ ((q.outbox.control.sent ≡ p.outbox.control.sent) × (q.outbox.senders ≡ p.outbox.senders))
  mtu : q.terms.mtu ≡ p.terms.mtu
  fit : (pace : Pace) → AllFit pace p.outbox → AllFit pace q.outbox

-- where all that is sent stays as it is
fewer-same : (p q : Peering) → q.outbox.control ≡ p.outbox.control → q.outbox.senders ≡ p.outbox.senders → q.outbox.unsequenced ≡ p.outbox.unsequenced → q.terms.mtu ≡ p.terms.mtu → q.outbox.kept ≡ p.outbox.kept → Fewer p q
fewer-same p q control senders unsequenced mtu kept = record {
  count = (let a : length q.outbox.control.queued ≡ length p.outbox.control.queued = ap (λ (c : Commands). length c.queued) control in
      let b : queued_over q.outbox.senders ≡ queued_over p.outbox.senders = ap queued_over senders in
      let c : length q.outbox.control.sent ≡ length p.outbox.control.sent = ap (λ (c : Commands). length c.sent) control in
      let d : sent_over q.outbox.senders ≡ sent_over p.outbox.senders = ap sent_over senders in omega arith);
  less = inr (ap (λ (c : Commands). c.sent) control, senders);
  mtu = mtu;
  fit = λ pace a. record {
    fit = record {
      mtu = a.fit.mtu;
      unsequenced = λ u h. a.fit.unsequenced u (subst (λ xs. Has xs u) unsequenced h);
      queued = λ i s t c h. a.fit.queued i s (subst (λ (l : List SendingEnd). slice_get l i ≡ Some s) senders t) c h;
    };
    awaited = subst (λ (l : List SendingEnd). IsAwaited l q.outbox.kept) (sym senders) (subst (IsAwaited p.outbox.senders) (sym kept) a.awaited);
    sent = λ i s t x h. a.sent i s (subst (λ (l : List SendingEnd). slice_get l i ≡ Some s) senders t) x h;
  };
}

fewer-then : (p q r : Peering) → Fewer p q → Fewer q r → Fewer p r
fewer-then p q r a b = record {
  count = (let x = a.count in let y = b.count in omega arith);
  less = by a.less b.less;
  mtu = b.mtu ∙ a.mtu;
  fit = λ pace f. b.fit pace (a.fit pace f);
}
  where
    SameSent : Peering → Peering → Type 0
    SameSent x y = (y.outbox.control.sent ≡ x.outbox.control.sent) × (y.outbox.senders ≡ x.outbox.senders)

    by : (still_to_do q.outbox < still_to_do p.outbox) ⊎ SameSent p q → (still_to_do r.outbox < still_to_do q.outbox) ⊎ SameSent q r → (still_to_do r.outbox < still_to_do p.outbox) ⊎ SameSent p r
    by (inl x) y = inl (let z = b.count in omega arith)
    by (inr x) (inl y) = inl (let z = a.count in omega arith)
    by (inr x) (inr y) = inr (y.0 ∙ x.0, y.1 ∙ x.1)

-- still to disconnect later, it has no more to go
abbrev Goes_on : Peering → Peering → Type 0
Goes_on p q = q.state ≡ state.DisconnectLater → Fewer p q

answered-fewer : (p e : Peering) (m : Message) (sent : Option ℕ) (may : Bool) → Goes_on p e → Goes_on p (answered e m sent may).after
answered-fewer p e m sent may h = go (m.head.acknowledge && may && is_answered_in e.state m.body) sent
  where
    go : (b : Bool) (o : Option ℕ) → Goes_on p (cond b (answered_at e m.head o) (record { stop = None; after = e })).after
    go false o = h
    go true None = h
    go true (Some time) = λ k. fewer-then p e (answered_at e m.head (Some time)).after (h k) (fewer-same e (answered_at e m.head (Some time)).after refl refl refl refl refl)

-- a list from which an element was taken, or that has none at that place
remove-either : {X : Type 0} (xs : List X) (i : ℕ) → (remove xs i ≡ xs) ⊎ (length (remove xs i) + 1 ≡ length xs)
remove-either [] zero = inl refl
remove-either [] (suc i) = inl refl
remove-either (x ∷ xs) zero = inr (omega arith)
remove-either {X} (x ∷ xs) (suc i) = elim (remove-either xs i) [ inl e ↦ inl (ap (λ (l : List X). x ∷ l) e) | inr e ↦ inr (omega arith) ]

gone-either : (xs : List Sent) (o : Option ℕ) → (sender.without_place xs o ≡ xs) ⊎ (length (sender.without_place xs o) + 1 ≡ length xs)
gone-either xs None = inl refl
gone-either xs (Some i) = remove-either xs i

controls-either : (xs : List SentControl) (o : Option ℕ) → (controlling.without_place xs o ≡ xs) ⊎ (length (controlling.without_place xs o) + 1 ≡ length xs)
controls-either xs None = inl refl
controls-either xs (Some i) = remove-either xs i

set-self : (xs : List SendingEnd) (k : ℕ) (x : SendingEnd) → slice_get xs k ≡ Some x → slice_set xs k x ≡ xs
set-self [] k x e = refl
set-self (z ∷ zs) zero x e = let it : z ≡ x = cc in ap (λ (y : SendingEnd). y ∷ zs) (sym it)
set-self (z ∷ zs) (suc k) x e = ap (λ (l : List SendingEnd). z ∷ l) (set-self zs k x e)

-- an acknowledgement takes one away, if any
gone-fewer : (p : Peering) (now channel number time : ℕ) → Fewer p (acknowledged p now channel number time)
gone-fewer p now channel number time = by (channel == 0xFF)
  where
    told : Option Acknowledged
    told = outbox.told_by p.outbox channel number time

    after : Outbox → Peering
    after o = Rattle.enet_peer.specs.CommandEffect.sampled (record p { outbox = outbox.with_growth o told }) now time

    on : (x : Option SendingEnd) → slice_get p.outbox.senders channel ≡ x → Fewer p (after (outbox.acknowledged_on p.outbox channel number x))
    on None e = fewer-same p (after p.outbox) refl refl refl refl refl
    on (Some s) e = record {
      count = (let k = queued-set p.outbox.senders channel s new e in let l = sent-set p.outbox.senders channel s new e in let m = gone-least in omega arith);
      less = elim (gone-either s.sender.sent (sender.position_of number s.sender.sent)) [
        | inl same ↦ inr (refl, ap (λ (l : List Sent). slice_set p.outbox.senders channel (record s { sender = record s.sender { sent = l } })) same ∙ set-self p.outbox.senders channel s e)
        | inr gone ↦ inl (let k = queued-set p.outbox.senders channel s new e in let l = sent-set p.outbox.senders channel s new e in omega arith)
      ];
      mtu = refl;
      fit = λ pace a. record {
        fit = record {
          mtu = a.fit.mtu;
          unsequenced = a.fit.unsequenced;
          queued = λ i y t c h. elim (get-set p.outbox.senders channel i new y t) [
            | inl w ↦ a.fit.queued channel s e c (subst (λ (z : SendingEnd). Has z.sender.queued c) (sym w.1) h)
            | inr w ↦ a.fit.queued i y w.1 c h
          ];
        };
        awaited = awaited-on p.outbox channel number (Some s) e a.awaited;
        sent = λ i y t x h. elim (get-set p.outbox.senders channel i new y t) [
          | inl w ↦ a.sent channel s e x (left (sender.position_of number s.sender.sent) x (subst (λ (z : SendingEnd). Has z.sender.sent x) (sym w.1) h))
          | inr w ↦ a.sent i y w.1 x h
        ];
      };
    }
      where
        new : SendingEnd
        new = record s { sender = sender.after_acknowledgement s.sender number }

        gone-least : length new.sender.sent ≤ length s.sender.sent
        gone-least = elim (gone-either s.sender.sent (sender.position_of number s.sender.sent)) [ inl same ↦ (let z : length new.sender.sent ≡ length s.sender.sent = ap (λ (l : List Sent). length l) same in omega arith) | inr gone ↦ omega arith ]

        left : (o : Option ℕ) (t : Sent) → Has (sender.without_place s.sender.sent o) t → Has s.sender.sent t
        left None t k = k
        left (Some i) t k = Has-removed s.sender.sent i t k

    by : (b : Bool) → Fewer p (after (cond b (record p.outbox { control = controlling.after_acknowledgement p.outbox.control number }) (outbox.acknowledged_on p.outbox channel number (slice_get p.outbox.senders channel))))
    by true = elim (controls-either p.outbox.control.sent (controlling.position_of number p.outbox.control.sent)) [
      | inl same ↦ record {
        count = (let z : length controls ≡ length p.outbox.control.sent = ap (λ (l : List SentControl). length l) same in omega arith);
        less = inr (same, refl);
        mtu = refl;
        fit = fits;
      }
      | inr gone ↦ record { count = omega arith; less = inl (omega arith); mtu = refl; fit = fits }
    ]
      where
        controls : List SentControl
        controls = controlling.without_place p.outbox.control.sent (controlling.position_of number p.outbox.control.sent)

        fits : (pace : Pace) → AllFit pace p.outbox → AllFit pace (after (record p.outbox { control = controlling.after_acknowledgement p.outbox.control number })).outbox
        fits pace a = record { fit = record { mtu = a.fit.mtu; unsequenced = a.fit.unsequenced; queued = a.fit.queued }; awaited = a.awaited; sent = a.sent }
    by false = on (slice_get p.outbox.senders channel) refl

settled-fewer : (p q : Peering) → Fewer p q → Goes_on p (settled q)
settled-fewer p q h = by (Rattle.enet_peer.specs.Endings.is_later q.state && is_done q.outbox)
  where
    by : (b : Bool) → Goes_on p (cond b (disconnecting q q.info) q)
    by true = λ k. absurd (cc)
    by false = λ k. h

abbrev at_later : Peering → Peering
at_later p = record p { state = state.DisconnectLater }

acknowledge-fewer : (p : Peering) (now channel number told : ℕ) → Goes_on p (on_acknowledge (at_later p) now channel number told)
acknowledge-fewer p now channel number told = by (matched_by p.outbox channel number time)
  where
    time : ℕ
    time = meant_time told (p.offset % 2 ^ 16)

    old : Peering
    old = at_later p

    gone : Peering
    gone = acknowledged old now channel number time

    less : Fewer p gone
    less = fewer-then p old gone (fewer-same p old refl refl refl refl refl) (gone-fewer old now channel number time)

    by : (x : Matched) → Goes_on p (on_match x old gone)
    by matched.Nothing = λ k. fewer-same p old refl refl refl refl refl
    by matched.Data = settled-fewer p gone less
    by (matched.Control what) = settled-fewer p gone less

disconnect-fewer : (p : Peering) (answerable : Bool) (info : ℕ) → Goes_on p (on_disconnect_in state.DisconnectLater (at_later p) answerable info)
disconnect-fewer p true info = λ k. absurd (cc)
disconnect-fewer p false info = λ k. absurd (cc)

hears-fewer : (p : Peering) (now : ℕ) (sent : Option ℕ) (m : Message) → Goes_on p (obeyed (at_later p) now sent m).after
hears-fewer p now sent m = by m.body
  where
    old : Peering
    old = at_later p

    same : Goes_on p old
    same = λ k. fewer-same p old refl refl refl refl refl

    passed : (r : Result Bool Stop) → Goes_on p (by_answer old m sent r).after
    passed (Err why) = same
    passed (Ok may) = answered-fewer p old m sent may same

    effect : (b : Body) → Goes_on p (by_body old now sent m b).after → Goes_on p (unless_refused old m (by_body old now sent m b)).after
    effect b h = unless-holds (Goes_on p) old m (by_body old now sent m b) same h

    by : (b : Body) → Goes_on p (cond (is_connect b) (stopped old stop.BadCommand) (cond (is_allowed state.DisconnectLater b) (unless_refused old m (by_body old now sent m b)) (stopped old stop.NotConnected))).after
    by (acknowledge number time) = effect (acknowledge number time) (answered-fewer p (on_acknowledge old now m.head.channel number time) m sent true (acknowledge-fewer p now m.head.channel number time))
    by (connect offer) = same
    by (verify_connect v) = effect (verify_connect v) (answered-fewer p old m sent true same)
    by (disconnect info) = effect (disconnect info) (answered-fewer p (on_disconnect_in state.DisconnectLater old (m.head.acknowledge && is_some sent) info) m sent true (disconnect-fewer p (m.head.acknowledge && is_some sent) info))
    by ping = effect ping (answered-fewer p old m sent true same)
    by (send_reliable payload) = effect (send_reliable payload) (passed (passed_over p.inbox m))
    by (send_unreliable number payload) = effect (send_unreliable number payload) (passed (passed_over p.inbox m))
    by (send_fragment fragment payload) = effect (send_fragment fragment payload) (passed (passed_over p.inbox m))
    by (send_unsequenced group payload) = effect (send_unsequenced group payload) (passed (passed_over p.inbox m))
    by (send_unreliable_fragment fragment payload) = effect (send_unreliable_fragment fragment payload) (passed (passed_over p.inbox m))
    by (bandwidth_limit incoming outgoing) = effect (bandwidth_limit incoming outgoing) (answered-fewer p (on_bandwidth old incoming) m sent true (λ k. fewer-same p (on_bandwidth old incoming) refl refl refl refl refl))
    by (throttle_configure interval acceleration deceleration) =
        effect (throttle_configure interval acceleration deceleration) (answered-fewer p (on_throttle old interval acceleration deceleration) m sent true (λ k. fewer-same p (on_throttle old interval acceleration deceleration) refl refl refl refl refl))

takes-fewer : (p : Peering) → Goes_on p (after_take (at_later p) (next_event (at_later p)))
takes-fewer p = by p.greeting
  where
    old : Peering
    old = at_later p

    packets : (untaken : List codec.Packet) → Goes_on p (after_take old (packet_event old untaken))
    packets [] = λ k. fewer-same p old refl refl refl refl refl
    packets (q ∷ rest) = λ k. fewer-same p _ refl refl refl refl refl

    by : (greeting : Option ℕ) → Goes_on p (after_take old (event_after old greeting))
    by (Some info) = λ k. fewer-same p _ refl refl refl refl refl
    by None = packets p.inbox.untaken

-- the peer by now, while it is to disconnect later
record Ahead (most gap total start now : ℕ) (p : Peering) : Type 0 where
  paced : Paced most (5000 + 2 * most + gap) total start now p.outbox
  within : IsWithin p.estimate 65535
  patient : p.patience.maximum ≡ most
  fit : AllFit (pace_at p) p.outbox

-- as a command that comes leaves it
ahead-fewer : (most gap total start now : ℕ) (p q : Peering) → Ahead most gap total start now p → ((R : Transmission → Type 0) → Fair R most p → Fair R most q) → Fewer p q → Ahead most gap total start now q
ahead-fewer most gap total start now p q a keeps less = record {
  paced = by less.less;
  within = kept.1;
  patient = kept.2;
  fit = fit-at (pace_at p) (pace_at q) q.outbox (ap (λ m. max 576 (min m 4096)) (sym less.mtu)) (less.fit (pace_at p) a.fit);
}
  where
    stretch : ℕ
    stretch = 5000 + 2 * most + gap

    r : Paced most stretch total start now p.outbox
    r = a.paced

    kept : Fair (Until most stretch start r.limit now) most q
    kept = keeps (Until most stretch start r.limit now) (r.each, a.within, a.patient)

    by : (still_to_do q.outbox < still_to_do p.outbox) ⊎ ((q.outbox.control.sent ≡ p.outbox.control.sent) × (q.outbox.senders ≡ p.outbox.senders)) → Paced most stretch total start now q.outbox
    by (inl fewer) = record {
      limit = r.limit + stretch;
      each = (
        (λ t h. until-later most stretch start r.limit (r.limit + stretch) now t.transmission (omega arith) (kept.0.0 t h)),
        (λ s k t h. until-later most stretch start r.limit (r.limit + stretch) now t.transmission (omega arith) (kept.0.1 s k t h)),
      );
      count = (let c = r.count in let k = stretches (still_to_do q.outbox) (still_to_do p.outbox) stretch (omega arith) in omega arith);
      near = (let c = r.near in omega arith);
      begun = r.begun;
      held = inl (let c = r.near in omega arith);
    }
    by (inr same) = record {
      limit = r.limit;
      each = kept.0;
      count = (let c = r.count in let d = less.count in let k = no-more (still_to_do q.outbox) (still_to_do p.outbox) stretch d in omega arith);
      near = r.near;
      begun = r.begun;
      held = elim r.held [
        | inl early ↦ inl early
        | inr h ↦ elim h [
          | inl w ↦ inr (inl (w.0, subst (λ (l : List SentControl). Has l w.0) (sym same.0) w.1, w.2))
          | inr w ↦ inr (inr (w.0, subst (λ (l : List SendingEnd). Has l w.0) (sym same.1) w.1, w.2, w.3, w.4))
        ]
      ];
    }

-- as a datagram that is put out leaves it
filled-ahead : (most gap total start now : ℕ) (p : Peering) → Ahead most gap total start now p → Ahead most gap total start now (record p { outbox = (filled (pace_of p (now % 2 ^ 32)) p.outbox).outbox })
filled-ahead most gap total start now p a = record {
  paced = filled-paced most (5000 + 2 * most + gap) total start now (pace_of p (now % 2 ^ 32)) p.outbox refl (timeout-low p.estimate) a.paced;
  within = a.within;
  patient = a.patient;
  fit = fit-at (pace_of p (now % 2 ^ 32)) (pace_at p) (filled (pace_of p (now % 2 ^ 32)) p.outbox).outbox refl (filled-fits (pace_of p (now % 2 ^ 32)) p.outbox (fit-at (pace_at p) (pace_of p (now % 2 ^ 32)) p.outbox refl a.fit));
}

-- a datagram is put out: where the peer is to disconnect later after it, it isn't done
stays-on : (q : Peering) → q.state ≡ state.DisconnectLater → (gone_on q).state ≡ state.DisconnectLater → (gone_on q ≡ q) × (is_done q.outbox ≡ false)
stays-on q e h = by (is_done q.outbox) refl
  where
    settles : gone_on q ≡ cond (is_done q.outbox) (disconnecting q q.info) q
    settles = ap (λ s. Rattle.enet_peer.specs.Calls.gone_on_in s q) e ∙ ap (λ s. cond (Rattle.enet_peer.specs.Endings.is_later s && is_done q.outbox) (disconnecting q q.info) q) e

    by : (b : Bool) → is_done q.outbox ≡ b → (gone_on q ≡ q) × (is_done q.outbox ≡ false)
    by true d = absurd (let x : gone_on q ≡ disconnecting q q.info = settles ∙ ap (λ c. cond c (disconnecting q q.info) q) d in
        let y : state.Disconnecting ≡ state.DisconnectLater = ap (λ (z : Peering). z.state) (sym x) ∙ h in cc)
    by false d = (settles ∙ ap (λ c. cond c (disconnecting q q.info) q) d, d)

-- a step
step-ahead : (most gap total start now : ℕ) (p : Peering) (step : Step) → p.state ≡ state.DisconnectLater → Ahead most gap total start now p → (after_step (now % 2 ^ 32) p step).state ≡ state.DisconnectLater → Ahead most gap total start now (after_step (now % 2 ^ 32) p step)
step-ahead most gap total start now p step e a h = by step h
  where
    at : at_later p ≡ p
    at = ap (λ s. record p { state = s }) (sym e)

    by : (step : Step) → (after_step (now % 2 ^ 32) p step).state ≡ state.DisconnectLater → Ahead most gap total start now (after_step (now % 2 ^ 32) p step)
    by (Hears full sent m) h =
        let plain = heeded-obeyed full p (now % 2 ^ 32) sent m (ap is_answering e) in
        let less : Goes_on p (obeyed p (now % 2 ^ 32) sent m).after = subst (λ (x : Peering). Goes_on p (obeyed x (now % 2 ^ 32) sent m).after) at (hears-fewer p (now % 2 ^ 32) sent m) in
        subst (λ (o : Outcome). Ahead most gap total start now o.after) (sym plain)
        (ahead-fewer most gap total start now p (obeyed p (now % 2 ^ 32) sent m).after a (λ R f. fair-obeyed R most p (now % 2 ^ 32) sent m f) (less (ap (λ (o : Outcome). o.after.state) (sym plain) ∙ h)))
    by TellsAgain h = subst (λ (x : Peering). Ahead most gap total start now x) (ap (λ b. cond b (told_again p) p) (sym (ap (λ (s : PeerState). is_answering s && p.refused) e))) a
    by PutsOut h =
        let q : Peering = record p { outbox = (filled (pace_of p (now % 2 ^ 32)) p.outbox).outbox } in
        subst (λ (x : Peering). Ahead most gap total start now x) (sym (stays-on q e h).0) (filled-ahead most gap total start now p a)
    by Takes h =
        let less : Goes_on p (after_take p (next_event p)) = subst (λ (x : Peering). Goes_on p (after_take x (next_event x))) at (takes-fewer p) in
        ahead-fewer most gap total start now p (after_take p (next_event p)) a (λ R f. fair-takes R most p f) (less h)

stays-first : (s : PeerState) (moment : ℕ) (steps : List Step) (p q : Peering) → Stays s moment steps p q → p.state ≡ s
stays-first s moment [] p q h = h.0
stays-first s moment (step ∷ steps) p q h = h.0

stays-ahead : (most gap total start now : ℕ) (steps : List Step) (p q : Peering) → Ahead most gap total start now p → Stays state.DisconnectLater (now % 2 ^ 32) steps p q → Ahead most gap total start now q × (q.state ≡ state.DisconnectLater)
stays-ahead most gap total start now [] p q a h = (subst (λ (x : Peering). Ahead most gap total start now x) h.1 a, ap (λ (x : Peering). x.state) (sym h.1) ∙ h.0)
stays-ahead most gap total start now (step ∷ steps) p q a h =
    let r = after_step (now % 2 ^ 32) p step in
    stays-ahead most gap total start now steps r q (step-ahead most gap total start now p step h.0 a (stays-first state.DisconnectLater (now % 2 ^ 32) steps r q h.1)) h.1

-- a moment comes
ticked-later : (p : Peering) (n : ℕ) → (ticked p n).state ≡ state.DisconnectLater → p.state ≡ state.DisconnectLater
ticked-later p n h = by (expiry_of p n) h
  where
    unpinged : (q : Peering) → (pinged q n).state ≡ state.DisconnectLater → q.state ≡ state.DisconnectLater
    unpinged q k = go (Rattle.enet_peer.specs.Calls.is_pinged q n) k
      where
        go : (b : Bool) → (cond b (record q { outbox = outbox.with_control q.outbox Rattle.enet_senders.specs.declared.control.Control.TheVariants.Ping }) q).state ≡ state.DisconnectLater → q.state ≡ state.DisconnectLater
        go true k = k
        go false k = k

    cut : (s : PeerState) → (cut_off_in s p).state ≡ state.DisconnectLater → p.state ≡ state.DisconnectLater
    cut state.Answering k = absurd (cc)
    cut state.Free k = absurd (cc)
    cut state.Connecting k = absurd (cc)
    cut state.Connected k = absurd (cc)
    cut state.DisconnectLater k = absurd (cc)
    cut state.Disconnecting k = absurd (cc)
    cut state.AckDisconnect k = absurd (cc)
    cut state.Parting k = absurd (cc)
    cut state.Ended k = absurd (cc)

    by : (e : Expiry) → (pinged (after_timeouts_by e p n) n).state ≡ state.DisconnectLater → p.state ≡ state.DisconnectLater
    by End k = cut p.state (unpinged (cut_off_in p.state p) k)
    by Resend k = unpinged (record p { outbox = outbox.marked p.outbox (tick_of p n) }) k
    by No k = unpinged p k

moved-later : (short : Bool) (p : Peering) (n : ℕ) → (moved short p n).state ≡ state.DisconnectLater → p.state ≡ state.DisconnectLater
moved-later short p n = by-moved (λ (x : Peering). x.state ≡ state.DisconnectLater → p.state ≡ state.DisconnectLater) short p n (ticked-later p n) (λ answers lasts h. h)

marked-fits : (tick : Tick) (pace : Pace) (o : Outbox) → AllFit pace o → AllFit pace (outbox.marked o tick)
marked-fits tick pace o a = record {
  fit = record {
    mtu = a.fit.mtu;
    unsequenced = a.fit.unsequenced;
    queued = λ i s t c h. (let w = back o.senders i s t in a.fit.queued i w.0 w.1 c (subst (λ (z : SendingEnd). Has z.sender.queued c) (sym w.2) h));
  };
  awaited = awaited-marked o tick a.awaited;
  sent = λ i s t x h. (let w = back o.senders i s t in
      let m = Has-mapped (sender.marked tick) w.0.sender.sent x (subst (λ (z : SendingEnd). Has z.sender.sent x) (sym w.2) h) in
      subst (λ (y : Sent). length y.command.body + 28 ≤ pace.mtu) m.2 (a.sent i w.0 w.1 m.0 m.1));
}
  where
    back : (xs : List SendingEnd) (i : ℕ) (s : SendingEnd) → slice_get (map (marked_sender tick) xs) i ≡ Some s → (x : SendingEnd) × (slice_get xs i ≡ Some x) × (marked_sender tick x ≡ s)
    back [] i s t = absurd (cc)
    back (x ∷ xs) zero s t = (x, refl, some-is t)
    back (x ∷ xs) (suc i) s t = back xs i s t

-- no command has ended it
ends-controls : (p : Peering) (n : ℕ) → Lasting p n → (t : SentControl) → Has p.outbox.control.sent t → transmission.ends n p.patience p.heard t.transmission ≡ false
ends-controls p n e t k = none-of (controlling.ends n p.patience p.heard) p.outbox.control.sent t (or-both (list_any (controlling.ends n p.patience p.heard) p.outbox.control.sent) _ e.0).0 k

ends-channels : (p : Peering) (n : ℕ) → Lasting p n → (s : SendingEnd) → Has p.outbox.senders s → (t : Sent) → Has s.sender.sent t → transmission.ends n p.patience p.heard t.transmission ≡ false
ends-channels p n e s k t j =
    none-of (sender.ends n p.patience p.heard) s.sender.sent t
    (none-of (λ (x : SendingEnd). list_any (sender.ends n p.patience p.heard) x.sender.sent) p.outbox.senders s (or-both (list_any (controlling.ends n p.patience p.heard) p.outbox.control.sent) _ e.0).1 k) j

-- what a moment makes of what was sent, where patience lasts
record Moves (most stretch start limit before now : ℕ) (p : Peering) : Type 0 where
  up : before ≤ now
  near : now + stretch < start + 2 ^ 32
  patient : p.patience.maximum ≡ most
  lasts : Lasting p (now % 2 ^ 32)

moves-near : (most stretch start limit before now : ℕ) (p : Peering) → Moves most stretch start limit before now p → (t : Transmission) (g : Until most stretch start limit before t) → now < g.0 + 2 ^ 32
moves-near most stretch start limit before now p m t g = (let a = m.near in let b = g.3 in omega arith)

moves-until : (most stretch start limit before now : ℕ) (p : Peering) → Moves most stretch start limit before now p → (t : Transmission) → transmission.ends (now % 2 ^ 32) p.patience p.heard t ≡ false → Until most stretch start limit before t
    → Until most stretch start limit now (transmission.marked (tick_of p (now % 2 ^ 32)) t)
moves-until most stretch start limit before now p m t e g =
    let k = paces-marked g.0 most before now (tick_of p (now % 2 ^ 32)) t refl (timeout-low p.estimate) g.1 m.up (moves-near most stretch start limit before now p m t g) (λ late. patient-by most (now % 2 ^ 32) p.heard p.patience t m.patient e late) in
    (g.0, k.0, g.2, g.3)

-- what holds a peer goes on to, or it is early
moves-holds : (most stretch start limit before now : ℕ) (p : Peering) → Moves most stretch start limit before now p → (t : Transmission) → transmission.ends (now % 2 ^ 32) p.patience p.heard t ≡ false → Holds most stretch start limit before t
    → (now ≤ limit + most) ⊎ Holds most stretch start limit now (transmission.marked (tick_of p (now % 2 ^ 32)) t)
moves-holds most stretch start limit before now p m t e h = by (transmission.is_late (now % 2 ^ 32) t) refl
  where
    tick : Tick
    tick = tick_of p (now % 2 ^ 32)

    g : Until most stretch start limit before t
    g = h.1

    by : (b : Bool) → transmission.is_late (now % 2 ^ 32) t ≡ b → (now ≤ limit + most) ⊎ Holds most stretch start limit now (transmission.marked tick t)
    by true late =
        let x = late-brief g.0 most before now t g.1 m.up (moves-near most stretch start limit before now p m t g) (patient-by most (now % 2 ^ 32) p.heard p.patience t m.patient e late) in
        let y = g.2 in
        inl (omega arith)
    by false early =
        let k = paces-marked g.0 most before now tick t refl (timeout-low p.estimate) g.1 m.up (moves-near most stretch start limit before now p m t g) (λ late. patient-by most (now % 2 ^ 32) p.heard p.patience t m.patient e late) in
        let waits : (transmission.marked tick t).due ≡ false = ap (λ b. (cond b (record t { timeout = transmission.next_time tick t; due = true }) t).due) early ∙ h.0 in
        inr (waits, (g.0, k.0, g.2, g.3), (let x = k.1 in let y = h.2 in omega arith))

-- at the end of a turn something is in transit, if it isn't done
record Rested (most gap total start now : ℕ) (q : Peering) : Type 0 where
  ahead : Ahead most gap total start now q
  holds : Held most (5000 + 2 * most + gap) start ahead.paced.limit now q.outbox

turn-rested : (most gap total start now : ℕ) (p q : Peering) → ((short : Bool) → (moved short p (now % 2 ^ 32)).state ≡ state.DisconnectLater → Ahead most gap total start now (moved short p (now % 2 ^ 32))) → Turn state.DisconnectLater now p q → q.state ≡ state.DisconnectLater
    → Rested most gap total start now q
turn-rested most gap total start now p q first turn e = subst (λ (x : Peering). Rested most gap total start now x) (sym (turn.after ∙ on.0)) (record {
  ahead = at_end;
  holds = holds at_end.paced.held;
})
  where
    n : ℕ
    n = now % 2 ^ 32

    last : Peering
    last = turn.last

    l : Ahead most gap total start now last × (last.state ≡ state.DisconnectLater)
    l = stays-ahead most gap total start now turn.steps (moved turn.short p n) last (first turn.short (stays-first state.DisconnectLater n turn.steps (moved turn.short p n) last turn.stays)) turn.stays

    pace : Pace
    pace = pace_of last n

    fit : AllFit pace last.outbox
    fit = fit-at (pace_at last) pace last.outbox refl (let a = l.0 in a.fit)

    r : Peering
    r = record last { outbox = (filled pace last.outbox).outbox }

    on : (gone_on r ≡ r) × (is_done r.outbox ≡ false)
    on = stays-on r l.1 (ap (λ (x : Peering). x.state) (sym turn.after) ∙ e)

    at_end : Ahead most gap total start now r
    at_end = filled-ahead most gap total start now last l.0

    some : (is_done r.outbox ≡ true) ⊎ WaitsForSome r.outbox → WaitsForSome r.outbox
    some (inl d) = absurd (let x : true ≡ false = sym d ∙ on.1 in cc)
    some (inr w) = w

    -- by now it last went
    early-holds : (t : Transmission) → t.due ≡ false → now ≤ at_end.paced.limit + most → Until most (5000 + 2 * most + gap) start at_end.paced.limit now t → Holds most (5000 + 2 * most + gap) start at_end.paced.limit now t
    early-holds t waits early g = (waits, g, (let x = g.1 in let y = x.by in omega arith))

    holds : (now ≤ at_end.paced.limit + most) ⊎ Held most (5000 + 2 * most + gap) start at_end.paced.limit now r.outbox → Held most (5000 + 2 * most + gap) start at_end.paced.limit now r.outbox
    holds (inr h) = h
    holds (inl early) = by (some (done-or-waits pace last.outbox fit turn.spent))
      where
        by : WaitsForSome r.outbox → Held most (5000 + 2 * most + gap) start at_end.paced.limit now r.outbox
        by (inl w) = inl (w.0, w.1, early-holds w.0.transmission w.2 early (at_end.paced.each.0 w.0 w.1))
        by (inr w) = inr (w.0, w.1, w.2, w.3, early-holds w.2.transmission w.4 early (at_end.paced.each.1 w.0 w.1 w.2 w.3))

-- a moment comes
tick-ahead : (most gap total start before now : ℕ) (short : Bool) (p : Peering) (a : Ahead most gap total start before p) → before ≤ now → start ≤ now → total + (5000 + 2 * most + gap) + (5000 + 2 * most + gap) < start + 2 ^ 32 → now ≤ a.paced.limit + (5000 + 2 * most + gap)
    → (now ≤ a.paced.limit + most) ⊎ Held most (5000 + 2 * most + gap) start a.paced.limit before p.outbox → (moved short p (now % 2 ^ 32)).state ≡ state.DisconnectLater → Ahead most gap total start now (moved short p (now % 2 ^ 32))
tick-ahead most gap total start before now short p a up begun close soon held on =
    subst (λ (x : Peering). Ahead most gap total start now x) (sym same) (goes (subst (λ (x : Peering). x.state ≡ state.DisconnectLater) same on))
  where
    n : ℕ
    n = now % 2 ^ 32

    is : p.state ≡ state.DisconnectLater
    is = moved-later short p n on

    same : moved short p n ≡ ticked p n
    same = moved-elsewhere short p n (ap is_answering is)

    stretch : ℕ
    stretch = 5000 + 2 * most + gap

    r : Paced most stretch total start before p.outbox
    r = a.paced

    moves : Lasting p n → Moves most stretch start r.limit before now p
    moves lasts = record { up = up; near = (let c = r.count in let s = soon in omega arith); patient = a.patient; lasts = lasts }

    tick : Tick
    tick = tick_of p n

    after : Outbox
    after = outbox.marked p.outbox tick

    marks : Lasting p n → Paced most stretch total start now after
    marks e = record {
      limit = r.limit;
      each = (
        (λ t h. (let c = Has-mapped (controlling.marked tick) p.outbox.control.sent t h in
            subst (λ (x : SentControl). Until most stretch start r.limit now x.transmission) c.2 (moves-until most stretch start r.limit before now p (moves e) c.0.transmission (ends-controls p n e c.0 c.1) (r.each.0 c.0 c.1)))),
        (λ s k t h. (let d = Has-mapped (marked_sender tick) p.outbox.senders s k in
            let c = Has-mapped (sender.marked tick) d.0.sender.sent t (subst (λ (x : SendingEnd). Has x.sender.sent t) (sym d.2) h) in
            subst (λ (x : Sent). Until most stretch start r.limit now x.transmission) c.2 (moves-until most stretch start r.limit before now p (moves e) c.0.transmission (ends-channels p n e d.0 d.1 c.0 c.1) (r.each.1 d.0 d.1 c.0 c.1)))),
      );
      count = (let c = r.count in let x = queued-marked tick p.outbox.senders in let y = sent-marked tick p.outbox.senders in let z : length (map (controlling.marked tick) p.outbox.control.sent) ≡ length p.outbox.control.sent = length-map p.outbox.control.sent (controlling.marked tick) in
          let k = no-more (still_to_do after) (still_to_do p.outbox) stretch (omega arith) in omega arith);
      near = soon;
      begun = omega arith;
      held = elim held [
        | inl early ↦ inl early
        | inr h ↦ elim h [
          | inl w ↦ elim (moves-holds most stretch start r.limit before now p (moves e) w.0.transmission (ends-controls p n e w.0 w.1) w.2) [
            | inl early ↦ inl early
            | inr k ↦ inr (inl (controlling.marked tick w.0, Has-map (controlling.marked tick) p.outbox.control.sent w.0 w.1, k))
          ]
          | inr w ↦ elim (moves-holds most stretch start r.limit before now p (moves e) w.2.transmission (ends-channels p n e w.0 w.1 w.2 w.3) w.4) [
            | inl early ↦ inl early
            | inr k ↦ inr (inr (marked_sender tick w.0, Has-map (marked_sender tick) p.outbox.senders w.0 w.1, sender.marked tick w.2, Has-map (sender.marked tick) w.0.sender.sent w.2 w.3, k))
          ]
        ]
      ];
    }

    -- where nothing is late, what is marked is as it was
    none-marked : Lasting p n → has_late p.outbox n ≡ false → Paced most stretch total start now p.outbox
    none-marked e f = (let k = marks e in record {
      limit = k.limit;
      each = (
        (λ t h. subst (λ (x : Transmission). Until most stretch start k.limit now x) (as-it-was t.transmission (late-controls t h)) (k.each.0 (controlling.marked tick t) (Has-map (controlling.marked tick) p.outbox.control.sent t h))),
        (λ s j t h. subst (λ (x : Transmission). Until most stretch start k.limit now x) (as-it-was t.transmission (late-channels s j t h)) (k.each.1 (marked_sender tick s) (Has-map (marked_sender tick) p.outbox.senders s j) (sender.marked tick t) (Has-map (sender.marked tick) s.sender.sent t h))),
      );
      count = r.count;
      near = soon;
      begun = omega arith;
      held = elim held [
        | inl early ↦ inl early
        | inr h ↦ elim h [
          | inl w ↦ elim (moves-holds most stretch start r.limit before now p (moves e) w.0.transmission (ends-controls p n e w.0 w.1) w.2) [
            | inl early ↦ inl early
            | inr m ↦ inr (inl (w.0, w.1, subst (λ (x : Transmission). Holds most stretch start r.limit now x) (as-it-was w.0.transmission (late-controls w.0 w.1)) m))
          ]
          | inr w ↦ elim (moves-holds most stretch start r.limit before now p (moves e) w.2.transmission (ends-channels p n e w.0 w.1 w.2 w.3) w.4) [
            | inl early ↦ inl early
            | inr m ↦ inr (inr (w.0, w.1, w.2, w.3, subst (λ (x : Transmission). Holds most stretch start r.limit now x) (as-it-was w.2.transmission (late-channels w.0 w.1 w.2 w.3)) m))
          ]
        ]
      ];
    })
      where
        as-it-was : (t : Transmission) → transmission.is_late n t ≡ false → transmission.marked tick t ≡ t
        as-it-was t early = ap (λ b. cond b (record t { timeout = transmission.next_time tick t; due = true }) t) early

        late-controls : (t : SentControl) → Has p.outbox.control.sent t → transmission.is_late n t.transmission ≡ false
        late-controls t h = none-of (controlling.is_late n) p.outbox.control.sent t (or-both (list_any (controlling.is_late n) p.outbox.control.sent) _ f).0 h

        late-channels : (s : SendingEnd) → Has p.outbox.senders s → (t : Sent) → Has s.sender.sent t → transmission.is_late n t.transmission ≡ false
        late-channels s k t h = none-of (sender.is_late n) s.sender.sent t (none-of (λ (x : SendingEnd). list_any (sender.is_late n) x.sender.sent) p.outbox.senders s (or-both (list_any (controlling.is_late n) p.outbox.control.sent) _ f).1 k) h

    quiet : (q : Peering) → q.state ≡ state.DisconnectLater → pinged q n ≡ q
    quiet q e = ap (λ s. cond (is_connected s && outbox.has_nothing_reliable q.outbox && leb q.ping_interval (elapsed_time n q.heard)) (record q { outbox = outbox.with_control q.outbox Rattle.enet_senders.specs.declared.control.Control.TheVariants.Ping }) q) e

    ended : (s : PeerState) → s ≡ state.DisconnectLater → (pinged (cut_off_in s p) n).state ≡ state.DisconnectLater → ⊥
    ended state.DisconnectLater e k = cc
    ended state.Free e k = cc
    ended state.Connecting e k = cc
    ended state.Answering e k = cc
    ended state.Connected e k = cc
    ended state.Disconnecting e k = cc
    ended state.AckDisconnect e k = cc
    ended state.Parting e k = cc
    ended state.Ended e k = cc

    goes : (ticked p n).state ≡ state.DisconnectLater → Ahead most gap total start now (ticked p n)
    goes = by-expiry (λ (e : Expiry). (pinged (after_timeouts_by e p n) n).state ≡ state.DisconnectLater → Ahead most gap total start now (pinged (after_timeouts_by e p n) n)) p n
        (λ k. absurd (ended p.state is k))
        (λ e f k. subst (λ (x : Peering). Ahead most gap total start now x) (sym (quiet (record p { outbox = after }) is)) (record { paced = marks e; within = a.within; patient = a.patient; fit = marked-fits tick (pace_at p) p.outbox a.fit }))
        (λ e f k. subst (λ (x : Peering). Ahead most gap total start now x) (sym (quiet p is)) (record { paced = none-marked e f; within = a.within; patient = a.patient; fit = a.fit }))

-- turn after turn
turns-later : (most gap total start : ℕ) (later : List ℕ) (now : ℕ) (p q : Peering) → start ≤ now → total + (5000 + 2 * most + gap) + (5000 + 2 * most + gap) < start + 2 ^ 32
    → ((short : Bool) → (moved short p (now % 2 ^ 32)).state ≡ state.DisconnectLater → Ahead most gap total start now (moved short p (now % 2 ^ 32))) → Turns state.DisconnectLater gap now p later q → last_of now later ≤ total + (5000 + 2 * most + gap)
turns-later most gap total start [] now p q begun close first turn =
    let a = first turn.short (stays-first state.DisconnectLater (now % 2 ^ 32) turn.steps (moved turn.short p (now % 2 ^ 32)) turn.last turn.stays) in
    let r = a.paced in let c = r.count in let d = r.near in omega arith
turns-later most gap total start (next ∷ later) now p q begun close first (r, turn, up, down, rest) =
    turns-later most gap total start later next r q (omega arith) close begins rest
  where
    begins : (short : Bool) → (moved short r (next % 2 ^ 32)).state ≡ state.DisconnectLater → Ahead most gap total start next (moved short r (next % 2 ^ 32))
    begins short h = tick-ahead most gap total start now next short r a.ahead up (omega arith) close soon (inr a.holds) h
      where
        a : Rested most gap total start now r
        a = turn-rested most gap total start now p r first turn (moved-later short r (next % 2 ^ 32) h)

        -- what is in transit isn't late yet
        one : (t : Transmission) → Holds most (5000 + 2 * most + gap) start a.ahead.paced.limit now t → next ≤ a.ahead.paced.limit + (5000 + 2 * most + gap)
        one t h = by h.1.1.grown
          where
            w : Paces h.1.0 most now t
            w = h.1.1

            by : ((t.due ≡ false) × (t.timeout + h.1.0 ≤ 5000 + w.last) × ((now ≤ w.last + t.timeout) ⊎ (now ≤ h.1.0 + most))) ⊎ ((t.due ≡ true) × (t.timeout + h.1.0 ≤ 5000 + now)) → next ≤ a.ahead.paced.limit + (5000 + 2 * most + gap)
            by (inr k) = absurd (let z : true ≡ false = sym k.0 ∙ h.0 in cc)
            by (inl k) = (let x = w.short in let y = h.2 in let z = h.1.2 in elim k.2 [ inl soon ↦ omega arith | inr early ↦ omega arith ])

        soon : next ≤ a.ahead.paced.limit + (5000 + 2 * most + gap)
        soon = by a.holds
          where
            by : Held most (5000 + 2 * most + gap) start a.ahead.paced.limit now r.outbox → next ≤ a.ahead.paced.limit + (5000 + 2 * most + gap)
            by (inl w) = one w.0.transmission w.2
            by (inr w) = one w.2.transmission w.4

-- from the moments before on, at which any sent commands went by then
fresh-later : (p : Peering) → ((R : Transmission → Type 0) → Each R p.outbox.control.sent p.outbox.senders) → IsWithin p.estimate 65535 → Fits p → DisconnectsLater p
fresh-later p none within fits since gap now moments q next later r run low high begun close turns =
    let end = turns-later most gap total since later next q r begun near begins turns in
    let sum : total + stretch ≡ next + (still_to_do q.outbox + 1) * stretch = omega arith in
    omega arith
  where
    most : ℕ
    most = p.patience.maximum

    stretch : ℕ
    stretch = 5000 + 2 * most + gap

    total : ℕ
    total = next + still_to_do q.outbox * stretch

    before : ℕ
    before = last_of now moments

    near : total + (5000 + 2 * most + gap) + (5000 + 2 * most + gap) < since + 2 ^ 32
    near = let sum : total + stretch + stretch ≡ next + (still_to_do q.outbox + 2) * stretch = omega arith in omega arith

    known : Known since gap most before q
    known = known-moments since gap most moments now now p q (inl ((none (Goes_any most now), within, refl), none Rests)) (omega arith) (omega arith) (omega (arith, near)) (omega (arith, near)) run

    ready : Fair (Lately since stretch most before) most q
    ready = as-lately since gap most before q (omega arith) known

    once : (t : Transmission) → Lately since stretch most before t → Until most stretch since next before t
    once t g = (g.0, g.1, (let x = g.1 in let y = x.after in let z = x.by in omega arith), g.2)

    ahead : Ahead most gap total since before q
    ahead = record {
      paced = record {
        limit = next;
        each = ((λ t h. once t.transmission (ready.0.0 t h)), (λ s k t h. once t.transmission (ready.0.1 s k t h)));
        count = omega arith;
        near = omega arith;
        begun = omega arith;
        held = inl (omega arith);
      };
      within = ready.1;
      patient = ready.2;
      fit = all-fits q 0 (fits-moments gap now moments p q fits (as-moments since gap now moments p q run));
    }

    begins : (short : Bool) → (moved short q (next % 2 ^ 32)).state ≡ state.DisconnectLater → Ahead most gap total since next (moved short q (next % 2 ^ 32))
    begins short h = tick-ahead most gap total since before next short q ahead low begun near (omega arith) (inl (omega arith)) h

pub joined-later : (start : ℕ) (terms : Terms) (limits : Limits) → terms.mtu ≤ 4096 → DisconnectsLater (joined start terms limits)
joined-later start terms limits low = fresh-later (joined start terms limits) (λ R. ((λ t k. absurd k), none-new R 0 terms.channels)) (record { round_trip = omega arith; variance = omega arith }) (joined-fits start terms limits low)

pub asking-later : (start offset : ℕ) (offer : Offer) (limits : Limits) → offer.mtu ≤ 4096 → DisconnectsLater (connecting start offset offer limits)
asking-later start offset offer limits low = fresh-later (connecting start offset offer limits) (λ R. ((λ t k. absurd k), none-new R 0 _)) (record { round_trip = omega arith; variance = omega arith }) (asking-fits start offset offer limits low)

pub answering-later : (start : ℕ) (offsets : Offsets) (offer : Offer) (server : Server) (limits : Limits) → DisconnectsLater (answering start offsets offer server limits)
answering-later start offsets offer server limits = fresh-later (answering start offsets offer server limits) (λ R. ((λ t k. absurd k), none-new R 0 _)) (record { round_trip = omega arith; variance = omega arith }) (answering-fits start offsets offer server limits)
