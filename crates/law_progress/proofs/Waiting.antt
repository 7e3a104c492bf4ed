-- Each command that waits for its acknowledgement goes on as it should, in every state of its peer.
use Rattle.std.proofs.Common.{◌≡◌, ℕ, zero, suc, ◌+◌, ◌-◌, ◌*◌, ◌/◌, ◌%◌, ◌^◌, ◌<◌, ◌≤◌, ◌&&◌, ◌||◌, ◌==◌, leb, max, min, Bool, true, false, cond, List, [], ◌∷◌, ◌++◌, length, map, take, drop, refl, sym, ap, subst, ◌∙◌, inl, inr, ◌⊎◌, arith, Option, Some, None, Result, Ok, Err, is_some, nat_lt}
use Rattle.std.specs.List.{position, slice_get, slice_set, list_any, range_with_len, remove}
use Rattle.std.specs.Int.{abs_diff}
use Rattle.enet_codec.specs.declared.packet.Packet as codec
use Rattle.enet_codec.specs.declared.command.Verify.{Verify}
use Rattle.enet_codec.specs.declared.command.Offer.{Offer}
use Rattle.enet_codec.specs.declared.stop.Stop.{Stop}
use Rattle.enet_codec.specs.declared.stop.Stop.TheVariants as stop
use Rattle.enet_codec.specs.Message.{Message, Body, acknowledge, connect, verify_connect, disconnect, ping, send_reliable, send_unreliable, send_fragment, send_unsequenced, send_unreliable_fragment, bandwidth_limit, throttle_configure}
use Rattle.enet_seq.specs.Numbering.{wire}
use Rattle.enet_rtt.specs.Clock.{elapsed_time, sample_of, meant_time}
use Rattle.enet_rtt.specs.Timing.{Estimate, IsWithin, after_sample, timeout, towards, spread}
use Rattle.enet_rtt.specs.Transmission as transmission
use Rattle.enet_rtt.specs.Expiry.{gives_up}
use Rattle.enet_rtt.specs.declared.transmission.Transmission.{Transmission}
use Rattle.enet_rtt.specs.declared.transmission.Tick.{Tick}
use Rattle.enet_rtt.specs.declared.expiry.Patience.{Patience}
use Rattle.enet_rtt.specs.declared.expiry.Expiry.{Expiry}
use Rattle.enet_connect.specs.declared.terms.Terms.{Terms}
use Rattle.enet_connect.specs.declared.server.Server.{Server}
use Rattle.enet_connect.specs.Verification.{confirmed}
use Rattle.enet_senders.specs.Controlling as controlling
use Rattle.enet_senders.specs.Controlling.{Commands}
use Rattle.enet_senders.specs.declared.control.Control.{Control}
use Rattle.enet_senders.specs.declared.control.Control.TheVariants as control
use Rattle.enet_senders.specs.declared.control.Numbered.{Numbered}
use Rattle.enet_senders.specs.declared.control.SentControl.{SentControl}
use Rattle.enet_fragment.specs.declared.data.DataCommand.{DataCommand}
use Rattle.enet_receiver.specs.Members.{Has}
use Rattle.enet_sender.specs.CommandChoice.{Packet}
use Rattle.enet_sender.specs.declared.sent.Sent.{Sent}
use Rattle.enet_sender.specs.Sender as sender
use Rattle.enet_sender.specs.declared.outgoing.Occasion.{Occasion}
use Rattle.enet_sender.specs.Sender.{Sender, Next, next, with_skipped}
use Rattle.enet_sender.specs.Due.{SendingEnd, new_end}
use Rattle.enet_inbox.specs.DataEffect.{DataEffect, arrival, passed_over}
use Rattle.enet_outbox.specs.declared.parts.Matched.{Matched}
use Rattle.enet_outbox.specs.declared.parts.Matched.TheVariants as matched
use Rattle.enet_outbox.specs.declared.parts.Pace.{Pace}
use Rattle.enet_outbox.specs.Outbox.{Outbox, matched_by, marked_sender, cleared_sender, after_acknowledgement}
use Rattle.enet_outbox.specs.Outbox as outbox
use Rattle.enet_outbox.specs.Emission.{filled}
use Rattle.enet_outbox.proofs.Filled.{by-filling}
use Rattle.enet_peer.specs.declared.parts.Ending.{Ending}
use Rattle.enet_peer.specs.declared.parts.Ending.TheVariants.{AskedHere, AskedThere, BadAnswer}
use Rattle.enet_peer.specs.declared.parts.PeerState.{PeerState}
use Rattle.enet_peer.specs.declared.parts.PeerState.TheVariants as state
use Rattle.enet_peer.specs.declared.parts.Limits.{Limits}
use Rattle.enet_peer.specs.declared.parts.Offsets.{Offsets}
use Rattle.enet_peer.specs.Peering.{Peering, joined, connecting, answering}
use Rattle.enet_peer.specs.Endings.{ended, freed, parting, settled, disconnecting, is_later, cut_off_in}
use Rattle.enet_peer.proofs.Obeying.{unless-holds, unwelcomed-holds}
use Rattle.enet_peer.specs.CommandEffect.{Outcome, obeyed, unless_refused, stopped, is_allowed, is_connect, by_body, by_answer, by_arrival, on_data, answered, answered_at, is_answered_in, is_connecting, on_acknowledge, on_match, acknowledged, with_answer, on_verify_in, welcomed, on_disconnect_in, on_last_disconnect, on_bandwidth, on_throttle}
use Rattle.enet_peer.specs.Calls.{Leave, AtOnce, TellsOnce, Asks, AsksLater, Refused, left, submitted, pace_of, gone_on_in, held_back, moved, ticked, pinged, is_pinged, after_timeouts_by, tick_of, next_event, event_after, packet_event, last_event}
use Rattle.enet_peer.specs.Refusing.{heeded, is_turned_away, told_full}
use Rattle.enet_peer.proofs.Refusals.{heeded-holds}
use Rattle.law_progress.specs.Attempts.{Hears, TellsAgain, PutsOut, Takes, after_take, last_of}
use Rattle.law_progress.specs.Waits.{Deed, Lives, Submits, Leaves, after_leave, after_deed, after_deeds, has_due, RoomyMoment, RoomyMoments, WaitAtMost, NoneWaitsLonger}
use Rattle.law_progress.proofs.Moving.{Lasting, by-expiry, by-moved}
use Rattle.law_progress.proofs.PutsOut.{found-passes, if-some}
use Rattle.law_progress.proofs.Timed.{Timed, timed-begun, timed-again, timed-marked, timed-stays, timed-elapsed}

pub or-both : (a b : Bool) → (a || b) ≡ false → (a ≡ false) × (b ≡ false)
or-both true b e = absurd (cc)
or-both false b e = (refl, e)

-- members of lists that changed in one place
pub Has-at : {X : Type 0} (xs : List X) (i : ℕ) (x : X) → slice_get xs i ≡ Some x → Has xs x
Has-at [] i x e = absurd (cc)
Has-at (y ∷ ys) zero x e = inl (cc)
Has-at (y ∷ ys) (suc i) x e = inr (Has-at ys i x e)

pub Has-set : {X : Type 0} (xs : List X) (i : ℕ) (x y : X) → Has (slice_set xs i x) y → (x ≡ y) ⊎ Has xs y
Has-set [] i x y h = absurd h
Has-set (z ∷ zs) zero x y (inl e) = inl e
Has-set (z ∷ zs) zero x y (inr h) = inr (inr h)
Has-set (z ∷ zs) (suc i) x y (inl e) = inr (inl e)
Has-set (z ∷ zs) (suc i) x y (inr h) = elim (Has-set zs i x y h) [ inl e ↦ inl e | inr k ↦ inr (inr k) ]

pub Has-pushed : {X : Type 0} (xs : List X) (x y : X) → Has (xs ++ x ∷ []) y → (x ≡ y) ⊎ Has xs y
Has-pushed [] x y (inl e) = inl e
Has-pushed [] x y (inr h) = absurd h
Has-pushed (z ∷ zs) x y (inl e) = inr (inl e)
Has-pushed (z ∷ zs) x y (inr h) = elim (Has-pushed zs x y h) [ inl e ↦ inl e | inr k ↦ inr (inr k) ]

pub Has-mapped : {X Y : Type 0} (f : X → Y) (xs : List X) (y : Y) → Has (map f xs) y → (x : X) × Has xs x × (f x ≡ y)
Has-mapped f [] y h = absurd h
Has-mapped f (x ∷ xs) y (inl e) = (x, inl refl, e)
Has-mapped f (x ∷ xs) y (inr h) = let k = Has-mapped f xs y h in (k.0, inr k.1, k.2)

Has-taken : {X : Type 0} (n : ℕ) (xs : List X) (x : X) → Has (take n xs) x → Has xs x
Has-taken zero xs x h = absurd h
Has-taken (suc n) [] x h = absurd h
Has-taken (suc n) (y ∷ ys) x (inl e) = inl e
Has-taken (suc n) (y ∷ ys) x (inr h) = inr (Has-taken n ys x h)

Has-dropped : {X : Type 0} (n : ℕ) (xs : List X) (x : X) → Has (drop n xs) x → Has xs x
Has-dropped zero xs x h = h
Has-dropped (suc n) [] x h = absurd h
Has-dropped (suc n) (y ∷ ys) x h = inr (Has-dropped n ys x h)

Has-either : {X : Type 0} (xs ys : List X) (x : X) → Has (xs ++ ys) x → Has xs x ⊎ Has ys x
Has-either [] ys x h = inr h
Has-either (z ∷ zs) ys x (inl e) = inl (inl e)
Has-either (z ∷ zs) ys x (inr h) = elim (Has-either zs ys x h) [ inl k ↦ inl (inr k) | inr k ↦ inr k ]

pub Has-removed : {X : Type 0} (xs : List X) (i : ℕ) (x : X) → Has (remove xs i) x → Has xs x
Has-removed xs i x h = elim (Has-either (take i xs) (drop (suc i) xs) x h) [ inl k ↦ Has-taken i xs x k | inr k ↦ Has-dropped (suc i) xs x k ]

-- something holds of each command that was sent and isn't acknowledged
abbrev pub Each : (Transmission → Type 0) → List SentControl → List SendingEnd → Type 0
Each R controls senders = ((t : SentControl) → Has controls t → R t.transmission) × ((s : SendingEnd) → Has senders s → (t : Sent) → Has s.sender.sent t → R t.transmission)

none-cleared : (R : Transmission → Type 0) (xs : List SendingEnd) → (s : SendingEnd) → Has (map cleared_sender xs) s → (t : Sent) → Has s.sender.sent t → R t.transmission
none-cleared R xs s h t k = let c = Has-mapped cleared_sender xs s h in absurd (subst (λ (x : SendingEnd). Has x.sender.sent t) (sym c.2) k)

pub none-new : (R : Transmission → Type 0) (from n : ℕ) → (s : SendingEnd) → Has (map new_end (range_with_len from n)) s → (t : Sent) → Has s.sender.sent t → R t.transmission
none-new R from n s h t k = let c = Has-mapped new_end (range_with_len from n) s h in absurd (subst (λ (x : SendingEnd). Has x.sender.sent t) (sym c.2) k)

-- what a datagram that is filled keeps of it, where it holds of what goes first and of what goes again
pub record Sends (R : Transmission → Type 0) (now wait : ℕ) : Type 0 where
  pub first : R (transmission.begun now wait)
  pub again : (t : Transmission) → R t → t.due ≡ true → R (transmission.again now t)

pub each-next : (R : Transmission → Type 0) (now wait : ℕ) (c : Commands) (n : controlling.Next) → Sends R now wait → controlling.next now wait c ≡ Some n → ((t : SentControl) → Has c.sent t → R t.transmission)
    → (t : SentControl) → Has n.commands.sent t → R t.transmission
each-next R now wait c n g e all = go (position (λ (p : SentControl). p.transmission.due) c.sent) refl e
  where
    some-is : {X : Type 0} {u v : X} → Some u ≡ Some v → u ≡ v
    some-is {X} {u} {v} e = cc

    after : (u : controlling.Next) → Some u ≡ Some n → ((t : SentControl) → Has u.commands.sent t → R t.transmission) → (t : SentControl) → Has n.commands.sent t → R t.transmission
    after u k h = subst (λ (x : controlling.Next). (t : SentControl) → Has x.commands.sent t → R t.transmission) (some-is k) h

    from_queue : (q : List Numbered) → controlling.next_queued now wait c q ≡ Some n → (t : SentControl) → Has n.commands.sent t → R t.transmission
    from_queue [] k = absurd (cc)
    from_queue (x ∷ rest) k = by (controlling.is_in_span c.sent x.number) k
      where
        u : controlling.Next
        u = record { command = x; commands = record c { queued = rest; sent = cond (controlling.is_reliable x.control) (c.sent ++ controlling.begun now wait x ∷ []) c.sent } }

        pushed : (b : Bool) (t : SentControl) → Has (cond b (c.sent ++ controlling.begun now wait x ∷ []) c.sent) t → R t.transmission
        pushed false t h = all t h
        pushed true t h = elim (Has-pushed c.sent (controlling.begun now wait x) t h) [ inl is ↦ subst (λ (y : SentControl). R y.transmission) is g.first | inr k ↦ all t k ]

        by : (b : Bool) → cond b (Some u) None ≡ Some n → (t : SentControl) → Has n.commands.sent t → R t.transmission
        by true k = after u k (pushed (controlling.is_reliable x.control))
        by false k = absurd (cc)

    from_sent : (i : ℕ) → position (λ (p : SentControl). p.transmission.due) c.sent ≡ Some i → (p : Option SentControl) → slice_get c.sent i ≡ p → controlling.next_resent now c i p ≡ Some n → (t : SentControl) → Has n.commands.sent t → R t.transmission
    from_sent i w None there k = absurd (cc)
    from_sent i w (Some p) there k =
        after (record { command = p.command; commands = record c { sent = slice_set c.sent i (controlling.again now p) } }) k (λ t h. elim (Has-set c.sent i (controlling.again now p) t h) [
          | inl is ↦ subst (λ (y : SentControl). R y.transmission) is (g.again p.transmission (all p (Has-at c.sent i p there)) (found-passes (λ (q : SentControl). q.transmission.due) c.sent i p w there))
          | inr old ↦ all t old
        ])

    go : (w : Option ℕ) → position (λ (p : SentControl). p.transmission.due) c.sent ≡ w → controlling.next_of now wait c w ≡ Some n → (t : SentControl) → Has n.commands.sent t → R t.transmission
    go None w k = from_queue c.queued k
    go (Some i) w k = from_sent i w (slice_get c.sent i) refl k

pub each-due : (R : Transmission → Type 0) (o : Occasion) (s : Sender) (n : Next) → Sends R o.now o.timeout → next wire o s ≡ Some n → ((t : Sent) → Has s.sent t → R t.transmission) → (t : Sent) → Has n.sender.sent t → R t.transmission
each-due R o s n g e all = go (position (λ (p : Sent). p.transmission.due) s.sent) refl e
  where
    some-is : {X : Type 0} {u v : X} → Some u ≡ Some v → u ≡ v
    some-is {X} {u} {v} e = cc

    after : (u : Next) → Some u ≡ Some n → ((t : Sent) → Has u.sender.sent t → R t.transmission) → (t : Sent) → Has n.sender.sent t → R t.transmission
    after u k h = subst (λ (x : Next). (t : Sent) → Has x.sender.sent t → R t.transmission) (some-is k) h

    from_queue : (q : List DataCommand) → sender.next_queued wire o s q ≡ Some n → (t : Sent) → Has n.sender.sent t → R t.transmission
    from_queue [] k = absurd (cc)
    from_queue (x ∷ rest) k = by (sender.may_go wire s.sent o x) k
      where
        pushed : (b : Bool) (t : Sent) → Has (cond b (s.sent ++ sender.begun o.now o.timeout x ∷ []) s.sent) t → R t.transmission
        pushed false t h = all t h
        pushed true t h = elim (Has-pushed s.sent (sender.begun o.now o.timeout x) t h) [ inl is ↦ subst (λ (y : Sent). R y.transmission) is g.first | inr k ↦ all t k ]

        by : (b : Bool) → cond b (Some (sender.first_sent o.now o.timeout s x rest)) None ≡ Some n → (t : Sent) → Has n.sender.sent t → R t.transmission
        by true k = after (sender.first_sent o.now o.timeout s x rest) k (pushed x.reliable)
        by false k = absurd (cc)

    from_sent : (i : ℕ) → position (λ (p : Sent). p.transmission.due) s.sent ≡ Some i → (p : Option Sent) → slice_get s.sent i ≡ p → sender.next_resent o s i p ≡ Some n → (t : Sent) → Has n.sender.sent t → R t.transmission
    from_sent i w None there k = absurd (cc)
    from_sent i w (Some p) there k =
        after (sender.resent o.now s i p) (ap Some (if-some (sender.has_room o p.command) (sender.resent o.now s i p) n k)) (λ t h. elim (Has-set s.sent i (sender.again o.now p) t h) [
          | inl is ↦ subst (λ (y : Sent). R y.transmission) is (g.again p.transmission (all p (Has-at s.sent i p there)) (found-passes (λ (q : Sent). q.transmission.due) s.sent i p w there))
          | inr old ↦ all t old
        ])

    go : (w : Option ℕ) → position (λ (p : Sent). p.transmission.due) s.sent ≡ w → sender.next_of wire o s w ≡ Some n → (t : Sent) → Has n.sender.sent t → R t.transmission
    go None w k = from_queue s.queued k
    go (Some i) w k = from_sent i w (slice_get s.sent i) refl k

pub each-set : (R : Transmission → Type 0) (xs : List SendingEnd) (k : ℕ) (s : SendingEnd) (new : Sender) → slice_get xs k ≡ Some s → ((t : Sent) → Has new.sent t → R t.transmission) → ((x : SendingEnd) → Has xs x → (t : Sent) → Has x.sender.sent t → R t.transmission)
    → (x : SendingEnd) → Has (slice_set xs k (record s { sender = new })) x → (t : Sent) → Has x.sender.sent t → R t.transmission
each-set R xs k s new there own others x h t m = elim (Has-set xs k (record s { sender = new }) x h) [ inl is ↦ own t (subst (λ (y : SendingEnd). Has y.sender.sent t) (sym is) m) | inr old ↦ others x old t m ]

pub each-filled : (R : Transmission → Type 0) (pace : Pace) (o : Outbox) → Sends R pace.now pace.timeout → Each R o.control.sent o.senders → Each R (filled pace o).outbox.control.sent (filled pace o).outbox.senders
each-filled R pace o g all = by-filling pace o (λ f. Each R f.outbox.control.sent f.outbox.senders) (record {
  closes = λ f h. h;
  acknowledges = λ f a rest e h. h;
  controls = λ f n e h. (each-next R pace.now pace.timeout f.outbox.control n g e h.0, h.1);
  puts_unsequenced = λ f u rest t e h. h;
  drops_unsequenced = λ f u rest t e h. h;
  puts_data = λ f k s n t there due h. (h.0, each-set R f.outbox.senders k s n.sender there (each-due R _ s.sender n g due (h.1 s (Has-at f.outbox.senders k s there))) h.1);
  drops_data = λ f k s n t there due kind h. (h.0, each-set R f.outbox.senders k s (with_skipped n.sender) there (each-due R _ s.sender n g due (h.1 s (Has-at f.outbox.senders k s there))) h.1);
  keeps_room = λ f i x there wants h. h;
  gives_room = λ f i x n there due h. h;
}) all

-- what a peer keeps of it, with an estimate that stays within 16 bits, and the patience that was set
abbrev pub Fair : (Transmission → Type 0) → ℕ → Peering → Type 0
Fair R most p = Each R p.outbox.control.sent p.outbox.senders × IsWithin p.estimate 65535 × (p.patience.maximum ≡ most)

-- an end drops all
fair-ended : (R : Transmission → Type 0) (most : ℕ) (p : Peering) (why : Ending) (info : ℕ) → Fair R most p → Fair R most (ended p why info)
fair-ended R most p why info h = (((λ t k. absurd k), none-cleared R p.outbox.senders), h.1, h.2)

fair-freed : (R : Transmission → Type 0) (most : ℕ) (p : Peering) → Fair R most p → Fair R most (freed p)
fair-freed R most p h = (((λ t k. absurd k), none-cleared R p.outbox.senders), h.1, h.2)

fair-parting : (R : Transmission → Type 0) (most : ℕ) (p : Peering) (info : ℕ) → Fair R most p → Fair R most (parting p info)
fair-parting R most p info h = (((λ t k. absurd k), none-cleared R p.outbox.senders), h.1, h.2)

pub fair-disconnecting : (R : Transmission → Type 0) (most : ℕ) (p : Peering) (info : ℕ) → Fair R most p → Fair R most (disconnecting p info)
fair-disconnecting R most p info h = (((λ t k. absurd k), none-cleared R p.outbox.senders), h.1, h.2)

pub fair-settled : (R : Transmission → Type 0) (most : ℕ) (p : Peering) → Fair R most p → Fair R most (settled p)
fair-settled R most p h = by (is_later p.state && outbox.is_done p.outbox)
  where
    by : (b : Bool) → Fair R most (cond b (disconnecting p p.info) p)
    by true = fair-disconnecting R most p p.info h
    by false = h

-- a sample
difference : (a b m : ℕ) → a ≤ m → b ≤ m → abs_diff a b ≤ m
difference a b m h k = omega arith

towards-within : (a b m : ℕ) → a ≤ m → b ≤ m → towards a b ≤ m
towards-within a b m h k = elim (leb a b) as (λ x. leb a b ≡ x → cond x (a + (b - a) / 8) (a - (a - b) / 8) ≤ m) [ true ↦ λ e. omega arith | false ↦ λ e. omega arith ] refl

spread-within : (a v b : ℕ) → a ≤ 65535 → v ≤ 65535 → b ≤ 65535 → spread a v b ≤ 65535
spread-within a v b h k l = let d = difference b a 65535 l h in below (abs_diff b a) d
  where
    below : (d : ℕ) → d ≤ 65535 → (v - v / 4) + d / 4 ≤ 65535
    below d e = omega arith

within-sample : (e : Estimate) (r : ℕ) → r ≤ 65535 → IsWithin e 65535 → IsWithin (after_sample e r) 65535
within-sample e r low w = by e.sampled
  where
    by : (b : Bool) → IsWithin (record { round_trip = cond b (towards e.round_trip r) r; variance = cond b (spread e.round_trip e.variance r) ((r + 1) / 2); sampled = true }) 65535
    by true = record { round_trip = towards-within e.round_trip r 65535 w.round_trip low; variance = spread-within e.round_trip e.variance r w.round_trip w.variance low }
    by false = record { round_trip = low; variance = omega arith }

sample-low : (now time : ℕ) → sample_of now time ≤ 65535
sample-low now time = least ((now + 2 ^ 16 - time) % 2 ^ 16) (omega arith)
  where
    least : (k : ℕ) → k ≤ 65535 → max 1 k ≤ 65535
    least k h = grind arith

-- an acknowledgement
fair-gone : (R : Transmission → Type 0) (most : ℕ) (p : Peering) (channel number : ℕ) → Fair R most p → Fair R most (record p { outbox = after_acknowledgement p.outbox channel number })
fair-gone R most p channel number h = by (channel == 0xFF)
  where
    control-gone : (o : Option ℕ) (t : SentControl) → Has (controlling.without_place p.outbox.control.sent o) t → R t.transmission
    control-gone None t k = h.0.0 t k
    control-gone (Some i) t k = h.0.0 t (Has-removed p.outbox.control.sent i t k)

    on : (x : Option SendingEnd) → slice_get p.outbox.senders channel ≡ x → Fair R most (record p { outbox = outbox.acknowledged_on p.outbox channel number x })
    on None e = h
    on (Some s) e = ((h.0.0, each-set R p.outbox.senders channel s (sender.after_acknowledgement s.sender number) e (gone (sender.position_of number s.sender.sent)) h.0.1), h.1, h.2)
      where
        gone : (o : Option ℕ) (t : Sent) → Has (sender.without_place s.sender.sent o) t → R t.transmission
        gone None t k = h.0.1 s (Has-at p.outbox.senders channel s e) t k
        gone (Some i) t k = h.0.1 s (Has-at p.outbox.senders channel s e) t (Has-removed s.sender.sent i t k)

    by : (b : Bool) → Fair R most (record p { outbox = cond b (record p.outbox { control = controlling.after_acknowledgement p.outbox.control number }) (outbox.acknowledged_on p.outbox channel number (slice_get p.outbox.senders channel)) })
    by true = ((control-gone (controlling.position_of number p.outbox.control.sent), h.0.1), h.1, h.2)
    by false = on (slice_get p.outbox.senders channel) refl

fair-answer : (R : Transmission → Type 0) (most : ℕ) (p : Peering) (s : PeerState) (what : Control) → Fair R most p → Fair R most (with_answer s what p)
fair-answer R most p state.Answering (control.VerifyConnect verify) h = h
fair-answer R most p state.Disconnecting (control.Disconnect info) h = fair-ended R most p AskedHere 0 h
fair-answer R most p s what h = h

fair-acknowledge : (R : Transmission → Type 0) (most : ℕ) (p : Peering) (now channel number told : ℕ) → Fair R most p → Fair R most (on_acknowledge p now channel number told)
fair-acknowledge R most p now channel number told h = by-state (is_connecting p.state)
  where
    time : ℕ
    time = meant_time told (p.offset % 2 ^ 16)

    q : Peering
    q = acknowledged p now channel number time

    a : Fair R most q
    a = let k = fair-gone R most p channel number h in (k.0, within-sample p.estimate (sample_of now time) (sample-low now time) k.1, k.2)

    by : (x : Matched) → Fair R most (on_match x p q)
    by matched.Nothing = h
    by matched.Data = fair-settled R most q a
    by (matched.Control what) = fair-settled R most (with_answer p.state what q) (fair-answer R most q p.state what a)

    by-state : (b : Bool) → Fair R most (cond b p (on_match (matched_by p.outbox channel number time) p q))
    by-state true = h
    by-state false = by (matched_by p.outbox channel number time)

fair-verify : (R : Transmission → Type 0) (most : ℕ) (p : Peering) (v : Verify) (s : PeerState) → Fair R most p → Fair R most (on_verify_in s p v)
fair-verify R most p v state.Connecting h = by (confirmed p.offer v)
  where
    by : (o : Option Terms) → Fair R most (welcomed p v o)
    by None = unwelcomed-holds (Fair R most) p v h (fair-ended R most p BadAnswer 0 h)
    by (Some terms) = (((λ t k. absurd k), (λ s k. none-cleared R p.outbox.senders s (Has-taken terms.channels (map cleared_sender p.outbox.senders) s k))), h.1, h.2)
fair-verify R most p v s h = h

fair-last : (R : Transmission → Type 0) (most : ℕ) (p : Peering) (b : Bool) (info : ℕ) → Fair R most p → Fair R most (on_last_disconnect p b info)
fair-last R most p true info h = (((λ t k. absurd k), none-cleared R p.outbox.senders), h.1, h.2)
fair-last R most p false info h = fair-ended R most p AskedThere info h

fair-disconnect : (R : Transmission → Type 0) (most : ℕ) (p : Peering) (s : PeerState) (b : Bool) (info : ℕ) → Fair R most p → Fair R most (on_disconnect_in s p b info)
fair-disconnect R most p state.Connected b info h = fair-last R most p b info h
fair-disconnect R most p state.DisconnectLater b info h = fair-last R most p b info h
fair-disconnect R most p state.Connecting b info h = fair-ended R most p AskedThere info h
fair-disconnect R most p state.Disconnecting b info h = fair-ended R most p AskedThere info h
fair-disconnect R most p state.Answering b info h = fair-freed R most p h
fair-disconnect R most p s b info h = h

fair-answered : (R : Transmission → Type 0) (most : ℕ) (p : Peering) (m : Message) (sent : Option ℕ) (may : Bool) → Fair R most p → Fair R most (answered p m sent may).after
fair-answered R most p m sent may h = by (m.head.acknowledge && may && is_answered_in p.state m.body) sent
  where
    by : (b : Bool) (o : Option ℕ) → Fair R most (cond b (answered_at p m.head o) (record { stop = None; after = p })).after
    by false o = h
    by true None = h
    by true (Some time) = h

fair-result : (R : Transmission → Type 0) (most : ℕ) (p : Peering) (m : Message) (sent : Option ℕ) (r : Result Bool Stop) → Fair R most p → Fair R most (by_answer p m sent r).after
fair-result R most p m sent (Err why) h = h
fair-result R most p m sent (Ok may) h = fair-answered R most p m sent may h

fair-data : (R : Transmission → Type 0) (most : ℕ) (p : Peering) (m : Message) (sent : Option ℕ) → Fair R most p → Fair R most (on_data p m sent).after
fair-data R most p m sent h = by (is_later p.state)
  where
    a : DataEffect
    a = arrival p.inbox m

    by : (b : Bool) → Fair R most (cond b (by_answer p m sent (passed_over p.inbox m)) (by_arrival p m sent a)).after
    by true = fair-result R most p m sent (passed_over p.inbox m) h
    by false = fair-result R most (record p { inbox = a.after }) m sent a.answer h

pub fair-obeyed : (R : Transmission → Type 0) (most : ℕ) (p : Peering) (now : ℕ) (sent : Option ℕ) (m : Message) → Fair R most p → Fair R most (obeyed p now sent m).after
fair-obeyed R most p now sent m h = by (is_connect m.body) (is_allowed p.state m.body)
  where
    body : (b : Body) → Fair R most (by_body p now sent m b).after
    body (acknowledge number time) = fair-answered R most (on_acknowledge p now m.head.channel number time) m sent true (fair-acknowledge R most p now m.head.channel number time h)
    body (connect offer) = h
    body (verify_connect v) = fair-answered R most (on_verify_in p.state p v) m sent true (fair-verify R most p v p.state h)
    body (disconnect info) = fair-answered R most (on_disconnect_in p.state p (m.head.acknowledge && is_some sent) info) m sent true (fair-disconnect R most p p.state (m.head.acknowledge && is_some sent) info h)
    body ping = fair-answered R most p m sent true h
    body (bandwidth_limit incoming outgoing) = fair-answered R most (on_bandwidth p incoming) m sent true h
    body (throttle_configure interval acceleration deceleration) = fair-answered R most (on_throttle p interval acceleration deceleration) m sent true h
    body (send_reliable payload) = fair-data R most p m sent h
    body (send_unreliable number payload) = fair-data R most p m sent h
    body (send_fragment fragment payload) = fair-data R most p m sent h
    body (send_unsequenced group payload) = fair-data R most p m sent h
    body (send_unreliable_fragment fragment payload) = fair-data R most p m sent h

    by : (a b : Bool) → Fair R most (cond a (stopped p stop.BadCommand) (cond b (unless_refused p m (by_body p now sent m m.body)) (stopped p stop.NotConnected))).after
    by true b = h
    by false true = unless-holds (Fair R most) p m (by_body p now sent m m.body) h (body m.body)
    by false false = h

-- a host that is full
fair-told : (R : Transmission → Type 0) (most : ℕ) (p : Peering) → Fair R most p → Fair R most (told_full p)
fair-told R most p h = ((λ t k. absurd k, h.0.1), h.1, h.2)

pub fair-heeded : (R : Transmission → Type 0) (most : ℕ) (full : Bool) (p : Peering) (now : ℕ) (sent : Option ℕ) (m : Message) → Fair R most p → Fair R most (heeded full p now sent m).after
fair-heeded R most full p now sent m h =
    heeded-holds (λ (o : Outcome). Fair R most o.after) full p now sent m (fair-obeyed R most p now sent m h) (λ answers. fair-told R most p h)

pub fair-again : (R : Transmission → Type 0) (most : ℕ) (b c : Bool) (p : Peering) → Fair R most p → Fair R most (cond b (cond c p (told_full p)) p)
fair-again R most false c p h = h
fair-again R most true true p h = h
fair-again R most true false p h = fair-told R most p h

-- what else happens at a peer
pub fair-takes : (R : Transmission → Type 0) (most : ℕ) (p : Peering) → Fair R most p → Fair R most (after_take p (next_event p))
fair-takes R most p h = by p.greeting
  where
    last : (s : PeerState) → Fair R most (after_take p (last_event s p))
    last state.Ended = h
    last s = h

    packets : (untaken : List codec.Packet) → Fair R most (after_take p (packet_event p untaken))
    packets [] = last p.state
    packets (q ∷ rest) = h

    by : (greeting : Option ℕ) → Fair R most (after_take p (event_after p greeting))
    by (Some info) = h
    by None = packets p.inbox.untaken

pub fair-went : (R : Transmission → Type 0) (most : ℕ) (p : Peering) (s : PeerState) → Fair R most p → Fair R most (gone_on_in s p)
fair-went R most p state.AckDisconnect h = fair-ended R most p AskedThere p.info h
fair-went R most p state.Parting h = by (nat_lt 0 (length p.outbox.control.queued))
  where
    by : (b : Bool) → Fair R most (cond b p (freed p))
    by true = h
    by false = fair-freed R most p h
fair-went R most p s h = fair-settled R most p h

pub fair-submitted : (R : Transmission → Type 0) (most : ℕ) (p : Peering) (channel : ℕ) (q : Packet) → Fair R most p → Fair R most (submitted p channel q)
fair-submitted R most p channel q h = by (outbox.is_unsequenced p.terms.mtu q)
  where
    on : (x : Option SendingEnd) → slice_get p.outbox.senders channel ≡ x → Fair R most (record p { outbox = outbox.with_sequenced p.outbox p.terms.mtu channel q x })
    on None e = h
    on (Some s) e = ((h.0.0, each-set R p.outbox.senders channel s (sender.submitted wire p.terms.mtu s.sender q) e (h.0.1 s (Has-at p.outbox.senders channel s e)) h.0.1), h.1, h.2)

    by : (b : Bool) → Fair R most (record p { outbox = cond b (outbox.with_unsequenced p.outbox channel q) (outbox.with_sequenced p.outbox p.terms.mtu channel q (slice_get p.outbox.senders channel)) })
    by true = h
    by false = on (slice_get p.outbox.senders channel) refl

pub fair-left : (R : Transmission → Type 0) (most : ℕ) (p : Peering) (leave : Leave) (info : ℕ) → Fair R most p → Fair R most (after_leave p (left leave p info))
fair-left R most p AtOnce info h = fair-freed R most p h
fair-left R most p TellsOnce info h = fair-parting R most p info h
fair-left R most p Asks info h = fair-disconnecting R most p info h
fair-left R most p AsksLater info h = fair-settled R most (record p { state = state.DisconnectLater; info = info }) h
fair-left R most p Refused info h = h

-- by now each goes on as it should
abbrev pub Goes : ℕ → ℕ → Transmission → Type 0
Goes most now t = (first : ℕ) × Timed first 5000 most now t

sends-on : (most now wait : ℕ) → wait ≤ 5000 → Sends (Goes most now) (now % 2 ^ 32) wait
sends-on most now wait low = record {
  first = (now, timed-begun now 5000 wait most low);
  again = λ t g due. (g.0, timed-again g.0 5000 most now t g.1 due);
}

pub timeout-low : (e : Estimate) → timeout e ≤ 5000
timeout-low e = least (e.round_trip + 4 * e.variance)
  where
    least : (n : ℕ) → min n 5000 ≤ 5000
    least n = grind arith

-- what is so of what goes first and of what goes again is so of all that is sent, whatever happens at a peer
pub fair-deed : (R : Transmission → Type 0) (most now : ℕ) (p : Peering) (deed : Deed) → ((wait : ℕ) → wait ≤ 5000 → Sends R (now % 2 ^ 32) wait) → Fair R most p → Fair R most (after_deed (now % 2 ^ 32) p deed)
fair-deed R most now p (Lives (Hears full sent m)) sends h = fair-heeded R most full p (now % 2 ^ 32) sent m h
fair-deed R most now p (Lives TellsAgain) sends h = fair-again R most (is_turned_away p) (nat_lt 0 (length p.outbox.control.queued)) p h
fair-deed R most now p (Lives PutsOut) sends h =
    let f = filled (pace_of p (now % 2 ^ 32)) p.outbox in
    let all = each-filled R (pace_of p (now % 2 ^ 32)) p.outbox (sends (timeout p.estimate) (timeout-low p.estimate)) h.0 in
    fair-went R most (record p { outbox = f.outbox }) p.state (all, h.1, h.2)
fair-deed R most now p (Lives Takes) sends h = fair-takes R most p h
fair-deed R most now p (Submits channel packet) sends h = fair-submitted R most p channel packet h
fair-deed R most now p (Leaves leave info) sends h = fair-left R most p leave info h

pub fair-deeds : (R : Transmission → Type 0) (most now : ℕ) (p : Peering) (deeds : List Deed) → ((wait : ℕ) → wait ≤ 5000 → Sends R (now % 2 ^ 32) wait) → Fair R most p → Fair R most (after_deeds (now % 2 ^ 32) p deeds)
fair-deeds R most now p [] sends h = h
fair-deeds R most now p (deed ∷ deeds) sends h = fair-deeds R most now (after_deed (now % 2 ^ 32) p deed) deeds sends (fair-deed R most now p deed sends h)

-- a moment comes, nothing being due to go again
abbrev pub Rests : Transmission → Type 0
Rests t = t.due ≡ false

pub none-of : {X : Type 0} (f : X → Bool) (xs : List X) (x : X) → list_any f xs ≡ false → Has xs x → f x ≡ false
none-of f [] x e h = absurd h
none-of f (y ∷ ys) x e (inl is) = ap f (sym is) ∙ (or-both (f y) (list_any f ys) e).0
none-of f (y ∷ ys) x e (inr h) = none-of f ys x (or-both (f y) (list_any f ys) e).1 h

rest-of : (o : Outbox) → has_due o ≡ false → Each Rests o.control.sent o.senders
rest-of o e = let both = or-both (list_any (λ (t : SentControl). t.transmission.due) o.control.sent) _ e in (
  (λ t h. none-of (λ (x : SentControl). x.transmission.due) o.control.sent t both.0 h),
  (λ s k t h. none-of (λ (x : Sent). x.transmission.due) s.sender.sent t (none-of (λ (x : SendingEnd). list_any (λ (y : Sent). y.transmission.due) x.sender.sent) o.senders s both.1 k) h),
)

-- no end by any of them
pub patient : (most n heard : ℕ) (pt : Patience) (t : Transmission) → pt.maximum ≡ most → transmission.ends n pt heard t ≡ false → transmission.is_late n t ≡ true → leb most (elapsed_time n t.first) ≡ false
patient most n heard pt t same e late =
    ap (λ m. leb m (elapsed_time n t.first)) (sym same) ∙ (or-both (leb pt.maximum (elapsed_time n t.first)) _ (ap (λ b. b && gives_up pt n heard t) (sym late) ∙ e)).0

-- what was so of what is sent, and what is so of it then, where no command has ended the peer
pub record Passes (B N : Transmission → Type 0) (p : Peering) (n : ℕ) : Type 0 where
  pub marks : (t : Transmission) → B t → transmission.ends n p.patience p.heard t ≡ false → N (transmission.marked (tick_of p n) t)
  pub stays : (t : Transmission) → B t → transmission.ends n p.patience p.heard t ≡ false → N t  -- late or not
  pub tries : (t : Transmission) → N t → t.due ≡ true → N (transmission.again n t)

pub tick-passes : (B N : Transmission → Type 0) (most : ℕ) (short : Bool) (p : Peering) (n : ℕ) → Passes B N p n → Fair B most p → Fair N most (moved short p n)
tick-passes B N most short p n g h = by-moved (λ (x : Peering). Fair N most x) short p n tick held
  where
    tick_is : Tick
    tick_is = tick_of p n

    ends-controls : Lasting p n → (t : SentControl) → Has p.outbox.control.sent t → transmission.ends n p.patience p.heard t.transmission ≡ false
    ends-controls e t k = none-of (controlling.ends n p.patience p.heard) p.outbox.control.sent t (or-both (list_any (controlling.ends n p.patience p.heard) p.outbox.control.sent) _ e.0).0 k

    ends-channels : Lasting p n → (s : SendingEnd) → Has p.outbox.senders s → (t : Sent) → Has s.sender.sent t → transmission.ends n p.patience p.heard t.transmission ≡ false
    ends-channels e s k t j =
        none-of (sender.ends n p.patience p.heard) s.sender.sent t
        (none-of (λ (x : SendingEnd). list_any (sender.ends n p.patience p.heard) x.sender.sent) p.outbox.senders s (or-both (list_any (controlling.ends n p.patience p.heard) p.outbox.control.sent) _ e.0).1 k) j

    marks : Lasting p n → Fair N most (record p { outbox = outbox.marked p.outbox tick_is })
    marks e = (
      (
        (λ t k. (let c = Has-mapped (controlling.marked tick_is) p.outbox.control.sent t k in
            subst (λ (x : SentControl). N x.transmission) c.2 (g.marks c.0.transmission (h.0.0 c.0 c.1) (ends-controls e c.0 c.1)))),
        (λ s k t j. (let d = Has-mapped (marked_sender tick_is) p.outbox.senders s k in
            let c = Has-mapped (sender.marked tick_is) d.0.sender.sent t (subst (λ (x : SendingEnd). Has x.sender.sent t) (sym d.2) j) in
            subst (λ (x : Sent). N x.transmission) c.2 (g.marks c.0.transmission (h.0.1 d.0 d.1 c.0 c.1) (ends-channels e d.0 d.1 c.0 c.1)))),
      ),
      h.1,
      h.2,
    )

    -- nothing is marked: all stays as it was
    still : Lasting p n → Fair N most p
    still e = (((λ t k. g.stays t.transmission (h.0.0 t k) (ends-controls e t k)), (λ s k t j. g.stays t.transmission (h.0.1 s k t j) (ends-channels e s k t j))), h.1, h.2)

    -- an answer that is late counts as tried
    one-held : (t : SentControl) (b : Bool) → transmission.is_late n t.transmission ≡ b → B t.transmission → transmission.ends n p.patience p.heard t.transmission ≡ false
        → N (cond b (record t { transmission = transmission.again n (transmission.marked tick_is t.transmission) }) t).transmission
    one-held t false late b e = g.stays t.transmission b e
    one-held t true late b e = g.tries (transmission.marked tick_is t.transmission) (g.marks t.transmission b e)
        (ap (λ b. (cond b (record t.transmission { timeout = transmission.next_time tick_is t.transmission; due = true }) t.transmission).due) late)

    held : p.state ≡ state.Answering → Lasting p n → Fair N most (held_back p n)
    held answers e = (
      (
        (λ t k. (let c = Has-mapped (controlling.held_back tick_is) p.outbox.control.sent t k in
            subst (λ (x : SentControl). N x.transmission) c.2 (one-held c.0 (transmission.is_late n c.0.transmission) refl (h.0.0 c.0 c.1) (ends-controls e c.0 c.1)))),
        (still e).0.1,
      ),
      h.1,
      h.2,
    )

    cut : (s : PeerState) → Fair N most (cut_off_in s p)
    cut state.Answering = (((λ t k. absurd k), none-cleared N p.outbox.senders), h.1, h.2)
    cut s = (((λ t k. absurd k), none-cleared N p.outbox.senders), h.1, h.2)

    pings : (q : Peering) → Fair N most q → Fair N most (pinged q n)
    pings q k = by (is_pinged q n)
      where
        by : (b : Bool) → Fair N most (cond b (record q { outbox = outbox.with_control q.outbox control.Ping }) q)
        by true = k
        by false = k

    tick : Fair N most (ticked p n)
    tick = by-expiry (λ (e : Expiry). Fair N most (pinged (after_timeouts_by e p n) n)) p n
        (pings (cut_off_in p.state p) (cut p.state)) (λ e f. pings (record p { outbox = outbox.marked p.outbox tick_is }) (marks e)) (λ e f. pings p (still e))

tick-fair : (most before now gap : ℕ) (short : Bool) (p : Peering) → Fair (Goes most before) most p → Each Rests p.outbox.control.sent p.outbox.senders → before ≤ now → now ≤ before + gap → 5000 + 2 * most + gap < 2 ^ 32
    → Fair (Goes most now) most (moved short p (now % 2 ^ 32))
tick-fair most before now gap short p h rests up down near = tick-passes Waited (Goes most now) most short p n passes
    (((λ t k. (h.0.0 t k, rests.0 t k)), (λ s k t j. (h.0.1 s k t j, rests.1 s k t j))), h.1, h.2)
  where
    n : ℕ
    n = now % 2 ^ 32

    Waited : Transmission → Type 0
    Waited t = (g : Goes most before t) × Rests t

    soon : (t : Transmission) → (g : Goes most before t) → now < g.0 + 2 ^ 32
    soon t g = let x = g.1 in let y = x.in_time in omega arith

    passes : Passes Waited (Goes most now) p n
    passes = record {
      marks = λ t b e. (b.0.0, timed-marked b.0.0 5000 most before now (tick_of p n) t refl (timeout-low p.estimate) b.0.1 b.1 up (soon t b.0) (λ late. patient most n p.heard p.patience t h.2 e late));
      stays = λ t b e. (b.0.0, timed-stays b.0.0 5000 most before now t b.0.1 b.1 up (soon t b.0) (λ late. patient most n p.heard p.patience t h.2 e late));
      tries = λ t b due. (b.0, timed-again b.0 5000 most now t b.1 due);
    }

-- moment after moment
abbrev pub Ready : ℕ → ℕ → Peering → Type 0
Ready most now q = Fair (Goes most now) most q × Each Rests q.outbox.control.sent q.outbox.senders

pub moment-ready : (most before now gap : ℕ) (p q : Peering) → Ready most before p → before ≤ now → now ≤ before + gap → 5000 + 2 * most + gap < 2 ^ 32 → RoomyMoment now p q → Ready most now q
moment-ready most before now gap p q r up down near m = (
  (let one = m.moment in subst (λ (x : Peering). Fair (Goes most now) most x) (sym one.after) (fair-deeds (Goes most now) most now (moved one.short p (now % 2 ^ 32)) one.deeds (sends-on most now) (tick-fair most before now gap one.short p r.0 r.1 up down near))),
  rest-of q.outbox m.resent,
)

pub moments-ready : (most gap : ℕ) (moments : List ℕ) (before now : ℕ) (p q : Peering) → Ready most before p → before ≤ now → now ≤ before + gap → 5000 + 2 * most + gap < 2 ^ 32 → RoomyMoments gap now p moments q → Ready most (last_of now moments) q
moments-ready most gap [] before now p q r up down near m = moment-ready most before now gap p q r up down near m
moments-ready most gap (next ∷ later) before now p q r up down near (u, m, low, high, rest) =
    moments-ready most gap later now next u q (moment-ready most before now gap p u r up down near m) low high near rest

-- a peer that has sent nothing yet
ready-waits : (most now : ℕ) (q : Peering) → 5000 + 2 * most < 2 ^ 32 → Ready most now q → WaitAtMost most (now % 2 ^ 32) q.outbox
ready-waits most now q near r = record {
  controls = λ t h. waits t.transmission (r.0.0.0 t h) (r.1.0 t h);
  channels = λ s k t h. waits t.transmission (r.0.0.1 s k t h) (r.1.1 s k t h);
}
  where
    waits : (t : Transmission) → Goes most now t → t.due ≡ false → elapsed_time (now % 2 ^ 32) t.first ≤ most + t.timeout
    waits t g e = timed-elapsed g.0 5000 most now t g.1 e (let x = g.1 in let y = x.in_time in omega arith)

fresh-waits : (p : Peering) → ((R : Transmission → Type 0) → Each R p.outbox.control.sent p.outbox.senders) → IsWithin p.estimate 65535 → NoneWaitsLonger p
fresh-waits p none within gap now moments q near run =
    let most : ℕ = p.patience.maximum in
    ready-waits most (last_of now moments) q (omega arith) (moments-ready most gap moments now now p q ((none (Goes most now), within, refl), none Rests) (omega arith) (omega arith) near run)

pub joined-waits : (start : ℕ) (terms : Terms) (limits : Limits) → NoneWaitsLonger (joined start terms limits)
joined-waits start terms limits = fresh-waits (joined start terms limits) (λ R. ((λ t k. absurd k), none-new R 0 terms.channels)) (record { round_trip = omega arith; variance = omega arith })

pub asking-waits : (start offset : ℕ) (offer : Offer) (limits : Limits) → NoneWaitsLonger (connecting start offset offer limits)
asking-waits start offset offer limits = fresh-waits (connecting start offset offer limits) (λ R. ((λ t k. absurd k), none-new R 0 _)) (record { round_trip = omega arith; variance = omega arith })

pub answering-waits : (start : ℕ) (offsets : Offsets) (offer : Offer) (server : Server) (limits : Limits) → NoneWaitsLonger (answering start offsets offer server limits)
answering-waits start offsets offer server limits = fresh-waits (answering start offsets offer server limits) (λ R. ((λ t k. absurd k), none-new R 0 _)) (record { round_trip = omega arith; variance = omega arith })
