-- Whatever happens at a peer, each command that it has to send fits its datagrams: packets are cut by the mtu of its terms.
use Rattle.std.proofs.Common.{◌≡◌, ℕ, zero, suc, ◌+◌, ◌*◌, ◌≤◌, ◌%◌, ◌^◌, ◌&&◌, ◌==◌, ltb, max, min, not, Bool, true, false, cond, List, [], ◌∷◌, ◌++◌, length, map, take, drop, refl, sym, ap, subst, inl, inr, ◌⊎◌, arith, Option, Some, None, Result, Ok, Err, is_some, nat_lt}
use Rattle.std.proofs.lemmas.Bool.Decides.{nat_tests}
use Rattle.std.proofs.lemmas.List.{length-take}
use Rattle.std.specs.List.{slice_get, slice_set, range_with_len}
use Rattle.enet_codec.specs.declared.packet.Packet as codec
use Rattle.enet_codec.specs.declared.command.Verify.{Verify}
use Rattle.enet_codec.specs.declared.command.Offer.{Offer}
use Rattle.enet_codec.specs.declared.stop.Stop.{Stop}
use Rattle.enet_codec.specs.declared.stop.Stop.TheVariants as stop
use Rattle.enet_codec.specs.Message.{Message, Body, acknowledge, connect, verify_connect, disconnect, ping, send_reliable, send_unreliable, send_fragment, send_unsequenced, send_unreliable_fragment, bandwidth_limit, throttle_configure}
use Rattle.enet_seq.specs.Numbering.{wire}
use Rattle.enet_rtt.specs.Clock.{meant_time}
use Rattle.enet_rtt.specs.declared.transmission.Tick.{Tick}
use Rattle.enet_rtt.specs.declared.expiry.Expiry.{Expiry}
use Rattle.enet_rtt.specs.declared.expiry.Expiry.TheVariants.{No, Resend, End}
use Rattle.enet_connect.specs.Sizes.{mtu_of}
use Rattle.enet_connect.specs.declared.terms.Terms.{Terms}
use Rattle.enet_connect.specs.declared.server.Server.{Server}
use Rattle.enet_connect.specs.Verification.{agreed, is_accepted}
use Rattle.enet_senders.specs.Controlling as controlling
use Rattle.enet_senders.specs.declared.control.Control.{Control}
use Rattle.enet_senders.specs.declared.control.Control.TheVariants as control
use Rattle.enet_fragment.specs.Cutting.{piece_length}
use Rattle.enet_fragment.specs.declared.data.DataCommand.{DataCommand}
use Rattle.enet_receiver.specs.Members.{Has}
use Rattle.enet_sender.specs.CommandChoice.{Packet, ChosenPacket, carried_as, is_long}
use Rattle.enet_sender.specs.declared.sent.Sent.{Sent}
use Rattle.enet_sender.specs.Sender as sender
use Rattle.enet_sender.specs.Sender.{with_skipped, LastNumbers, command_at, piece_of_body}
use Rattle.enet_sender.specs.Due.{SendingEnd, new_end}
use Rattle.enet_inbox.specs.DataEffect.{DataEffect, arrival, passed_over}
use Rattle.enet_outbox.specs.declared.parts.Matched.{Matched}
use Rattle.enet_outbox.specs.declared.parts.Matched.TheVariants as matched
use Rattle.enet_outbox.specs.declared.parts.Pace.{Pace}
use Rattle.enet_outbox.specs.declared.parts.Unsequenced.{Unsequenced}
use Rattle.enet_outbox.specs.Outbox.{Outbox, matched_by, marked_sender, cleared_sender, after_acknowledgement}
use Rattle.enet_outbox.specs.Outbox as outbox
use Rattle.enet_outbox.specs.Emission.{filled}
use Rattle.enet_outbox.specs.Room.{IsAwaited, RoomIsAwaited}
use Rattle.enet_outbox.proofs.Filled.{by-filling}
use Rattle.enet_outbox.proofs.Rooms.{awaited-acknowledged, awaited-cleared, awaited-filled, awaited-marked, awaited-narrowed, awaited-new, awaited-submitted}
use Rattle.enet_peer.specs.declared.parts.Ending.TheVariants.{AskedHere, AskedThere, BadAnswer}
use Rattle.enet_peer.specs.declared.parts.PeerState.{PeerState}
use Rattle.enet_peer.specs.declared.parts.PeerState.TheVariants as state
use Rattle.enet_peer.specs.declared.parts.Limits.{Limits}
use Rattle.enet_peer.specs.declared.parts.Offsets.{Offsets}
use Rattle.enet_peer.specs.Peering.{Peering, joined, connecting, answering}
use Rattle.enet_peer.specs.Endings.{ended, freed, parting, settled, disconnecting, is_later, silence_ending, cut_off_in}
use Rattle.enet_peer.proofs.Obeying.{unless-holds, unwelcomed-holds}
use Rattle.enet_peer.specs.CommandEffect.{Outcome, obeyed, unless_refused, stopped, is_allowed, is_connect, by_body, by_answer, by_arrival, on_data, answered, answered_at, is_answered_in, is_connecting, on_acknowledge, on_match, acknowledged, with_answer, on_verify_in, welcomed, on_disconnect_in, on_last_disconnect, on_bandwidth, on_throttle}
use Rattle.enet_peer.specs.Calls.{Leave, AtOnce, TellsOnce, Asks, AsksLater, Refused, left, submitted, pace_of, gone_on_in, expiry_of, held_back, moved, ticked, pinged, is_pinged, after_timeouts_by, tick_of, next_event, event_after, packet_event, last_event}
use Rattle.enet_peer.specs.Refusing.{heeded, is_turned_away, told_full, turned_away}
use Rattle.enet_peer.proofs.Refusals.{heeded-holds}
use Rattle.law_progress.specs.Attempts.{Hears, TellsAgain, PutsOut, Takes, after_take}
use Rattle.law_progress.specs.Fits.{StaysFit}
use Rattle.law_progress.specs.Outboxes.{AllFit}
use Rattle.law_progress.specs.Waits.{Deed, Lives, Submits, Leaves, after_leave, after_deed, after_deeds, Moment, Moments, RoomyBefore}
use Rattle.law_progress.proofs.Moving.{by-moved}
use Rattle.law_progress.proofs.SomethingGoes.{Has-skipped}
use Rattle.law_progress.proofs.Spent.{goes-of, queued-left, sent-left}
use Rattle.law_progress.proofs.Waiting.{Has-at, Has-set, Has-pushed, Has-mapped, Has-removed}

-- no command that is queued or sent is longer
pub record Small (most : ℕ) (o : Outbox) : Type 0 where
  pub unsequenced : (u : Unsequenced) → Has o.unsequenced u → length u.body + 28 ≤ most
  pub queued : (s : SendingEnd) → Has o.senders s → (c : DataCommand) → Has s.sender.queued c → length c.body + 28 ≤ most
  pub sent : (s : SendingEnd) → Has o.senders s → (t : Sent) → Has s.sender.sent t → length t.command.body + 28 ≤ most

-- where no channel has anything
small-cleared : (most : ℕ) (o : Outbox) → o.unsequenced ≡ [] → ((s : SendingEnd) → Has o.senders s → (s.sender.queued ≡ []) × (s.sender.sent ≡ [])) → Small most o
small-cleared most o none empty = record {
  unsequenced = λ u h. absurd (subst (λ l. Has l u) none h);
  queued = λ s h c k. absurd (subst (λ (l : List DataCommand). Has l c) (empty s h).0 k);
  sent = λ s h t k. absurd (subst (λ (l : List Sent). Has l t) (empty s h).1 k);
}

cleared-empty : (xs : List SendingEnd) → (s : SendingEnd) → Has (map cleared_sender xs) s → (s.sender.queued ≡ []) × (s.sender.sent ≡ [])
cleared-empty xs s h = let c = Has-mapped cleared_sender xs s h in (ap (λ (x : SendingEnd). x.sender.queued) (sym c.2), ap (λ (x : SendingEnd). x.sender.sent) (sym c.2))

new-empty : (from n : ℕ) → (s : SendingEnd) → Has (map new_end (range_with_len from n)) s → (s.sender.queued ≡ []) × (s.sender.sent ≡ [])
new-empty from n s h = let c = Has-mapped new_end (range_with_len from n) s h in (ap (λ (x : SendingEnd). x.sender.queued) (sym c.2), ap (λ (x : SendingEnd). x.sender.sent) (sym c.2))

taken-has : {X : Type 0} (n : ℕ) (xs : List X) (x : X) → Has (take n xs) x → Has xs x
taken-has zero xs x h = absurd h
taken-has (suc n) [] x h = absurd h
taken-has (suc n) (y ∷ ys) x (inl e) = inl e
taken-has (suc n) (y ∷ ys) x (inr h) = inr (taken-has n ys x h)

-- where one channel changed
small-set : (most : ℕ) (o u : Outbox) (k : ℕ) (new : SendingEnd) → Small most o → u.senders ≡ slice_set o.senders k new → u.unsequenced ≡ o.unsequenced
    → ((c : DataCommand) → Has new.sender.queued c → length c.body + 28 ≤ most) → ((t : Sent) → Has new.sender.sent t → length t.command.body + 28 ≤ most) → Small most u
small-set most o u k new a is same queued sent = record {
  unsequenced = λ x h. a.unsequenced x (subst (λ xs. Has xs x) same h);
  queued = λ s h c j. elim (Has-set o.senders k new s (subst (λ (l : List SendingEnd). Has l s) is h)) [
    | inl w ↦ queued c (subst (λ (z : SendingEnd). Has z.sender.queued c) (sym w) j)
    | inr w ↦ a.queued s w c j
  ];
  sent = λ s h t j. elim (Has-set o.senders k new s (subst (λ (l : List SendingEnd). Has l s) is h)) [
    | inl w ↦ sent t (subst (λ (z : SendingEnd). Has z.sender.sent t) (sym w) j)
    | inr w ↦ a.sent s w t j
  ];
}

pub small-filled : (most : ℕ) (pace : Pace) (o : Outbox) → Small most o → Small most (filled pace o).outbox
small-filled most pace o a = by-filling pace o (λ f. Small most f.outbox) (record {
  closes = λ f g. g;
  acknowledges = λ f x rest e g. record { unsequenced = g.unsequenced; queued = g.queued; sent = g.sent };
  controls = λ f n e g. record { unsequenced = g.unsequenced; queued = g.queued; sent = g.sent };
  puts_unsequenced = λ f u rest t e g. record { unsequenced = λ x h. g.unsequenced x (subst (λ xs. Has xs x) (sym e) (inr h)); queued = g.queued; sent = g.sent };
  drops_unsequenced = λ f u rest t e g. record { unsequenced = λ x h. g.unsequenced x (subst (λ xs. Has xs x) (sym e) (inr h)); queued = g.queued; sent = g.sent };
  puts_data = λ f k s n t there due g. small-set most f.outbox (Rattle.enet_outbox.specs.Emission.data_put f k s n (record f.outbox { throttle = t })).outbox k (record s { sender = n.sender }) g refl refl
      (λ c h. g.queued s (Has-at f.outbox.senders k s there) c (queued-left _ s.sender n c (goes-of _ s.sender n due) h))
      (λ x h. sent-left _ s.sender n (λ c. length c.body + 28 ≤ most) (goes-of _ s.sender n due) (λ c j. g.queued s (Has-at f.outbox.senders k s there) c j) (λ p j. g.sent s (Has-at f.outbox.senders k s there) p j) x h);
  drops_data = λ f k s n t there due kind g. small-set most f.outbox (Rattle.enet_outbox.specs.Emission.with_sender (record f.outbox { throttle = t }) k (record s { sender = with_skipped n.sender })) k (record s { sender = with_skipped n.sender }) g refl refl
      (λ c h. g.queued s (Has-at f.outbox.senders k s there) c (queued-left _ s.sender n c (goes-of _ s.sender n due) (Has-skipped n.sender.queued c h)))
      (λ x h. sent-left _ s.sender n (λ c. length c.body + 28 ≤ most) (goes-of _ s.sender n due) (λ c j. g.queued s (Has-at f.outbox.senders k s there) c j) (λ p j. g.sent s (Has-at f.outbox.senders k s there) p j) x h);
  keeps_room = λ f i x there wants g. record { unsequenced = g.unsequenced; queued = g.queued; sent = g.sent };
  gives_room = λ f i x n there due g. record { unsequenced = g.unsequenced; queued = g.queued; sent = g.sent };
}) a

-- a packet is cut by the mtu
abbrev pub room_of : ℕ → ℕ
room_of mtu = max 576 (min mtu 4096)

piece-small : (mtu : ℕ) (body : List ℕ) (i : ℕ) → mtu ≤ 4096 → length (piece_of_body (piece_length mtu) body i) + 28 ≤ room_of mtu
piece-small mtu body i low =
    let size : ℕ = piece_length mtu in
    let cut : length (take size (drop (i * size) body)) ≡ min size (length (drop (i * size) body)) = length-take size (drop (i * size) body) in
    least mtu (length (take size (drop (i * size) body))) (length (drop (i * size) body)) low cut
  where
    least : (m n k : ℕ) → m ≤ 4096 → n ≡ min (piece_length m) k → n + 28 ≤ max 576 (min m 4096)
    least m n k low e = grind arith

small-pieces : (mtu : ℕ) (last : LastNumbers) (c : ChosenPacket) (js : List ℕ) (d : DataCommand) → mtu ≤ 4096 → Has (map (command_at wire mtu last c) js) d → length d.body + 28 ≤ room_of mtu
small-pieces mtu last c js d low h = let w = Has-mapped (command_at wire mtu last c) js d h in subst (λ (x : DataCommand). length x.body + 28 ≤ room_of mtu) w.2 (piece-small mtu c.packet.body w.0 low)

Has-either : {X : Type 0} (xs ys : List X) (x : X) → Has (xs ++ ys) x → Has xs x ⊎ Has ys x
Has-either [] ys x h = inr h
Has-either (z ∷ zs) ys x (inl e) = inl (inl e)
Has-either (z ∷ zs) ys x (inr h) = elim (Has-either zs ys x h) [ inl k ↦ inl (inr k) | inr k ↦ inr k ]

small-submitted : (mtu : ℕ) (o : Outbox) (channel : ℕ) (q : Packet) → mtu ≤ 4096 → Small (room_of mtu) o → Small (room_of mtu) (outbox.submitted o mtu channel q)
small-submitted mtu o channel q low a = by (outbox.is_unsequenced mtu q) refl
  where
    on : (x : Option SendingEnd) → slice_get o.senders channel ≡ x → Small (room_of mtu) (outbox.with_sequenced o mtu channel q x)
    on None e = a
    on (Some s) e = small-set (room_of mtu) o (outbox.with_sequenced o mtu channel q (Some s)) channel (record s { sender = sender.submitted wire mtu s.sender q }) a refl refl
        (λ c h. elim (Has-either s.sender.queued (sender.commands_of wire mtu s.sender.number s.sender.unreliable (carried_as mtu s.sender.unreliable q)) c h) [
          | inl old ↦ a.queued s (Has-at o.senders channel s e) c old
          | inr new ↦ small-pieces mtu (record { number = s.sender.number; unreliable = s.sender.unreliable }) (carried_as mtu s.sender.unreliable q) (range_with_len 0 (carried_as mtu s.sender.unreliable q).pieces) c low new
        ])
        (λ t h. a.sent s (Has-at o.senders channel s e) t h)

    short : outbox.is_unsequenced mtu q ≡ true → length q.body + 28 ≤ room_of mtu
    short e = within (is_long mtu q) refl (last (outbox.is_flagged_unsequenced q) (not (Rattle.enet_sender.specs.CommandChoice.is_flagged_reliable q)) (not (is_long mtu q)) e)
      where
        last : (x y z : Bool) → (x && y && z) ≡ true → z ≡ true
        last true true z h = h
        last true false z h = absurd (cc)
        last false y z h = absurd (cc)

        fits : (m n : ℕ) → m ≤ 4096 → ltb (piece_length m) n ≡ false → n + 28 ≤ max 576 (min m 4096)
        fits m n l h = let k : n ≤ piece_length m = above (piece_length m) n h in most m n l k
          where
            above : (i j : ℕ) → ltb i j ≡ false → j ≤ i
            above i j t = grind (arith, nat_tests)

            most : (i j : ℕ) → i ≤ 4096 → j ≤ piece_length i → j + 28 ≤ max 576 (min i 4096)
            most i j x y = grind arith

        within : (b : Bool) → is_long mtu q ≡ b → not b ≡ true → length q.body + 28 ≤ room_of mtu
        within true e h = absurd (cc)
        within false e h = fits mtu (length q.body) low e

    by : (b : Bool) → outbox.is_unsequenced mtu q ≡ b → Small (room_of mtu) (cond b (outbox.with_unsequenced o channel q) (outbox.with_sequenced o mtu channel q (slice_get o.senders channel)))
    by false e = on (slice_get o.senders channel) refl
    by true e = record {
      unsequenced = λ u h. elim (Has-pushed o.unsequenced (record { channel = channel; group = Rattle.enet_seq.specs.Windows.after o.group 1; body = q.body }) u h) [
        | inl new ↦ subst (λ (x : Unsequenced). length x.body + 28 ≤ room_of mtu) new (short e)
        | inr old ↦ a.unsequenced u old
      ];
      queued = a.queued;
      sent = a.sent;
    }

small-marked : (most : ℕ) (tick : Tick) (o : Outbox) → Small most o → Small most (outbox.marked o tick)
small-marked most tick o a = record {
  unsequenced = a.unsequenced;
  queued = λ s h c k. (let w = Has-mapped (marked_sender tick) o.senders s h in a.queued w.0 w.1 c (subst (λ (z : SendingEnd). Has z.sender.queued c) (sym w.2) k));
  sent = λ s h t k. (let w = Has-mapped (marked_sender tick) o.senders s h in
      let m = Has-mapped (sender.marked tick) w.0.sender.sent t (subst (λ (z : SendingEnd). Has z.sender.sent t) (sym w.2) k) in
      subst (λ (y : Sent). length y.command.body + 28 ≤ most) m.2 (a.sent w.0 w.1 m.0 m.1));
}

small-gone : (most : ℕ) (o : Outbox) (channel number : ℕ) → Small most o → Small most (after_acknowledgement o channel number)
small-gone most o channel number a = by (channel == 0xFF)
  where
    on : (x : Option SendingEnd) → slice_get o.senders channel ≡ x → Small most (outbox.acknowledged_on o channel number x)
    on None e = a
    on (Some s) e = small-set most o (outbox.acknowledged_on o channel number (Some s)) channel (record s { sender = sender.after_acknowledgement s.sender number }) a refl refl
        (λ c h. a.queued s (Has-at o.senders channel s e) c h)
        (λ t h. a.sent s (Has-at o.senders channel s e) t (gone (sender.position_of number s.sender.sent) t h))
      where
        gone : (x : Option ℕ) (t : Sent) → Has (sender.without_place s.sender.sent x) t → Has s.sender.sent t
        gone None t k = k
        gone (Some i) t k = Has-removed s.sender.sent i t k

    by : (b : Bool) → Small most (cond b (record o { control = controlling.after_acknowledgement o.control number }) (outbox.acknowledged_on o channel number (slice_get o.senders channel)))
    by true = record { unsequenced = a.unsequenced; queued = a.queued; sent = a.sent }
    by false = on (slice_get o.senders channel) refl

-- what a peer keeps of it
pub record Fits (p : Peering) : Type 0 where
  pub mtu : p.terms.mtu ≤ 4096
  pub small : Small (room_of p.terms.mtu) p.outbox
  pub awaited : RoomIsAwaited p.outbox

-- an end drops all
fits-dropped : (p q : Peering) → Fits p → q.terms ≡ p.terms → q.outbox.unsequenced ≡ [] → q.outbox.senders ≡ map cleared_sender p.outbox.senders → q.outbox.kept ≡ None → Fits q
fits-dropped p q f terms none senders kept = record {
  mtu = subst (λ (t : Terms). t.mtu ≤ 4096) (sym terms) f.mtu;
  small = small-cleared (room_of q.terms.mtu) q.outbox none (λ s h. cleared-empty p.outbox.senders s (subst (λ (l : List SendingEnd). Has l s) senders h));
  awaited = (let c : RoomIsAwaited (outbox.cleared p.outbox) = awaited-cleared p.outbox in
      subst (λ (l : List SendingEnd). IsAwaited l q.outbox.kept) (sym senders) (subst (IsAwaited (map cleared_sender p.outbox.senders)) (sym kept) c));
}

-- or all that is sent stays
pub fits-same : (p q : Peering) → Fits p → q.terms.mtu ≡ p.terms.mtu → q.outbox.unsequenced ≡ p.outbox.unsequenced → q.outbox.senders ≡ p.outbox.senders → q.outbox.kept ≡ p.outbox.kept → Fits q
fits-same p q f mtu unsequenced senders kept = record {
  mtu = subst (λ m. m ≤ 4096) (sym mtu) f.mtu;
  small = subst (λ m. Small (room_of m) q.outbox) (sym mtu) (record {
    unsequenced = λ u h. a.unsequenced u (subst (λ l. Has l u) unsequenced h);
    queued = λ s h c k. a.queued s (subst (λ (l : List SendingEnd). Has l s) senders h) c k;
    sent = λ s h t k. a.sent s (subst (λ (l : List SendingEnd). Has l s) senders h) t k;
  });
  awaited = subst (λ (l : List SendingEnd). IsAwaited l q.outbox.kept) (sym senders) (subst (IsAwaited p.outbox.senders) (sym kept) f.awaited);
}
  where
    a : Small (room_of p.terms.mtu) p.outbox
    a = f.small

fits-settled : (p : Peering) → Fits p → Fits (settled p)
fits-settled p f = by (is_later p.state && outbox.is_done p.outbox)
  where
    by : (b : Bool) → Fits (cond b (disconnecting p p.info) p)
    by true = fits-dropped p (disconnecting p p.info) f refl refl refl refl
    by false = f

fits-answer : (p : Peering) (s : PeerState) (what : Control) → Fits p → Fits (with_answer s what p)
fits-answer p state.Answering (control.VerifyConnect verify) f = record { mtu = f.mtu; small = f.small; awaited = f.awaited }
fits-answer p state.Disconnecting (control.Disconnect info) f = fits-dropped p (ended p AskedHere 0) f refl refl refl refl
fits-answer p s what f = f

fits-acknowledge : (p : Peering) (now channel number told : ℕ) → Fits p → Fits (on_acknowledge p now channel number told)
fits-acknowledge p now channel number told f = by-state (is_connecting p.state)
  where
    time : ℕ
    time = meant_time told (p.offset % 2 ^ 16)

    q : Peering
    q = acknowledged p now channel number time

    b : Small (room_of p.terms.mtu) (after_acknowledgement p.outbox channel number)
    b = small-gone (room_of p.terms.mtu) p.outbox channel number f.small

    g : Fits q
    g = record { mtu = f.mtu; small = record { unsequenced = b.unsequenced; queued = b.queued; sent = b.sent }; awaited = awaited-acknowledged p.outbox channel number f.awaited }

    by : (x : Matched) → Fits (on_match x p q)
    by matched.Nothing = f
    by matched.Data = fits-settled q g
    by (matched.Control what) = fits-settled (with_answer p.state what q) (fits-answer q p.state what g)

    by-state : (x : Bool) → Fits (cond x p (on_match (matched_by p.outbox channel number time) p q))
    by-state true = f
    by-state false = by (matched_by p.outbox channel number time)

lesser-mtu : (a b : ℕ) → mtu_of a b ≤ 4096
lesser-mtu a b = least (min a b)
  where
    least : (n : ℕ) → max 576 (min n 4096) ≤ 4096
    least n = grind arith

fits-verify : (p : Peering) (v : Verify) (s : PeerState) → Fits p → Fits (on_verify_in s p v)
fits-verify p v state.Connecting f = by (is_accepted p.offer v)
  where
    by : (b : Bool) → Fits (welcomed p v (cond b (Some (agreed p.offer v)) None))
    by false = unwelcomed-holds Fits p v f (fits-dropped p (ended p BadAnswer 0) f refl refl refl refl)
    by true = record {
      mtu = lesser-mtu p.offer.mtu v.mtu;
      small = small-cleared (room_of (mtu_of p.offer.mtu v.mtu)) _ refl (λ s h. cleared-empty p.outbox.senders s (taken-has (agreed p.offer v).channels (map cleared_sender p.outbox.senders) s h));
      awaited = awaited-narrowed (outbox.cleared p.outbox) (agreed p.offer v).channels (awaited-cleared p.outbox);
    }
fits-verify p v s f = f

fits-last : (p : Peering) (b : Bool) (info : ℕ) → Fits p → Fits (on_last_disconnect p b info)
fits-last p true info f = fits-dropped p (on_last_disconnect p true info) f refl refl refl refl
fits-last p false info f = fits-dropped p (ended p AskedThere info) f refl refl refl refl

fits-disconnect : (p : Peering) (s : PeerState) (b : Bool) (info : ℕ) → Fits p → Fits (on_disconnect_in s p b info)
fits-disconnect p state.Connected b info f = fits-last p b info f
fits-disconnect p state.DisconnectLater b info f = fits-last p b info f
fits-disconnect p state.Connecting b info f = fits-dropped p (ended p AskedThere info) f refl refl refl refl
fits-disconnect p state.Disconnecting b info f = fits-dropped p (ended p AskedThere info) f refl refl refl refl
fits-disconnect p state.Answering b info f = fits-dropped p (freed p) f refl refl refl refl
fits-disconnect p s b info f = f

fits-answered : (p : Peering) (m : Message) (sent : Option ℕ) (may : Bool) → Fits p → Fits (answered p m sent may).after
fits-answered p m sent may f = by (m.head.acknowledge && may && is_answered_in p.state m.body) sent
  where
    by : (b : Bool) (o : Option ℕ) → Fits (cond b (answered_at p m.head o) (record { stop = None; after = p })).after
    by false o = f
    by true None = f
    by true (Some time) = fits-same p (answered_at p m.head (Some time)).after f refl refl refl refl

fits-result : (p : Peering) (m : Message) (sent : Option ℕ) (r : Result Bool Stop) → Fits p → Fits (by_answer p m sent r).after
fits-result p m sent (Err why) f = f
fits-result p m sent (Ok may) f = fits-answered p m sent may f

fits-data : (p : Peering) (m : Message) (sent : Option ℕ) → Fits p → Fits (on_data p m sent).after
fits-data p m sent f = by (is_later p.state)
  where
    a : DataEffect
    a = arrival p.inbox m

    by : (b : Bool) → Fits (cond b (by_answer p m sent (passed_over p.inbox m)) (by_arrival p m sent a)).after
    by true = fits-result p m sent (passed_over p.inbox m) f
    by false = fits-result (record p { inbox = a.after }) m sent a.answer (fits-same p (record p { inbox = a.after }) f refl refl refl refl)

pub fits-obeyed : (p : Peering) (now : ℕ) (sent : Option ℕ) (m : Message) → Fits p → Fits (obeyed p now sent m).after
fits-obeyed p now sent m f = by (is_connect m.body) (is_allowed p.state m.body)
  where
    body : (b : Body) → Fits (by_body p now sent m b).after
    body (acknowledge number time) = fits-answered (on_acknowledge p now m.head.channel number time) m sent true (fits-acknowledge p now m.head.channel number time f)
    body (connect offer) = f
    body (verify_connect v) = fits-answered (on_verify_in p.state p v) m sent true (fits-verify p v p.state f)
    body (disconnect info) = fits-answered (on_disconnect_in p.state p (m.head.acknowledge && is_some sent) info) m sent true (fits-disconnect p p.state (m.head.acknowledge && is_some sent) info f)
    body ping = fits-answered p m sent true f
    body (bandwidth_limit incoming outgoing) = fits-answered (on_bandwidth p incoming) m sent true (fits-same p (on_bandwidth p incoming) f refl refl refl refl)
    body (throttle_configure interval acceleration deceleration) = fits-answered (on_throttle p interval acceleration deceleration) m sent true (fits-same p (on_throttle p interval acceleration deceleration) f refl refl refl refl)
    body (send_reliable payload) = fits-data p m sent f
    body (send_unreliable number payload) = fits-data p m sent f
    body (send_fragment fragment payload) = fits-data p m sent f
    body (send_unsequenced group payload) = fits-data p m sent f
    body (send_unreliable_fragment fragment payload) = fits-data p m sent f

    by : (a b : Bool) → Fits (cond a (stopped p stop.BadCommand) (cond b (unless_refused p m (by_body p now sent m m.body)) (stopped p stop.NotConnected))).after
    by true b = f
    by false true = unless-holds Fits p m (by_body p now sent m m.body) f (body m.body)
    by false false = f

-- a host that is full
fits-told : (p : Peering) → Fits p → Fits (told_full p)
fits-told p f = fits-same p (told_full p) f refl refl refl refl

pub fits-heeded : (full : Bool) (p : Peering) (now : ℕ) (sent : Option ℕ) (m : Message) → Fits p → Fits (heeded full p now sent m).after
fits-heeded full p now sent m f =
    heeded-holds (λ (o : Outcome). Fits o.after) full p now sent m (fits-obeyed p now sent m f) (λ answers. fits-same p (turned_away p) f refl refl refl refl)

pub fits-again : (b c : Bool) (p : Peering) → Fits p → Fits (cond b (cond c p (told_full p)) p)
fits-again false c p f = f
fits-again true true p f = f
fits-again true false p f = fits-told p f

-- what else happens at a peer
pub fits-takes : (p : Peering) → Fits p → Fits (after_take p (next_event p))
fits-takes p f = by p.greeting
  where
    last : (s : PeerState) → Fits (after_take p (last_event s p))
    last state.Ended = fits-same p (record p { state = state.Free }) f refl refl refl refl
    last s = f

    packets : (untaken : List codec.Packet) → Fits (after_take p (packet_event p untaken))
    packets [] = last p.state
    packets (q ∷ rest) = fits-same p (record p { inbox = record p.inbox { untaken = rest } }) f refl refl refl refl

    by : (greeting : Option ℕ) → Fits (after_take p (event_after p greeting))
    by (Some info) = fits-same p (record p { greeting = None }) f refl refl refl refl
    by None = packets p.inbox.untaken

pub fits-went : (p : Peering) (s : PeerState) → Fits p → Fits (gone_on_in s p)
fits-went p state.AckDisconnect f = fits-dropped p (ended p AskedThere p.info) f refl refl refl refl
fits-went p state.Parting f = by (nat_lt 0 (length p.outbox.control.queued))
  where
    by : (b : Bool) → Fits (cond b p (freed p))
    by true = f
    by false = fits-dropped p (freed p) f refl refl refl refl
fits-went p s f = fits-settled p f

pub fits-submitted : (p : Peering) (channel : ℕ) (q : Packet) → Fits p → Fits (submitted p channel q)
fits-submitted p channel q f = record { mtu = f.mtu; small = small-submitted p.terms.mtu p.outbox channel q f.mtu f.small; awaited = awaited-submitted p.outbox p.terms.mtu channel q f.awaited }

pub fits-left : (p : Peering) (leave : Leave) (info : ℕ) → Fits p → Fits (after_leave p (left leave p info))
fits-left p AtOnce info f = fits-dropped p (freed p) f refl refl refl refl
fits-left p TellsOnce info f = fits-dropped p (parting p info) f refl refl refl refl
fits-left p Asks info f = fits-dropped p (disconnecting p info) f refl refl refl refl
fits-left p AsksLater info f = fits-settled (record p { state = state.DisconnectLater; info = info }) (fits-same p (record p { state = state.DisconnectLater; info = info }) f refl refl refl refl)
fits-left p Refused info f = f

fits-deed : (now : ℕ) (p : Peering) (deed : Deed) → Fits p → Fits (after_deed now p deed)
fits-deed now p (Lives (Hears full sent m)) f = fits-heeded full p now sent m f
fits-deed now p (Lives TellsAgain) f = fits-again (is_turned_away p) (nat_lt 0 (length p.outbox.control.queued)) p f
fits-deed now p (Lives PutsOut) f =
    let o = (filled (pace_of p now) p.outbox).outbox in
    fits-went (record p { outbox = o }) p.state (record { mtu = f.mtu; small = small-filled (room_of p.terms.mtu) (pace_of p now) p.outbox f.small; awaited = awaited-filled (pace_of p now) p.outbox f.awaited })
fits-deed now p (Lives Takes) f = fits-takes p f
fits-deed now p (Submits channel packet) f = fits-submitted p channel packet f
fits-deed now p (Leaves leave info) f = fits-left p leave info f

fits-deeds : (now : ℕ) (p : Peering) (deeds : List Deed) → Fits p → Fits (after_deeds now p deeds)
fits-deeds now p [] f = f
fits-deeds now p (deed ∷ deeds) f = fits-deeds now (after_deed now p deed) deeds (fits-deed now p deed f)

pub fits-ticked : (p : Peering) (n : ℕ) → Fits p → Fits (ticked p n)
fits-ticked p n f = by (expiry_of p n)
  where
    cut : (s : PeerState) → Fits (cut_off_in s p)
    cut state.Answering = fits-dropped p (freed p) f refl refl refl refl
    cut s = fits-dropped p (ended p (silence_ending s) 0) f refl refl refl refl

    pings : (q : Peering) → Fits q → Fits (pinged q n)
    pings q g = go (is_pinged q n)
      where
        go : (b : Bool) → Fits (cond b (record q { outbox = outbox.with_control q.outbox control.Ping }) q)
        go true = fits-same q (record q { outbox = outbox.with_control q.outbox control.Ping }) g refl refl refl refl
        go false = g

    by : (e : Expiry) → Fits (pinged (after_timeouts_by e p n) n)
    by End = pings (cut_off_in p.state p) (cut p.state)
    by Resend = pings (record p { outbox = outbox.marked p.outbox (tick_of p n) }) (record { mtu = f.mtu; small = small-marked (room_of p.terms.mtu) (tick_of p n) p.outbox f.small; awaited = awaited-marked p.outbox (tick_of p n) f.awaited })
    by No = pings p f

pub fits-moved : (short : Bool) (p : Peering) (n : ℕ) → Fits p → Fits (moved short p n)
fits-moved short p n f = by-moved Fits short p n (fits-ticked p n f) (λ answers lasts. fits-same p (held_back p n) f refl refl refl refl)

fits-moment : (now : ℕ) (p q : Peering) → Fits p → Moment now p q → Fits q
fits-moment now p q f m = subst (λ (x : Peering). Fits x) (sym m.after) (fits-deeds (now % 2 ^ 32) (moved m.short p (now % 2 ^ 32)) m.deeds (fits-moved m.short p (now % 2 ^ 32) f))

pub fits-moments : (gap now : ℕ) (moments : List ℕ) (p q : Peering) → Fits p → Moments gap now p moments q → Fits q
fits-moments gap now [] p q f m = fits-moment now p q f m
fits-moments gap now (next ∷ later) p q f (u, m, low, high, rest) = fits-moments gap next later u q (fits-moment now p u f m) rest

-- whatever is due at their ends
pub as-moments : (since gap now : ℕ) (moments : List ℕ) (p q : Peering) → RoomyBefore since gap now p moments q → Moments gap now p moments q
as-moments since gap now [] p q m = m.0
as-moments since gap now (next ∷ later) p q (u, m, roomy, low, high, rest) = (u, m, low, high, as-moments since gap next later u q rest)

-- so all fits
pub all-fits : (p : Peering) (now : ℕ) → Fits p → AllFit (pace_of p now) p.outbox
all-fits p now f = record {
  fit = record { mtu = wide (min p.terms.mtu 4096); unsequenced = a.unsequenced; queued = λ i s t c h. a.queued s (Has-at p.outbox.senders i s t) c h };
  awaited = f.awaited;
  sent = λ i s t x h. a.sent s (Has-at p.outbox.senders i s t) x h;
}
  where
    a : Small (room_of p.terms.mtu) p.outbox
    a = f.small

    wide : (m : ℕ) → 576 ≤ max 576 m
    wide m = grind arith

pub stays-fit : (p : Peering) → Fits p → StaysFit p
stays-fit p f gap now moments q when run = all-fits q when (fits-moments gap now moments p q f run)

pub joined-fits : (start : ℕ) (terms : Terms) (limits : Limits) → terms.mtu ≤ 4096 → Fits (joined start terms limits)
joined-fits start terms limits low = record { mtu = low; small = small-cleared (room_of terms.mtu) _ refl (new-empty 0 terms.channels); awaited = awaited-new terms.channels }

pub asking-fits : (start offset : ℕ) (offer : Offer) (limits : Limits) → offer.mtu ≤ 4096 → Fits (connecting start offset offer limits)
asking-fits start offset offer limits low = record { mtu = low; small = small-cleared (room_of offer.mtu) _ refl (new-empty 0 _); awaited = awaited-new _ }

pub answering-fits : (start : ℕ) (offsets : Offsets) (offer : Offer) (server : Server) (limits : Limits) → Fits (answering start offsets offer server limits)
answering-fits start offsets offer server limits = record { mtu = lesser-mtu offer.mtu server.mtu; small = small-cleared (room_of (mtu_of offer.mtu server.mtu)) _ refl (new-empty 0 _); awaited = awaited-new _ }
