-- Where a datagram would have nothing in it, nothing may go: no command is due, and no head of a queue may go.
use Rattle.std.proofs.Common.{◌≡◌, ◌≢◌, ℕ, zero, suc, ◌+◌, ◌-◌, ◌<◌, ◌≤◌, ◌==◌, ◌&&◌, ◌||◌, not, leb, ltb, Bool, true, false, cond, List, [], ◌∷◌, ◌++◌, length, refl, sym, ap, subst, ◌∙◌, inl, inr, ◌⊎◌, arith, Option, Some, None}
use Rattle.std.proofs.lemmas.Bool.{and_parts, eqb-true}
use Rattle.std.proofs.lemmas.Bool.Decides.{nat_tests}
use Rattle.std.proofs.lemmas.List.Sums.{sum_by-cons}
use Rattle.std.specs.Prelude.{sum_by, unwrap_or}
use Rattle.std.specs.Option.{option_map}
use Rattle.std.specs.List.{position, slice_get, slice_set}
use Rattle.enet_codec.specs.Message.{Message}
use Rattle.enet_seq.specs.Numbering.{wire}
use Rattle.enet_throttle.specs.Throttle.{is_admitted}
use Rattle.enet_senders.specs.Controlling as controlling
use Rattle.enet_fragment.specs.declared.data.DataCommand.{DataCommand}
use Rattle.enet_fragment.specs.DataCommand.{message_of}
use Rattle.enet_sender.specs.declared.outgoing.Kind.{Kind}
use Rattle.enet_sender.specs.declared.outgoing.Kind.TheVariants.{Reliable, Begins, More}
use Rattle.enet_sender.specs.declared.sent.Sent.{Sent}
use Rattle.enet_sender.specs.declared.outgoing.Occasion.{Occasion}
use Rattle.enet_sender.specs.Sender.{Sender, Next, next, next_of, next_queued, next_resent, first_sent, resent, again, begun, due_lacks, head_lacks, is_in_span, lacks_room, may_go, has_room, wants_room, wants_room_at, bytes_of, price_of, is_more, skipped, with_skipped, bytes_in_transit, prices_in_transit}
use Rattle.enet_sender.specs.Due.{SendingEnd, due_kind}
use Rattle.enet_outbox.specs.declared.parts.Acknowledgement.{Acknowledgement}
use Rattle.enet_outbox.specs.declared.parts.Unsequenced.{Unsequenced}
use Rattle.enet_outbox.specs.declared.parts.Pace.{Pace}
use Rattle.enet_outbox.specs.Outbox.{Outbox, released, transit_of, prices_of}
use Rattle.enet_outbox.specs.Traffic.{with_one_sent}
use Rattle.enet_outbox.specs.Emission.{Filling, empty_datagram, size_of, fits, with_command, shut, asked, repeated, with_one_acknowledgement, with_acknowledgements, control_step, with_one_control, with_controls, control_turns, unsequenced_of, unsequenced_asked, unsequenced_step, with_one_unsequenced, with_unsequenced, with_sender, data_put, data_step, due_step, channel_step, with_one_data, with_channel, turns_of, channel_turns, with_channels, turn_ended, turn_order, transit_limit, price_limit, is_barred, occasion, filled}
use Rattle.enet_outbox.proofs.Repeats.{by-repeated, repeated-idle}
use Rattle.enet_outbox.proofs.Filled.{by-filling, by-turn_end}
use Rattle.enet_outbox.proofs.Rooms.{awaited-filled}
use Rattle.enet_receiver.specs.Members.{Has}
use Rattle.law_progress.specs.Outboxes.{AreFit, AllFit, NothingMayGo, due_count, ready_at}
use Rattle.law_progress.proofs.AcknowledgementsGo.{none-waits}
use Rattle.law_progress.proofs.Filling.{le-leb, data-size, unsequenced-size, Filled, filled-with, unsequenced-filled, data-filled, channel-filled, order-filled}
use Rattle.law_progress.proofs.NothingLeft.{nothing-left}
use Rattle.law_progress.proofs.PutsOut.{found-passes, if-some, ready-next}
use Rattle.law_progress.proofs.SomethingGoes.{get-set, set-same, same-number, Has-skipped, skipped-length, in-order, below-length}
use Rattle.law_progress.proofs.Waiting.{Has-at, Has-set, Has-pushed}

-- what a sender puts out next: the head of its queue, or a sent command that is due to go again
pub data Goes (o : Occasion) (s : Sender) (n : Next) : Type 0 where
  First : (c : DataCommand) (rest : List DataCommand) → s.queued ≡ c ∷ rest → may_go wire s.sent o c ≡ true → first_sent o.now o.timeout s c rest ≡ n → Goes o s n
  Again : (i : ℕ) (p : Sent) → slice_get s.sent i ≡ Some p → p.transmission.due ≡ true → resent o.now s i p ≡ n → Goes o s n

pub goes-of : (o : Occasion) (s : Sender) (n : Next) → next wire o s ≡ Some n → Goes o s n
goes-of o s n e = go (position (λ (p : Sent). p.transmission.due) s.sent) refl e
  where
    some-is : {X : Type 0} {u v : X} → Some u ≡ Some v → u ≡ v
    some-is {X} {u} {v} e = cc

    head : (q : List DataCommand) → s.queued ≡ q → next_queued wire o s q ≡ Some n → Goes o s n
    head [] t k = absurd (cc)
    head (c ∷ rest) t k = by (may_go wire s.sent o c) refl k
      where
        by : (b : Bool) → may_go wire s.sent o c ≡ b → cond b (Some (first_sent o.now o.timeout s c rest)) None ≡ Some n → Goes o s n
        by true m h = First c rest t m (some-is h)
        by false m h = absurd (cc)

    sent : (i : ℕ) → position (λ (p : Sent). p.transmission.due) s.sent ≡ Some i → (p : Option Sent) → slice_get s.sent i ≡ p → next_resent o s i p ≡ Some n → Goes o s n
    sent i w None t k = absurd (cc)
    sent i w (Some p) t k = Again i p t (found-passes (λ (q : Sent). q.transmission.due) s.sent i p w t) (if-some (has_room o p.command) (resent o.now s i p) n k)

    go : (w : Option ℕ) → position (λ (p : Sent). p.transmission.due) s.sent ≡ w → next_of wire o s w ≡ Some n → Goes o s n
    go None w k = head s.queued refl k
    go (Some i) w k = sent i w (slice_get s.sent i) refl k

-- what each command that a sender puts out next has, and what it leaves
member : (o : Occasion) (s : Sender) (n : Next) (P : DataCommand → Type 0) → Goes o s n → ((c : DataCommand) → Has s.queued c → P c) → ((t : Sent) → Has s.sent t → P t.command) → P n.command
member o s n P (First c rest q may is) queued sent = subst (λ (x : Next). P x.command) is (queued c (subst (λ (l : List DataCommand). Has l c) (sym q) (inl refl)))
member o s n P (Again i p there due is) queued sent = subst (λ (x : Next). P x.command) is (sent p (Has-at s.sent i p there))

pub queued-left : (o : Occasion) (s : Sender) (n : Next) (c : DataCommand) → Goes o s n → Has n.sender.queued c → Has s.queued c
queued-left o s n c (First d rest q may is) h = subst (λ (l : List DataCommand). Has l c) (sym q) (inr (subst (λ (x : Next). Has x.sender.queued c) (sym is) h))
queued-left o s n c (Again i p there due is) h = subst (λ (x : Next). Has x.sender.queued c) (sym is) h

pub sent-left : (o : Occasion) (s : Sender) (n : Next) (P : DataCommand → Type 0) → Goes o s n → ((c : DataCommand) → Has s.queued c → P c) → ((t : Sent) → Has s.sent t → P t.command) → (t : Sent) → Has n.sender.sent t → P t.command
sent-left o s n P (First c rest q may is) queued all t h = by c.reliable (subst (λ (x : Next). Has x.sender.sent t) (sym is) h)
  where
    by : (b : Bool) → Has (cond b (s.sent ++ begun o.now o.timeout c ∷ []) s.sent) t → P t.command
    by true k = elim (Has-pushed s.sent (begun o.now o.timeout c) t k) [ inl same ↦ subst (λ (x : Sent). P x.command) same (queued c (subst (λ (l : List DataCommand). Has l c) (sym q) (inl refl))) | inr old ↦ all t old ]
    by false k = all t k
sent-left o s n P (Again i p there due is) queued all t h =
    elim (Has-set s.sent i (again o.now p) t (subst (λ (x : Next). Has x.sender.sent t) (sym is) h)) [
      | inl same ↦ subst (λ (x : Sent). P x.command) same (all p (Has-at s.sent i p there))
      | inr old ↦ all t old
    ]

sum-set : {X : Type 0} (f : X → ℕ) (xs : List X) (k : ℕ) (x y : X) → slice_get xs k ≡ Some x → f y ≡ f x → sum_by f (slice_set xs k y) ≡ sum_by f xs
sum-set f [] k x y t e = absurd (cc)
sum-set f (z ∷ zs) zero x y t e =
    let it : z ≡ x = cc in
    let same : f z ≡ f x = ap f it in
    let a : sum_by f (y ∷ zs) ≡ f y + sum_by f zs = sum_by-cons f y zs in
    let b : sum_by f (z ∷ zs) ≡ f z + sum_by f zs = sum_by-cons f z zs in
    omega arith
sum-set f (z ∷ zs) (suc k) x y t e =
    let rest : sum_by f (slice_set zs k y) ≡ sum_by f zs = sum-set f zs k x y t e in
    let a : sum_by f (z ∷ slice_set zs k y) ≡ f z + sum_by f (slice_set zs k y) = sum_by-cons f z (slice_set zs k y) in
    let b : sum_by f (z ∷ zs) ≡ f z + sum_by f zs = sum_by-cons f z zs in
    omega arith

-- what an unreliable command weighs in transit, which is nothing, changes nothing
abbrev weighs : (DataCommand → ℕ) → Sent → ℕ
weighs weight p = cond p.transmission.due 0 (weight p.command)

weight-left : (weight : DataCommand → ℕ) → ((c : DataCommand) → c.reliable ≡ false → weight c ≡ 0) → (o : Occasion) (s : Sender) (n : Next) → Goes o s n → n.command.reliable ≡ false → sum_by (weighs weight) n.sender.sent ≡ sum_by (weighs weight) s.sent
weight-left weight none o s n (First c rest q may is) unreliable =
    let r : c.reliable ≡ false = ap (λ (x : Next). x.command.reliable) is ∙ unreliable in
    ap (λ (x : Next). sum_by (weighs weight) x.sender.sent) (sym is) ∙ ap (λ b. sum_by (weighs weight) (cond b (s.sent ++ begun o.now o.timeout c ∷ []) s.sent)) r
weight-left weight none o s n (Again i p there due is) unreliable =
    let r : p.command.reliable ≡ false = ap (λ (x : Next). x.command.reliable) is ∙ unreliable in
    ap (λ (x : Next). sum_by (weighs weight) x.sender.sent) (sym is) ∙ sum-set (weighs weight) s.sent i p (again o.now p) there (none p.command r ∙ sym (ap (λ b. cond b 0 (weight p.command)) due))

transit-left : (o : Occasion) (s : Sender) (n : Next) → Goes o s n → n.command.reliable ≡ false → bytes_in_transit n.sender ≡ bytes_in_transit s
transit-left o s n g unreliable = weight-left bytes_of (λ c r. ap (λ b. cond b (length c.body) 0) r) o s n g unreliable

prices-left : (o : Occasion) (s : Sender) (n : Next) → Goes o s n → n.command.reliable ≡ false → prices_in_transit n.sender ≡ prices_in_transit s
prices-left o s n g unreliable = weight-left price_of (λ c r. ap (λ b. cond b (length c.body + 28) 0) r) o s n g unreliable

-- where nothing is ready, nothing goes
none-ready : (o : Occasion) (s : Sender) → ready_at s ≤ 0 → next wire o s ≡ None
none-ready o s none = by (next wire o s) refl
  where
    by : (x : Option Next) → next wire o s ≡ x → next wire o s ≡ None
    by None e = e
    by (Some n) e = (let less = ready-next o s n e in absurd (omega arith))

due-few : (xs : List Sent) → due_count xs ≤ length xs
due-few [] = omega arith
due-few (x ∷ xs) = let rest = due-few xs in elim x.transmission.due as (λ b. cond b (due_count xs + 1) (due_count xs) ≤ suc (length xs)) [ true ↦ omega arith | false ↦ omega arith ]

-- what of it is about sizes alone
record SizesFit (pace : Pace) (o : Outbox) : Type 0 where
  fit : AreFit pace o
  sent : (i : ℕ) (s : SendingEnd) → slice_get o.senders i ≡ Some s → (p : Sent) → Has s.sender.sent p → length p.command.body + 28 ≤ pace.mtu

sizes-of : (pace : Pace) (o : Outbox) → AllFit pace o → SizesFit pace o
sizes-of pace o all = record { fit = all.fit; sent = all.sent }

-- all still fit, where a sender goes on
sender-fits : (pace : Pace) (o u : Outbox) (k : ℕ) (s new : SendingEnd) → SizesFit pace o → slice_get o.senders k ≡ Some s → u.senders ≡ slice_set o.senders k new → u.unsequenced ≡ o.unsequenced
    → ((c : DataCommand) → Has new.sender.queued c → length c.body + 28 ≤ pace.mtu) → ((t : Sent) → Has new.sender.sent t → length t.command.body + 28 ≤ pace.mtu) → SizesFit pace u
sender-fits pace o u k s new all there is same queued sent = record {
  fit = record {
    mtu = fit.mtu;
    unsequenced = λ x h. fit.unsequenced x (subst (λ xs. Has xs x) same h);
    queued = λ j y t d h. elim (get-set o.senders k j new y (subst (λ (l : List SendingEnd). slice_get l j ≡ Some y) is t)) [
      | inl w ↦ queued d (subst (λ (z : SendingEnd). Has z.sender.queued d) (sym w.1) h)
      | inr w ↦ fit.queued j y w.1 d h
    ];
  };
  sent = λ j y t d h. elim (get-set o.senders k j new y (subst (λ (l : List SendingEnd). slice_get l j ≡ Some y) is t)) [
    | inl w ↦ sent d (subst (λ (z : SendingEnd). Has z.sender.sent d) (sym w.1) h)
    | inr w ↦ all.sent j y w.1 d h
  ];
}
  where
    fit : AreFit pace o
    fit = all.fit

-- and while a datagram is filled
filled-sizes : (pace : Pace) (o : Outbox) → SizesFit pace o → SizesFit pace (filled pace o).outbox
filled-sizes pace o all = by-filling pace o (λ f. SizesFit pace f.outbox) (record {
  closes = λ f g. g;
  acknowledges = λ f a rest e g. record { fit = record { mtu = g.fit.mtu; unsequenced = g.fit.unsequenced; queued = g.fit.queued }; sent = g.sent };
  controls = λ f n e g. record { fit = record { mtu = g.fit.mtu; unsequenced = g.fit.unsequenced; queued = g.fit.queued }; sent = g.sent };
  puts_unsequenced = λ f u rest t e g. record { fit = record { mtu = g.fit.mtu; unsequenced = λ x h. g.fit.unsequenced x (subst (λ xs. Has xs x) (sym e) (inr h)); queued = g.fit.queued }; sent = g.sent };
  drops_unsequenced = λ f u rest t e g. record { fit = record { mtu = g.fit.mtu; unsequenced = λ x h. g.fit.unsequenced x (subst (λ xs. Has xs x) (sym e) (inr h)); queued = g.fit.queued }; sent = g.sent };
  puts_data = λ f k s n t there due g. sender-fits pace f.outbox (data_put f k s n (record f.outbox { throttle = t })).outbox k s (record s { sender = n.sender }) g there refl refl
      (λ c h. g.fit.queued k s there c (queued-left _ s.sender n c (goes-of _ s.sender n due) h))
      (λ x h. sent-left _ s.sender n (λ c. length c.body + 28 ≤ pace.mtu) (goes-of _ s.sender n due) (λ c j. g.fit.queued k s there c j) (λ p j. g.sent k s there p j) x h);
  drops_data = λ f k s n t there due kind g. sender-fits pace f.outbox (with_sender (record f.outbox { throttle = t }) k (record s { sender = with_skipped n.sender })) k s (record s { sender = with_skipped n.sender }) g there refl refl
      (λ c h. g.fit.queued k s there c (queued-left _ s.sender n c (goes-of _ s.sender n due) (Has-skipped n.sender.queued c h)))
      (λ x h. sent-left _ s.sender n (λ c. length c.body + 28 ≤ pace.mtu) (goes-of _ s.sender n due) (λ c j. g.fit.queued k s there c j) (λ p j. g.sent k s there p j) x h);
  keeps_room = λ f i x there wants g. record { fit = record { mtu = g.fit.mtu; unsequenced = g.fit.unsequenced; queued = g.fit.queued }; sent = g.sent };
  gives_room = λ f i x n there due g. record { fit = record { mtu = g.fit.mtu; unsequenced = g.fit.unsequenced; queued = g.fit.queued }; sent = g.sent };
}) all

pub filled-fits : (pace : Pace) (o : Outbox) → AllFit pace o → AllFit pace (filled pace o).outbox
filled-fits pace o all =
    let sizes = filled-sizes pace o (sizes-of pace o all) in
    record { fit = sizes.fit; awaited = awaited-filled pace o all.awaited; sent = sizes.sent }

-- what each sender is told, but for whether the room is kept for another channel
abbrev told_of : Pace → Outbox → Occasion
told_of pace o = record (occasion pace 0 o) { barred = false }

abbrev told_on : Occasion → Option ℕ → ℕ → Occasion
told_on told kept k = record told { barred = is_barred kept k }

-- nothing goes either, where the room is kept for another channel by now
none-barred : (told : Occasion) (s : Sender) (b : Bool) → next wire (record told { barred = false }) s ≡ None → next wire (record told { barred = b }) s ≡ None
none-barred told s false e = e
none-barred told s true e = by-place (position (λ (p : Sent). p.transmission.due) s.sent) e
  where
    shut : Occasion
    shut = record told { barred = true }

    open' : Occasion
    open' = record told { barred = false }

    by-may : (c : DataCommand) (rest : List DataCommand) (reliable span room : Bool) → cond (not reliable || (span && room)) (Some (first_sent told.now told.timeout s c rest)) None ≡ None
        → cond (not reliable || (span && false)) (Some (first_sent told.now told.timeout s c rest)) None ≡ None
    by-may c rest false span room e = e
    by-may c rest true true room e = refl
    by-may c rest true false room e = refl

    by-queue : (q : List DataCommand) → next_queued wire open' s q ≡ None → next_queued wire shut s q ≡ None
    by-queue [] e = refl
    by-queue (c ∷ rest) e = by-may c rest c.reliable (is_in_span wire s.sent c.number) (has_room open' c) e

    by-sent : (i : ℕ) (x : Option Sent) → next_resent open' s i x ≡ None → next_resent shut s i x ≡ None
    by-sent i None e = refl
    by-sent i (Some p) e = e

    by-place : (x : Option ℕ) → next_of wire open' s x ≡ None → next_of wire shut s x ≡ None
    by-place None e = by-queue s.queued e
    by-place (Some i) e = by-sent i (slice_get s.sent i) e

-- where a channel wants the room, it is kept for no other
wants-open : (o : Occasion) (s : Sender) → wants_room o s ≡ true → o.barred ≡ false
wants-open o s e = by-place (position (λ (p : Sent). p.transmission.due) s.sent) e
  where
    lacks : (c : DataCommand) → lacks_room o c ≡ true → o.barred ≡ false
    lacks c e = by o.barred (and_parts (not (has_room o c)) (not o.barred) e).1
      where
        by : (b : Bool) → not b ≡ true → b ≡ false
        by true e = sym e
        by false e = refl

    by-sent : (x : Option Sent) → due_lacks o x ≡ true → o.barred ≡ false
    by-sent None e = absurd (cc)
    by-sent (Some p) e = lacks p.command e

    by-head : (sent : List Sent) (queued : List DataCommand) → head_lacks o sent queued ≡ true → o.barred ≡ false
    by-head [] [] e = absurd (cc)
    by-head [] (c ∷ rest) e = lacks c (and_parts c.reliable (lacks_room o c) e).1
    by-head (p ∷ ps) queued e = absurd (cc)

    by-place : (x : Option ℕ) → wants_room_at o s x ≡ true → o.barred ≡ false
    by-place None e = by-head s.sent s.queued e
    by-place (Some i) e = by-sent (slice_get s.sent i) e

-- so it is for another channel just as before, or for none before
kept-before : (kept : Option ℕ) (i k : ℕ) → is_barred kept i ≡ false → (is_barred kept k ≡ is_barred (Some i) k) ⊎ (is_barred kept k ≡ false)
kept-before None i k e = inr refl
kept-before (Some c) i k e =
    let same : c ≡ i = eqb-true c i (by (c == i) e) in
    inl (ap (λ n. is_barred (Some n) k) same)
  where
    by : (b : Bool) → not b ≡ false → b ≡ true
    by true e = refl
    by false e = absurd (cc)

-- a datagram that is still empty, of an outbox whose senders are told this, with at most so many unsequenced packets
record Blank (pace : Pace) (told : Occasion) (most : ℕ) (f : Filling) : Type 0 where
  closed : f.closed ≡ false
  bytes : f.bytes ≡ pace.mtu - 4
  commands : f.commands ≡ 32
  fit : SizesFit pace f.outbox
  told_is : told_of pace f.outbox ≡ told
  few : length f.outbox.unsequenced ≤ most

-- into it each of them fits
room : (pace : Pace) (told : Occasion) (most : ℕ) (f : Filling) (m : Message) → Blank pace told most f → 576 ≤ pace.mtu → size_of m ≤ pace.mtu - 4 → fits f m ≡ true
room pace told most f m e big small =
    let bytes = e.bytes in
    let a : ltb 0 f.commands ≡ true = some f.commands e.commands in
    let b : leb (size_of m) f.bytes ≡ true = le-leb (size_of m) f.bytes (omega arith) in
    (λ i. a i && b i)
  where
    some : (n : ℕ) → n ≡ 32 → ltb 0 n ≡ true
    some n h = grind (arith, nat_tests)

-- unsequenced packets: one goes, or is dropped
unsequenced-once : (pace : Pace) (told : Occasion) (most : ℕ) (f : Filling) → Blank pace told (suc most) f → Filled (with_one_unsequenced f) ⊎ Blank pace told most (with_one_unsequenced f)
unsequenced-once pace told most f e = by f.outbox.unsequenced refl
  where
    all : SizesFit pace f.outbox
    all = e.fit

    fit : AreFit pace f.outbox
    fit = all.fit

    by : (us : List Unsequenced) → f.outbox.unsequenced ≡ us → Filled (unsequenced_step f us) ⊎ Blank pace told most (unsequenced_step f us)
    by [] is = inr (record { closed = e.closed; bytes = e.bytes; commands = e.commands; fit = e.fit; told_is = e.told_is; few = (let z : length f.outbox.unsequenced ≡ 0 = ap (λ (l : List Unsequenced). length l) is in omega arith) })
    by (u ∷ rest) is =
        let m = unsequenced_of u in
        let short = fit.unsequenced u (subst (λ xs. Has xs u) (sym is) (inl refl)) in
        let big = fit.mtu in
        let ok = room pace told (suc most) f m e big (let z = unsequenced-size u in omega arith) in
        let put : Filling = with_command f m (record (asked f.outbox) { unsequenced = rest; last = Some u.channel }) in
        let drop : Filling = record f { outbox = record (asked f.outbox) { unsequenced = rest } } in
        let left : Blank pace told most drop = record {
          closed = e.closed;
          bytes = e.bytes;
          commands = e.commands;
          fit = record {
            fit = record { mtu = fit.mtu; unsequenced = λ x h. fit.unsequenced x (subst (λ xs. Has xs x) (sym is) (inr h)); queued = fit.queued };
            sent = all.sent;
          };
          told_is = e.told_is;
          few = (let few = e.few in let z : length f.outbox.unsequenced ≡ suc (length rest) = ap (λ (l : List Unsequenced). length l) is in omega arith);
        } in
        subst (λ b. Filled (cond b (unsequenced_asked f u rest) (shut f)) ⊎ Blank pace told most (cond b (unsequenced_asked f u rest) (shut f))) (sym ok)
        (elim (is_admitted f.outbox.throttle) as (λ b. Filled (cond b put drop) ⊎ Blank pace told most (cond b put drop)) [
          | true ↦ inl (filled-with f m (record (asked f.outbox) { unsequenced = rest; last = Some u.channel }))
          | false ↦ inr left
        ])

unsequenced-all : (pace : Pace) (told : Occasion) (n : ℕ) (f : Filling) → Blank pace told n f → Filled (repeated n with_one_unsequenced f) ⊎ Blank pace told 0 (repeated n with_one_unsequenced f)
unsequenced-all pace told zero f e = inr e
unsequenced-all pace told (suc n) f e =
    subst (λ (g : Filling). Filled (repeated n with_one_unsequenced g) ⊎ Blank pace told 0 (repeated n with_one_unsequenced g)) (sym (ap (λ b. cond b f (with_one_unsequenced f)) e.closed))
    (elim (unsequenced-once pace told n f e) [
      | inl h ↦ inl (by-repeated Filled n with_one_unsequenced unsequenced-filled (with_one_unsequenced f) h)
      | inr g ↦ unsequenced-all pace told n (with_one_unsequenced f) g
    ])

-- of a channel nothing may go
abbrev Done : Pace → Occasion → ℕ → Filling → Type 0
Done pace told k f = (s : SendingEnd) → slice_get f.outbox.senders k ≡ Some s → next wire (told_on told f.outbox.kept k) s.sender ≡ None

-- a command of channel i was due, and was dropped: less is ready there, and the other channels are as before
record Dropped (pace : Pace) (told : Occasion) (i : ℕ) (f g : Filling) : Type 0 where
  blank : Blank pace told 0 g
  end : SendingEnd
  there : slice_get f.outbox.senders i ≡ Some end
  due : Next
  is_due : next wire (told_on told f.outbox.kept i) end.sender ≡ Some due
  kept : g.outbox.kept ≡ f.outbox.kept
  less : (t : SendingEnd) → slice_get g.outbox.senders i ≡ Some t → ready_at t.sender + 1 ≤ ready_at end.sender
  others : (j : ℕ) → i ≢ j → (t : SendingEnd) → slice_get g.outbox.senders j ≡ Some t → slice_get f.outbox.senders j ≡ Some t

abbrev After : Pace → Occasion → ℕ → Filling → Filling → Type 0
After pace told i f g = Filled g ⊎ (((g ≡ f) × Done pace told i f) ⊎ Dropped pace told i f g)

data-after : (pace : Pace) (told : Occasion) (i : ℕ) (f : Filling) → Blank pace told 0 f → After pace told i f (with_one_data pace i f)
data-after pace told i f e = at (slice_get f.outbox.senders i) refl
  where
    all : SizesFit pace f.outbox
    all = e.fit

    fit : AreFit pace f.outbox
    fit = all.fit

    at : (o : Option SendingEnd) → slice_get f.outbox.senders i ≡ o → After pace told i f (channel_step pace i f o)
    at None t = inr (inl (refl, λ s there. absurd (let x : Some s ≡ None = sym there ∙ t in cc)))
    at (Some s) t = subst (λ (x : Occasion). After pace told i f (due_step f i s (next wire x s.sender))) (sym (ap (λ (x : Occasion). told_on x f.outbox.kept i) e.told_is)) (due (next wire o s.sender) refl)
      where
        o : Occasion
        o = told_on told f.outbox.kept i

        due : (x : Option Next) → next wire o s.sender ≡ x → After pace told i f (due_step f i s x)
        due None is = inr (inl (refl, λ x there. (let one : Some s ≡ Some x = sym t ∙ there in let it : s ≡ x = cc in subst (λ (y : SendingEnd). next wire o y.sender ≡ None) it is)))
        due (Some n) is =
            let g = goes-of o s.sender n is in
            let big = fit.mtu in
            let short : length n.command.body + 28 ≤ pace.mtu = member o s.sender n (λ c. length c.body + 28 ≤ pace.mtu) g (λ c h. fit.queued i s t c h) (λ x h. all.sent i s t x h) in
            let ok = room pace told 0 f (message_of s.channel n.command) e big (let z = data-size s.channel n.command in omega arith) in
            subst (λ b. After pace told i f (cond b (data_step f i s n (due_kind n.command)) (shut f))) (sym ok) (kind (due_kind n.command) refl)
          where
            g : Goes o s.sender n
            g = goes-of o s.sender n is

            kind : (d : Kind) → due_kind n.command ≡ d → After pace told i f (data_step f i s n d)
            kind Reliable x = inl (filled-with f (message_of s.channel n.command) (record (with_sender (record f.outbox { kept = released f.outbox.kept i; traffic = with_one_sent f.outbox.traffic n.is_resend }) i (record s { sender = n.sender })) { last = Some i }))
            kind More x = inl (filled-with f (message_of s.channel n.command) (record (with_sender f.outbox i (record s { sender = n.sender })) { last = Some i }))
            kind Begins x = elim (is_admitted f.outbox.throttle) as (λ b. After pace told i f (cond b (data_put f i s n (asked f.outbox)) dropped)) [
              | true ↦ inl (filled-with f (message_of s.channel n.command) (record (with_sender (asked f.outbox) i (record s { sender = n.sender })) { last = Some i }))
              | false ↦ inr (inr left)
            ]
              where
                after : SendingEnd
                after = record s { sender = with_skipped n.sender }

                dropped : Filling
                dropped = record f { outbox = with_sender (asked f.outbox) i after }

                unreliable : n.command.reliable ≡ false
                unreliable = by n.command.reliable (is_more n.command) x
                  where
                    by : (r m : Bool) → cond r Reliable (cond m More Begins) ≡ Begins → r ≡ false
                    by true m h = cc
                    by false m h = refl

                transit_same : transit_of dropped.outbox ≡ transit_of f.outbox
                transit_same = sum-set (λ (z : SendingEnd). bytes_in_transit z.sender) f.outbox.senders i s after t (transit-left o s.sender n g unreliable)

                prices_same : prices_of dropped.outbox ≡ prices_of f.outbox
                prices_same = sum-set (λ (z : SendingEnd). prices_in_transit z.sender) f.outbox.senders i s after t (prices-left o s.sender n g unreliable)

                same_told : told_of pace dropped.outbox ≡ told_of pace f.outbox
                same_told = λ j. record { now = pace.now; timeout = pace.timeout; transit = transit_same j; most = transit_limit pace f.outbox; prices = prices_same j; dearest = price_limit pace f.outbox; barred = false }

                blank : Blank pace told 0 dropped
                blank = record {
                  closed = e.closed;
                  bytes = e.bytes;
                  commands = e.commands;
                  fit = sender-fits pace f.outbox dropped.outbox i s after e.fit t refl refl
                      (λ d h. fit.queued i s t d (queued-left o s.sender n d g (Has-skipped n.sender.queued d h)))
                      (λ d h. sent-left o s.sender n (λ c. length c.body + 28 ≤ pace.mtu) g (λ c k. fit.queued i s t c k) (λ p k. all.sent i s t p k) d h);
                  told_is = same_told ∙ e.told_is;
                  few = e.few;
                }

                left : Dropped pace told i f dropped
                left = record {
                  blank = blank;
                  end = s;
                  there = t;
                  due = n;
                  is_due = is;
                  kept = refl;
                  less = λ y there. (
                      let now : Some after ≡ Some y = sym (set-same f.outbox.senders i after s t) ∙ there in
                      let it : after ≡ y = cc in
                      let ready = ready-next o s.sender n is in
                      let short = skipped-length n.sender.queued in
                      let same : ready_at y.sender ≡ length (skipped n.sender.queued) + due_count n.sender.sent = ap (λ (z : SendingEnd). ready_at z.sender) (sym it) in
                      omega arith);
                  others = λ j apart y there. elim (get-set f.outbox.senders i j after y there) [ inl w ↦ absurd (apart w.0) | inr w ↦ w.1 ];
                }

-- asked often enough, a channel puts something in, or nothing of it may go
drains : (pace : Pace) (told : Occasion) (k n : ℕ) (f : Filling) → Blank pace told 0 f → ((s : SendingEnd) → slice_get f.outbox.senders k ≡ Some s → ready_at s.sender ≤ n)
    → Filled (repeated n (with_one_data pace k) f) ⊎ (Blank pace told 0 (repeated n (with_one_data pace k) f) × Done pace told k (repeated n (with_one_data pace k) f))
drains pace told k zero f e few = inr (e, λ s there. none-ready (told_on told f.outbox.kept k) s.sender (few s there))
drains pace told k (suc n) f e few =
    subst (λ (g : Filling). Rests (repeated n (with_one_data pace k) g)) (sym (ap (λ b. cond b f (with_one_data pace k f)) e.closed))
    (elim (data-after pace told k f e) [
      | inl h ↦ inl (channel-filled pace k n (with_one_data pace k f) h)
      | inr (inl idle) ↦ subst (λ (g : Filling). Rests g) (sym (ap (repeated n (with_one_data pace k)) idle.0 ∙ repeated-idle n (with_one_data pace k) f e.closed idle.0)) (inr (e, idle.1))
      | inr (inr d) ↦ drains pace told k n (with_one_data pace k f) d.blank (λ s there. (let less = d.less s there in let all = few d.end d.there in omega arith))
    ])
  where
    Rests : Filling → Type 0
    Rests g = Filled g ⊎ (Blank pace told 0 g × Done pace told k g)

-- another channel, whether or not nothing of the one may go
abbrev Going : Pace → Occasion → Filling → Type 0
Going pace told f = Filled f ⊎ Blank pace told 0 f

abbrev Gone : Pace → Occasion → ℕ → Filling → Type 0
Gone pace told k f = Filled f ⊎ (Blank pace told 0 f × Done pace told k f)

going-step : (pace : Pace) (told : Occasion) (i : ℕ) (f : Filling) → Going pace told f → Going pace told (with_one_data pace i f)
going-step pace told i f (inl h) = inl (data-filled pace i f h)
going-step pace told i f (inr e) = elim (data-after pace told i f e) [
  | inl h ↦ inl h
  | inr (inl idle) ↦ inr (subst (λ (g : Filling). Blank pace told 0 g) (sym idle.0) e)
  | inr (inr d) ↦ inr d.blank
]

gone-step : (pace : Pace) (told : Occasion) (k i : ℕ) (f : Filling) → Gone pace told k f → Gone pace told k (with_one_data pace i f)
gone-step pace told k i f (inl h) = inl (data-filled pace i f h)
gone-step pace told k i f (inr (e, none)) = elim (data-after pace told i f e) [
  | inl h ↦ inl h
  | inr (inl idle) ↦ inr (subst (λ (g : Filling). Blank pace told 0 g × Done pace told k g) (sym idle.0) (e, none))
  | inr (inr d) ↦ elim (same-number i k) [
    | inl same ↦ absurd (
        let due : next wire (told_on told f.outbox.kept k) d.end.sender ≡ Some d.due = ap (λ j. next wire (told_on told f.outbox.kept j) d.end.sender) (sym same) ∙ d.is_due in
        let z : Some d.due ≡ None = sym due ∙ none d.end (subst (λ j. slice_get f.outbox.senders j ≡ Some d.end) same d.there) in cc)
    | inr apart ↦ inr (d.blank, λ s there. ap (λ (c : Option ℕ). next wire (told_on told c k) s.sender) d.kept ∙ none s (d.others k apart s there))
  ]
]

-- the end of a turn
blank-kept : (pace : Pace) (told : Occasion) (f : Filling) (c : Option ℕ) → Blank pace told 0 f → Blank pace told 0 (record f { outbox = record f.outbox { kept = c } })
blank-kept pace told f c e = record {
  closed = e.closed;
  bytes = e.bytes;
  commands = e.commands;
  fit = (let g = e.fit in record { fit = record { mtu = g.fit.mtu; unsequenced = g.fit.unsequenced; queued = g.fit.queued }; sent = g.sent });
  told_is = e.told_is;
  few = e.few;
}

going-turn : (pace : Pace) (told : Occasion) (i : ℕ) (f : Filling) → Going pace told f → Going pace told (with_channel pace f i)
going-turn pace told i f g =
    let h : Filling = repeated (channel_turns f.outbox i) (with_one_data pace i) f in
    let a : Going pace told h = by-repeated (Going pace told) (channel_turns f.outbox i) (with_one_data pace i) (going-step pace told i) f g in
    by-turn_end pace i (Going pace told) f h (λ s there wants. elim a [ inl some ↦ inl some | inr e ↦ inr (blank-kept pace told h (Some i) e) ]) a

gone-end : (pace : Pace) (told : Occasion) (k i : ℕ) (f h : Filling) → Gone pace told k h → Gone pace told k (turn_ended pace i f h)
gone-end pace told k i f h a = by-turn_end pace i (Gone pace told k) f h (λ s there wants. elim a [
  | inl some ↦ inl some
  | inr w ↦ inr (
    blank-kept pace told h (Some i) w.0,
    λ t at. (
        let e = w.0 in
        let told_is = e.told_is in
        elim (kept-before h.outbox.kept i k (wants-open (occasion pace i h.outbox) s.sender wants)) [
          | inl same ↦ ap (λ (b : Bool). next wire (record told { barred = b }) t.sender) (sym same) ∙ w.1 t at
          | inr open' ↦ none-barred told t.sender (is_barred (Some i) k) (ap (λ (b : Bool). next wire (record told { barred = b }) t.sender) (sym open') ∙ w.1 t at)
        ]),
  )
]) a

gone-turn : (pace : Pace) (told : Occasion) (k i : ℕ) (f : Filling) → Gone pace told k f → Gone pace told k (with_channel pace f i)
gone-turn pace told k i f g =
    gone-end pace told k i f (repeated (channel_turns f.outbox i) (with_one_data pace i) f) (by-repeated (Gone pace told k) (channel_turns f.outbox i) (with_one_data pace i) (gone-step pace told k i) f g)

order-gone : (pace : Pace) (told : Occasion) (k : ℕ) (order : List ℕ) (f : Filling) → Gone pace told k f → Gone pace told k (with_channels pace order f)
order-gone pace told k [] f g = g
order-gone pace told k (i ∷ rest) f g =
    order-gone pace told k rest (with_channel pace f i) (gone-turn pace told k i f g)

order-reaches : (pace : Pace) (told : Occasion) (k : ℕ) (order : List ℕ) (f : Filling) → Has order k → Going pace told f → Gone pace told k (with_channels pace order f)
order-reaches pace told k [] f h g = absurd h
order-reaches pace told k (i ∷ rest) f h (inl filled') = inl (order-filled pace (i ∷ rest) f filled')
order-reaches pace told k (i ∷ rest) f (inr h) (inr e) =
    order-reaches pace told k rest (with_channel pace f i) h (going-turn pace told i f (inr e))
order-reaches pace told k (i ∷ rest) f (inl same) (inr e) =
    order-gone pace told k rest (with_channel pace f i)
    (subst (λ j. Gone pace told k (with_channel pace f j)) (sym same) (gone-end pace told k k f (repeated (channel_turns f.outbox k) (with_one_data pace k) f) (drains pace told k (channel_turns f.outbox k) f e turns)))
  where
    turns : (s : SendingEnd) → slice_get f.outbox.senders k ≡ Some s → ready_at s.sender ≤ channel_turns f.outbox k
    turns s there =
        let is : channel_turns f.outbox k ≡ length s.sender.queued + length s.sender.sent = ap turns_of there in
        let few = due-few s.sender.sent in
        omega arith

-- so where nothing is put in, nothing may go
pub nothing-may-go : (pace : Pace) (o : Outbox) → AllFit pace o → (filled pace o).messages ≡ [] → NothingMayGo pace (filled pace o).outbox
nothing-may-go pace o fit none = record {
  acknowledgements = rests.0;
  controls = rests.1;
  unsequenced = no-unsequenced o.senders refl;
  channels = channels;
}
  where
    f0 : Filling
    f0 = empty_datagram pace o

    big : 576 ≤ pace.mtu
    big = fit.fit.mtu

    no-answers : o.acknowledgements ≡ []
    no-answers = none-waits pace o big none

    no-controls : controlling.next pace.now pace.timeout o.control ≡ None
    no-controls = nothing-left pace o big none

    rests : ((filled pace o).outbox.acknowledgements ≡ []) × (controlling.next pace.now pace.timeout (filled pace o).outbox.control ≡ None)
    rests = by-filling pace o (λ f. (f.outbox.acknowledgements ≡ []) × (controlling.next pace.now pace.timeout f.outbox.control ≡ None)) (record {
      closes = λ f g. g;
      acknowledges = λ f a rest e g. absurd (let z : a ∷ rest ≡ [] = sym e ∙ g.0 in cc);
      controls = λ f n e g. absurd (let z : Some n ≡ None = sym e ∙ g.1 in cc);
      puts_unsequenced = λ f u rest t e g. g;
      drops_unsequenced = λ f u rest t e g. g;
      puts_data = λ f k s n t there due g. g;
      drops_data = λ f k s n t there due kind g. g;
      keeps_room = λ f i x there wants g. g;
      gives_room = λ f i x n there due g. g;
    }) (no-answers, no-controls)

    -- the first two stages put nothing in
    begins : with_controls pace (with_acknowledgements f0) ≡ f0
    begins =
        ap (with_controls pace) (ap (λ (l : List Acknowledgement). repeated (length l) with_one_acknowledgement f0) no-answers)
        ∙ repeated-idle (control_turns o) (with_one_control pace) f0 refl (ap (control_step f0) no-controls)

    f3 : Filling
    f3 = with_unsequenced f0

    going : Going pace (told_of pace o) f3
    going = unsequenced-all pace (told_of pace o) (length o.unsequenced) f0 (record { closed = refl; bytes = refl; commands = refl; fit = sizes-of pace o fit; told_is = refl; few = omega arith })

    is : filled pace o ≡ with_channels pace (turn_order o) f3
    is = ap (λ (f : Filling). with_channels pace (turn_order o) (with_unsequenced f)) begins

    empty : Filled (with_channels pace (turn_order o) f3) → ⊥
    empty h = subst (λ (l : List Message). Has l h.0) (ap (λ (f : Filling). f.messages) (sym is) ∙ none) h.1

    gone : (k : ℕ) → k < length o.senders → Blank pace (told_of pace o) 0 (filled pace o) × Done pace (told_of pace o) k (filled pace o)
    gone k low = subst (λ (f : Filling). Blank pace (told_of pace o) 0 f × Done pace (told_of pace o) k f) (sym is)
        (by (order-reaches pace (told_of pace o) k (turn_order o) f3 (in-order (unwrap_or (option_map (λ channel. channel + 1) o.last) 0) (length o.senders) k low) going))
      where
        by : Gone pace (told_of pace o) k (with_channels pace (turn_order o) f3) → Blank pace (told_of pace o) 0 (with_channels pace (turn_order o) f3) × Done pace (told_of pace o) k (with_channels pace (turn_order o) f3)
        by (inl h) = absurd (empty h)
        by (inr h) = h

    nil : (us : List Unsequenced) → length us ≤ 0 → us ≡ []
    nil [] h = refl
    nil (u ∷ us) h = absurd (omega arith)

    no-unsequenced : (xs : List SendingEnd) → o.senders ≡ xs → (filled pace o).outbox.unsequenced ≡ []
    no-unsequenced [] e = ap (λ (f : Filling). f.outbox.unsequenced) alone ∙ left going
      where
        alone : filled pace o ≡ f3
        alone = is ∙ ap (λ (l : List SendingEnd). with_channels pace (turn_order (record o { senders = l })) f3) e

        left : Going pace (told_of pace o) f3 → f3.outbox.unsequenced ≡ []
        left (inl h) = absurd (empty (order-filled pace (turn_order o) f3 h))
        left (inr b) = nil f3.outbox.unsequenced b.few
    no-unsequenced (x ∷ xs) e = (let g = gone 0 (let z : length o.senders ≡ suc (length xs) = ap (λ (l : List SendingEnd). length l) e in omega arith) in nil (filled pace o).outbox.unsequenced g.0.few)

    below : (k : ℕ) (s : SendingEnd) → slice_get (filled pace o).outbox.senders k ≡ Some s → k < length o.senders
    below k s = by-filling pace o (λ f. (x : SendingEnd) → slice_get f.outbox.senders k ≡ Some x → k < length o.senders) (record {
      closes = λ f g. g;
      acknowledges = λ f a rest e g. g;
      controls = λ f n e g. g;
      puts_unsequenced = λ f u rest t e g. g;
      drops_unsequenced = λ f u rest t e g. g;
      puts_data = λ f i y n t there due g x h. elim (get-set f.outbox.senders i k (record y { sender = n.sender }) x h) [ inl w ↦ g y (subst (λ j. slice_get f.outbox.senders j ≡ Some y) w.0 there) | inr w ↦ g x w.1 ];
      drops_data = λ f i y n t there due kind g x h. elim (get-set f.outbox.senders i k (record y { sender = with_skipped n.sender }) x h) [ inl w ↦ g y (subst (λ j. slice_get f.outbox.senders j ≡ Some y) w.0 there) | inr w ↦ g x w.1 ];
      keeps_room = λ f i y there wants g. g;
      gives_room = λ f i y n there due g. g;
    }) (λ x h. below-length o.senders k x h) s

    channels : (k : ℕ) (s : SendingEnd) → slice_get (filled pace o).outbox.senders k ≡ Some s → next wire (occasion pace k (filled pace o).outbox) s.sender ≡ None
    channels k s there =
        let g = gone k (below k s there) in
        let b = g.0 in
        ap (λ (x : Occasion). next wire (told_on x (filled pace o).outbox.kept k) s.sender) b.told_is ∙ g.1 s there
