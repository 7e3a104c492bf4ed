-- The channel that the room in transit is kept for has something that may wait for room, whatever is called.
use Rattle.std.proofs.Common.{◌≡◌, ◌≢◌, ℕ, zero, suc, ◌==◌, ◌||◌, ◌⊎◌, inl, inr, Bool, true, false, cond, List, [], ◌∷◌, ◌++◌, map, take, refl, sym, ap, subst, ◌∙◌, Option, Some, None, is_some, slice_set, All}
use Rattle.std.specs.List.{list_any, position, range_with_len, slice_get}
use Rattle.std.proofs.lemmas.Bool.{and_parts, cases_eq, eq-eqb, eqb-false}
use Rattle.std.proofs.lemmas.List.Elements.{All-nil, All-head, All-tail, All-push, All-set, All-map}
use Rattle.enet_seq.specs.Numbering.{wire}
use Rattle.enet_rtt.specs.declared.transmission.Tick.{Tick}
use Rattle.enet_rtt.specs.Transmission as transmission
use Rattle.enet_throttle.specs.Throttle.{Throttling}
use Rattle.enet_fragment.specs.declared.data.DataCommand.{DataCommand}
use Rattle.enet_sender.specs.declared.sent.Sent.{Sent}
use Rattle.enet_sender.specs.declared.outgoing.Occasion.{Occasion}
use Rattle.enet_sender.specs.CommandChoice.{Packet}
use Rattle.enet_sender.specs.Sender.{Sender, Next, again, awaits_room, awaits_room_with, begins_reliable, begun, first_sent, has_room, head_lacks, is_late, lacks_room, marked, may_go, next, next_of, next_queued, next_resent, position_of, resent, wants_room, wants_room_at, with_skipped, without_place}
use Rattle.enet_sender.specs.Sender as sender
use Rattle.enet_sender.specs.Due.{SendingEnd, new_end}
use Rattle.enet_sender.proofs.Rounds.{any-position}
use Rattle.enet_senders.proofs.Sets.{All-remove, get-set}
use Rattle.enet_outbox.specs.declared.parts.Pace.{Pace}
use Rattle.enet_outbox.specs.Outbox.{Outbox, acknowledged_on, after_acknowledgement, cleared, cleared_sender, empty_outbox, is_unsequenced, marked_sender, narrowed, released, still_kept, submitted, with_sequenced, with_unsequenced}
use Rattle.enet_outbox.specs.Outbox as outbox
use Rattle.enet_outbox.specs.Emission.{Filling, filled, occasion}
use Rattle.enet_outbox.specs.Room.{AwaitsRoom, IsAwaited, IsSentReliable, RoomIsAwaited}
use Rattle.enet_outbox.proofs.Filled.{by-filling-knowing}
use Rattle.enet_outbox.proofs.Turns.{by-next, if-goes}

abbrev is_due : Sent → Bool
is_due p = p.transmission.due

abbrev IsReliable : Sent → Type 0
IsReliable p = p.command.reliable ≡ true

all-at : {X : Type 0} (P : X → Type 0) (xs : List X) (i : ℕ) (x : X) → All P xs → slice_get xs i ≡ Some x → P x
all-at P [] i x h e = absurd (cc)
all-at P (y ∷ xs) zero x h e = let same : y ≡ x = cc in subst P same (All-head P y xs h)
all-at P (y ∷ xs) (suc i) x h e = all-at P xs i x (All-tail P y xs h) e

-- a list in which one place was set
set-read : {X : Type 0} (xs : List X) (i j : ℕ) (x y : X) → slice_get (slice_set xs i x) j ≡ Some y → (x ≡ y) ⊎ (slice_get xs j ≡ Some y)
set-read [] i j x y e = inr e
set-read (z ∷ zs) zero zero x y e = inl (cc)
set-read (z ∷ zs) zero (suc j) x y e = inr e
set-read (z ∷ zs) (suc i) zero x y e = inr e
set-read (z ∷ zs) (suc i) (suc j) x y e = set-read zs i j x y e

set-other : {X : Type 0} (xs : List X) (i j : ℕ) (x y : X) → i ≢ j → slice_get xs j ≡ Some y → slice_get (slice_set xs i x) j ≡ Some y
set-other [] i j x y apart e = e
set-other (z ∷ zs) zero zero x y apart e = absurd (apart refl)
set-other (z ∷ zs) zero (suc j) x y apart e = e
set-other (z ∷ zs) (suc i) zero x y apart e = e
set-other (z ∷ zs) (suc i) (suc j) x y apart e = set-other zs i j x y (λ f. apart (ap suc f)) e

-- a list of which each element changed
map-read : {X Y : Type 0} (f : X → Y) (xs : List X) (i : ℕ) (y : Y) → slice_get (map f xs) i ≡ Some y → (x : X) × (slice_get xs i ≡ Some x) × (f x ≡ y)
map-read f [] i y e = absurd (cc)
map-read f (x ∷ xs) zero y e = (x, refl, (cc))
map-read f (x ∷ xs) (suc i) y e = map-read f xs i y e

map-there : {X Y : Type 0} (f : X → Y) (xs : List X) (i : ℕ) (x : X) → slice_get xs i ≡ Some x → slice_get (map f xs) i ≡ Some (f x)
map-there f [] i x e = absurd (cc)
map-there f (y ∷ xs) zero x e = let same : y ≡ x = cc in ap (λ z. Some (f z)) same
map-there f (y ∷ xs) (suc i) x e = map-there f xs i x e

take-read : {X : Type 0} (n : ℕ) (xs : List X) (i : ℕ) (x : X) → slice_get (take n xs) i ≡ Some x → slice_get xs i ≡ Some x
take-read zero [] i x e = absurd (cc)
take-read zero (y ∷ xs) i x e = absurd (cc)
take-read (suc n) [] i x e = e
take-read (suc n) (y ∷ xs) zero x e = e
take-read (suc n) (y ∷ xs) (suc i) x e = take-read n xs i x e

-- ---- one channel

-- where the room is to be kept for it, something of it may wait for room
pub wants-awaits : (o : Occasion) (s : Sender) → wants_room o s ≡ true → awaits_room s ≡ true
wants-awaits o s e = by-place (position is_due s.sent) refl e
  where
    by-due : (sent : List Sent) → list_any is_due sent ≡ true → awaits_room_with sent s.queued ≡ true
    by-due [] e = absurd (cc)
    by-due (p ∷ ps) e = e

    by-head : (sent : List Sent) (queued : List DataCommand) → head_lacks o sent queued ≡ true → awaits_room_with sent queued ≡ true
    by-head [] [] e = absurd (cc)
    by-head [] (c ∷ rest) e = (and_parts c.reliable (lacks_room o c) e).0
    by-head (p ∷ ps) queued e = absurd (cc)

    by-place : (x : Option ℕ) → position is_due s.sent ≡ x → wants_room_at o s x ≡ true → awaits_room s ≡ true
    by-place None found e = by-head s.sent s.queued e
    by-place (Some i) found e = by-due s.sent (any-position is_due s.sent ∙ ap is_some found)

-- what is next where something may wait for room is reliable
pub awaited-next : (o : Occasion) (s : Sender) (n : Next) → awaits_room s ≡ true → IsSentReliable s.sent → next wire o s ≡ Some n → n.command.reliable ≡ true
awaited-next o s n waits sent e = by-place (position is_due s.sent) refl e
  where
    begins : (ps : List Sent) → position is_due ps ≡ None → awaits_room_with ps s.queued ≡ true → begins_reliable s.queued ≡ true
    begins [] none h = h
    begins (p ∷ ps) none h = absurd (let f : true ≡ false = sym h ∙ any-position is_due (p ∷ ps) ∙ ap is_some none in cc)

    by-queue : (queued : List DataCommand) → begins_reliable queued ≡ true → next_queued wire o s queued ≡ Some n → n.command.reliable ≡ true
    by-queue [] h e = absurd (cc)
    by-queue (c ∷ rest) h e = if-goes (λ (m : Next). m.command.reliable ≡ true) (may_go wire s.sent o c) (first_sent o.now o.timeout s c rest) n (λ goes. h) e

    by-sent : (i : ℕ) (x : Option Sent) → slice_get s.sent i ≡ x → next_resent o s i x ≡ Some n → n.command.reliable ≡ true
    by-sent i None is e = absurd (cc)
    by-sent i (Some p) is e = if-goes (λ (m : Next). m.command.reliable ≡ true) (has_room o p.command) (resent o.now s i p) n (λ room. all-at IsReliable s.sent i p sent is) e

    by-place : (x : Option ℕ) → position is_due s.sent ≡ x → next_of wire o s x ≡ Some n → n.command.reliable ≡ true
    by-place None found e = by-queue s.queued (begins s.sent found waits) e
    by-place (Some i) found e = by-sent i (slice_get s.sent i) refl e

-- what goes is sent then only if it is reliable
next-reliable : (o : Occasion) (s : Sender) (n : Next) → IsSentReliable s.sent → next wire o s ≡ Some n → IsSentReliable n.sender.sent
next-reliable o s n h e =
    by-next (λ (m : Next). IsSentReliable m.sender.sent) wire o s n
    (λ c rest is goes. first c c.reliable refl)
    (λ i p there due room. All-set IsReliable s.sent i (again o.now p) (all-at IsReliable s.sent i p h there) h) e
  where
    first : (c : DataCommand) (b : Bool) → c.reliable ≡ b → IsSentReliable (cond b (s.sent ++ begun o.now o.timeout c ∷ []) s.sent)
    first c true is = All-push IsReliable s.sent (begun o.now o.timeout c) h is
    first c false is = h

without-reliable : (sent : List Sent) (x : Option ℕ) → IsSentReliable sent → IsSentReliable (without_place sent x)
without-reliable sent None h = h
without-reliable sent (Some i) h = All-remove IsReliable sent i h

-- more that is queued doesn't come first
awaits-more : (sent : List Sent) (queued more : List DataCommand) → awaits_room_with sent queued ≡ true → awaits_room_with sent (queued ++ more) ≡ true
awaits-more [] [] more e = absurd (cc)
awaits-more [] (c ∷ rest) more e = e
awaits-more (p ∷ ps) queued more e = e

-- what is due to go again stays so
due-marked : (tick : Tick) (p : Sent) → p.transmission.due ≡ true → (marked tick p).transmission.due ≡ true
due-marked tick p e = by (is_late tick.now p)
  where
    by : (b : Bool) → (cond b (record p.transmission { timeout = transmission.next_time tick p.transmission; due = true }) p.transmission).due ≡ true
    by true = refl
    by false = e

any-marked : (tick : Tick) (sent : List Sent) → list_any is_due sent ≡ true → list_any is_due (map (marked tick) sent) ≡ true
any-marked tick [] e = e
any-marked tick (p ∷ ps) e = by p.transmission.due refl e (λ h. any-marked tick ps h)
  where
    or_true : (b : Bool) → (b || true) ≡ true
    or_true true = refl
    or_true false = refl

    by : (b : Bool) → p.transmission.due ≡ b → (b || list_any is_due ps) ≡ true → (list_any is_due ps ≡ true → list_any is_due (map (marked tick) ps) ≡ true)
        → ((marked tick p).transmission.due || list_any is_due (map (marked tick) ps)) ≡ true
    by true is e rest = ap (λ (b : Bool). b || list_any is_due (map (marked tick) ps)) (due-marked tick p is)
    by false is e rest = ap (λ (b : Bool). (marked tick p).transmission.due || b) (rest e) ∙ or_true (marked tick p).transmission.due

awaits-marked : (tick : Tick) (sent : List Sent) (queued : List DataCommand) → awaits_room_with sent queued ≡ true → awaits_room_with (map (marked tick) sent) queued ≡ true
awaits-marked tick [] queued e = e
awaits-marked tick (p ∷ ps) queued e = any-marked tick (p ∷ ps) e

-- ---- all channels, of which one changes

reliable-set : (senders : List SendingEnd) (k : ℕ) (t : SendingEnd) → ((i : ℕ) (s : SendingEnd) → slice_get senders i ≡ Some s → IsSentReliable s.sender.sent) → IsSentReliable t.sender.sent
    → (i : ℕ) (s : SendingEnd) → slice_get (slice_set senders k t) i ≡ Some s → IsSentReliable s.sender.sent
reliable-set senders k t h one i s there = elim (set-read senders k i t s there) [
  | inl same ↦ subst (λ (x : SendingEnd). IsSentReliable x.sender.sent) same one
  | inr was ↦ h i s was
]

-- the one for which the room is kept is that one, or another
awaits-set : (senders : List SendingEnd) (kept : Option ℕ) (k : ℕ) (s t : SendingEnd) → slice_get senders k ≡ Some s → (kept ≡ Some k → awaits_room s.sender ≡ true → awaits_room t.sender ≡ true)
    → AwaitsRoom senders kept → AwaitsRoom (slice_set senders k t) kept
awaits-set senders None k s t there stays h = tt
awaits-set senders (Some c) k s t there stays h = elim (cases_eq c k) [
  | inl same ↦
      let e : Some h.0 ≡ Some s = sym h.1 ∙ ap (slice_get senders) same ∙ there in
      let is : h.0 ≡ s = cc in
      (t, ap (slice_get (slice_set senders k t)) same ∙ get-set senders k s t there, stays (ap (λ n. Some n) same) (subst (λ (x : SendingEnd). awaits_room x.sender ≡ true) is h.2))
  | inr other ↦ (h.0, set-other senders k c t h.0 (λ e. other (sym e)) h.1, h.2)
]

-- it is kept for this one no longer
awaits-released : (senders : List SendingEnd) (kept : Option ℕ) (k : ℕ) (t : SendingEnd) → AwaitsRoom senders kept → AwaitsRoom (slice_set senders k t) (released kept k)
awaits-released senders None k t h = tt
awaits-released senders (Some c) k t h = by (c == k) refl
  where
    by : (b : Bool) → (c == k) ≡ b → AwaitsRoom (slice_set senders k t) (cond b None (Some c))
    by true e = tt
    by false e = let apart : c ≢ k = eqb-false c k e in (h.0, set-other senders k c t h.0 (λ e. apart (sym e)) h.1, h.2)

awaits-none : (senders : List SendingEnd) (kept : Option ℕ) (k : ℕ) → AwaitsRoom senders kept → AwaitsRoom senders (released kept k)
awaits-none senders None k h = tt
awaits-none senders (Some c) k h = by (c == k)
  where
    by : (b : Bool) → AwaitsRoom senders (cond b None (Some c))
    by true = tt
    by false = h

-- ---- what is called

pub awaited-new : (channels : ℕ) → IsAwaited (map new_end (range_with_len 0 channels)) None
awaited-new channels = record {
  reliable = λ i s there.
      let m = map-read new_end (range_with_len 0 channels) i s there in
      subst (λ (x : SendingEnd). IsSentReliable x.sender.sent) m.2 (All-nil IsReliable);
  awaits = tt;
}

pub awaited-empty : (channels number : ℕ) (t : Throttling) → RoomIsAwaited (empty_outbox channels number t)
awaited-empty channels number t = awaited-new channels

pub awaited-submitted : (o : Outbox) (mtu channel : ℕ) (q : Packet) → RoomIsAwaited o → RoomIsAwaited (submitted o mtu channel q)
awaited-submitted o mtu channel q h = by (is_unsequenced mtu q)
  where
    on : (x : Option SendingEnd) → slice_get o.senders channel ≡ x → RoomIsAwaited (with_sequenced o mtu channel q x)
    on None there = h
    on (Some s) there =
        let t : SendingEnd = record s { sender = sender.submitted wire mtu s.sender q } in
        record {
          reliable = reliable-set o.senders channel t h.reliable (h.reliable channel s there);
          awaits = awaits-set o.senders o.kept channel s t there (λ is waits. awaits-more s.sender.sent s.sender.queued _ waits) h.awaits;
        }

    by : (b : Bool) → RoomIsAwaited (cond b (with_unsequenced o channel q) (with_sequenced o mtu channel q (slice_get o.senders channel)))
    by true = h
    by false = on (slice_get o.senders channel) refl

pub awaited-on : (o : Outbox) (channel number : ℕ) (x : Option SendingEnd) → slice_get o.senders channel ≡ x → RoomIsAwaited o → RoomIsAwaited (acknowledged_on o channel number x)
awaited-on o channel number None there h = h
awaited-on o channel number (Some s) there h =
    let t : SendingEnd = record s { sender = sender.after_acknowledgement s.sender number } in
    record {
      reliable = reliable-set o.senders channel t h.reliable (without-reliable s.sender.sent (position_of number s.sender.sent) (h.reliable channel s there));
      awaits = kept t (awaits_room t.sender) refl;
    }
  where
    kept : (t : SendingEnd) (b : Bool) → awaits_room t.sender ≡ b → AwaitsRoom (slice_set o.senders channel t) (cond b o.kept (released o.kept channel))
    kept t true e = awaits-set o.senders o.kept channel s t there (λ is waits. e) h.awaits
    kept t false e = awaits-released o.senders o.kept channel t h.awaits

pub awaited-acknowledged : (o : Outbox) (channel number : ℕ) → RoomIsAwaited o → RoomIsAwaited (after_acknowledgement o channel number)
awaited-acknowledged o channel number h = by (channel == 0xFF)
  where
    by : (b : Bool) → RoomIsAwaited (cond b (record o { control = Rattle.enet_senders.specs.Controlling.after_acknowledgement o.control number }) (acknowledged_on o channel number (slice_get o.senders channel)))
    by true = h
    by false = awaited-on o channel number (slice_get o.senders channel) refl h

pub awaited-marked : (o : Outbox) (tick : Tick) → RoomIsAwaited o → RoomIsAwaited (outbox.marked o tick)
awaited-marked o tick h = record {
  reliable = λ i s there.
      let m = map-read (marked_sender tick) o.senders i s there in
      subst (λ (x : SendingEnd). IsSentReliable x.sender.sent) m.2 (All-map IsReliable (marked tick) m.0.sender.sent (h.reliable i m.0 m.1));
  awaits = by o.kept h.awaits;
}
  where
    by : (kept : Option ℕ) → AwaitsRoom o.senders kept → AwaitsRoom (map (marked_sender tick) o.senders) kept
    by None h = tt
    by (Some c) h = (marked_sender tick h.0, map-there (marked_sender tick) o.senders c h.0 h.1, awaits-marked tick h.0.sender.sent h.0.sender.queued h.2)

pub awaited-cleared : (o : Outbox) → RoomIsAwaited (cleared o)
awaited-cleared o = record {
  reliable = λ i s there.
      let m = map-read cleared_sender o.senders i s there in
      subst (λ (x : SendingEnd). IsSentReliable x.sender.sent) m.2 (All-nil IsReliable);
  awaits = tt;
}

pub awaited-narrowed : (o : Outbox) (channels : ℕ) → RoomIsAwaited o → RoomIsAwaited (narrowed o channels)
awaited-narrowed o channels h = record { reliable = λ i s there. h.reliable i s (take-read channels o.senders i s there); awaits = tt }

-- a command goes: where the room was kept for its channel, that command is reliable
awaits-put : (senders : List SendingEnd) (kept : Option ℕ) (k : ℕ) (s t : SendingEnd) (o : Occasion) (n : Next) → slice_get senders k ≡ Some s → next wire o s.sender ≡ Some n → IsSentReliable s.sender.sent
    → (n.command.reliable ≡ true → released kept k ≡ kept) → AwaitsRoom senders kept → AwaitsRoom (slice_set senders k t) kept
awaits-put senders kept k s t o n there goes reliable free h =
    awaits-set senders kept k s t there
    (λ is waits.
    let gone : released (Some k) k ≡ Some k = ap (λ (x : Option ℕ). released x k) (sym is) ∙ free (awaited-next o s.sender n waits reliable goes) ∙ is in
    let none : released (Some k) k ≡ None = ap (λ (b : Bool). cond b None (Some k)) (eq-eqb k k refl) in
    absurd (cc)) h

pub awaited-filled : (pace : Pace) (o : Outbox) → RoomIsAwaited o → RoomIsAwaited (filled pace o).outbox
awaited-filled pace o h = by-filling-knowing pace o (λ (f : Filling). RoomIsAwaited f.outbox) (record {
  closes = λ f a. a;
  acknowledges = λ f x rest e a. a;
  controls = λ f n e a. a;
  puts_unsequenced = λ f u rest t e a. a;
  drops_unsequenced = λ f u rest t e a. a;
  puts_data = λ f k s n t there due free a. record {
    reliable = reliable-set f.outbox.senders k (record s { sender = n.sender }) a.reliable (next-reliable _ s.sender n (a.reliable k s there) due);
    awaits = awaits-put f.outbox.senders f.outbox.kept k s (record s { sender = n.sender }) _ n there due (a.reliable k s there) free a.awaits;
  };
  drops_data = λ f k s n t there due unreliable a. record {
    reliable = reliable-set f.outbox.senders k (record s { sender = with_skipped n.sender }) a.reliable (next-reliable _ s.sender n (a.reliable k s there) due);
    awaits = awaits-put f.outbox.senders f.outbox.kept k s (record s { sender = with_skipped n.sender }) _ n there due (a.reliable k s there) (λ reliable. absurd (cc)) a.awaits;
  };
  keeps_room = λ f k s there wants a. record { reliable = a.reliable; awaits = (s, there, wants-awaits (occasion pace k f.outbox) s.sender wants) };
  gives_room = λ f k s n there due a. record { reliable = a.reliable; awaits = awaits-none f.outbox.senders f.outbox.kept k a.awaits };
}) h
