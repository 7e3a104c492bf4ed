-- One channel's sender among those of its peer, turn by turn.
use Rattle.std.proofs.Common.{◌≡◌, ℕ, ◌+◌, ◌<◌, ◌≤◌, ◌⊎◌, inl, inr, List, length, get_or, Option, Some, None, refl, sym, ap, subst, ◌∙◌, ◌==◌, arith, Bool, not, ◌||◌, true, false, cond, slice_set}
use Rattle.std.specs.List.{slice_get}
use Rattle.std.proofs.lemmas.List.{length-set}
use Rattle.std.proofs.lemmas.Option.{slice_get-get_or}
use Rattle.enet_seq.specs.Numbering.{wire}
use Rattle.enet_sender.specs.declared.outgoing.Due.{Due}
use Rattle.enet_sender.specs.declared.outgoing.Due.TheVariants as due
use Rattle.enet_sender.specs.declared.outgoing.Kind.{Kind}
use Rattle.enet_sender.specs.declared.outgoing.Kind.TheVariants as kind
use Rattle.enet_sender.specs.declared.outgoing.Occasion.{Occasion}
use Rattle.enet_sender.specs.Sender.{next, wants_room, with_skipped}
use Rattle.enet_sender.specs.Due.{SendingEnd, new_end, Did}
use Rattle.enet_outbox.specs.declared.parts.Pace.{Pace}
use Rattle.enet_outbox.specs.declared.packing.Progress.{Progress}
use Rattle.enet_outbox.specs.declared.packing.Flow.{Flow}
use Rattle.enet_outbox.specs.Outbox.{released}
use Rattle.enet_outbox.specs.Emission.{Filling, is_barred}
use Rattle.enet_outbox.specs.Private.Packing.{Holds, Shares, PacksChannel, asked_for, counted_by, is_reliable, kept_after, place_in, refuses, taken_in, told}
use Rattle.enet_senders.proofs.Each.{set-there}
use Rattle.enet_senders.proofs.Sets.{get-set}
use Rattle.enet_outbox.proofs.Channel.{ChannelAt, due_by, flow_asked, flow_put, kept_by, released_by, wants_by, channel-wanting, set-twice, did-sent, channel-begin, channel-put, channel-drop, channel-full, channel-none, channel-room}
use Rattle.enet_outbox.proofs.Turns.{left_of, left-falls, left-skipped, added-fits}

-- a channel that there is has a sender
pub some-sender : (xs : List SendingEnd) (i : ℕ) → i < length xs → (s : SendingEnd) × (slice_get xs i ≡ Some s)
some-sender xs i inside = (get_or xs i (new_end 0), slice_get-get_or xs i (new_end 0) inside)

-- what a call did on a channel
abbrev pub CalledWith : ℕ → Occasion → ℕ → List SendingEnd → List SendingEnd → List ℕ → List ℕ → Due → Type 0
CalledWith channel o at now later from to result =
    (s : SendingEnd) → slice_get now channel ≡ Some s → (t : SendingEnd) × ((later ≡ slice_set now channel t) × Did (next wire o s.sender) (wants_room o s.sender) result s t (record { old = from; at = at; new = to }))

abbrev pub Called : Pace → ℕ → Flow → Progress → List SendingEnd → List SendingEnd → List ℕ → List ℕ → Due → Type 0
Called pace channel w p now later from to result = CalledWith channel (told pace channel w) (place_in p from) now later from to result

pub called : (pace : Pace) (channel : ℕ) (w : Flow) (p : Progress) (now later : List SendingEnd) (from to : List ℕ) (result : Due) (o : Occasion) (at : ℕ) → o ≡ told pace channel w → at ≡ place_in p from
    → CalledWith channel o at now later from to result → Called pace channel w p now later from to result
called pace channel w p now later from to result o at told_is at_is h =
    subst (λ (n : ℕ). CalledWith channel (told pace channel w) n now later from to result) at_is
    (subst (λ (x : Occasion). CalledWith channel x at now later from to result) told_is h)

-- the stage has come so far: the channel has this sender, and the others are as they were
pub record TurnAt (pace : Pace) (channel : ℕ) (old : List SendingEnd) (first : SendingEnd) (w0 : Flow) (p0 : Progress) (from0 : List ℕ) (now : List SendingEnd) (w : Flow) (went : Bool) (p : Progress) (buf : List ℕ) : Type 0 where
  pub s : SendingEnd
  pub senders : now ≡ slice_set old channel s
  pub there : slice_get now channel ≡ Some s
  pub stage : (f : Filling) → Holds f p0 from0 → f.closed ≡ false → slice_get f.outbox.senders channel ≡ Some first → Shares f.outbox w0 → ChannelAt pace channel f s w went p buf

pub turn-begin : {pace : Pace} {channel : ℕ} {old : List SendingEnd} {w : Flow} {p : Progress} {from : List ℕ} (s : SendingEnd) → slice_get old channel ≡ Some s → TurnAt pace channel old s w p from old w false p from
turn-begin {pace} {channel} {old} {w} {p} {from} s there = record {
  s = s;
  senders = sym (set-there old channel s there);
  there = there;
  stage = λ f h opened at e. channel-begin h opened at e;
}

pub turn-put : {pace : Pace} {channel : ℕ} {old : List SendingEnd} {first : SendingEnd} {w0 : Flow} {p0 : Progress} {from0 : List ℕ} {now later : List SendingEnd} {w : Flow} {went : Bool} {p : Progress} {from to : List ℕ} {past : ℕ} (added price : ℕ) (k : Kind) (again : Bool)
    → TurnAt pace channel old first w0 p0 from0 now w went p from → Called pace channel w p now later from to (due.Sent past added price k again) → refuses k w.throttle ≡ false
    → TurnAt pace channel old first w0 p0 from0 later (flow_put w channel added price k again) (is_reliable k || went) (taken_in p past to) to
turn-put {pace} {channel} {old} {first} {w0} {p0} {from0} {now} {later} {w} {went} {p} {from} {to} {past} added price k again a h admitted =
    let r = h a.s a.there in
    record {
      s = r.0;
      senders = r.1.0 ∙ ap (λ (xs : List SendingEnd). slice_set xs channel r.0) a.senders ∙ set-twice old channel a.s r.0;
      there = ap (λ (xs : List SendingEnd). slice_get xs channel) r.1.0 ∙ get-set now channel a.s r.0 a.there;
      stage = λ f holds opened there e. channel-put added price k again (a.stage f holds opened there e) r.1.1 admitted;
    }

-- the sender once the rest of its packet is dropped
abbrev pub without_more : SendingEnd → SendingEnd
without_more s = record s { sender = with_skipped s.sender }

abbrev pub Skipped : ℕ → List SendingEnd → List SendingEnd → Type 0
Skipped channel later after = (s : SendingEnd) → slice_get later channel ≡ Some s → after ≡ slice_set later channel (without_more s)

pub turn-drop : {pace : Pace} {channel : ℕ} {old : List SendingEnd} {first : SendingEnd} {w0 : Flow} {p0 : Progress} {from0 : List ℕ} {now later after : List SendingEnd} {w : Flow} {went : Bool} {p : Progress} {from to : List ℕ} (past added price : ℕ) (k : Kind) (again : Bool)
    → TurnAt pace channel old first w0 p0 from0 now w went p from → Called pace channel w p now later from to (due.Sent past added price k again) → refuses k w.throttle ≡ true → Skipped channel later after
    → TurnAt pace channel old first w0 p0 from0 after (flow_asked w k) went p to
turn-drop {pace} {channel} {old} {first} {w0} {p0} {from0} {now} {later} {after} {w} {went} {p} {from} {to} past added price k again a h refused skip =
    let r = h a.s a.there in
    let is : later ≡ slice_set old channel r.0 = r.1.0 ∙ ap (λ (xs : List SendingEnd). slice_set xs channel r.0) a.senders ∙ set-twice old channel a.s r.0 in
    let there : slice_get later channel ≡ Some r.0 = ap (λ (xs : List SendingEnd). slice_get xs channel) r.1.0 ∙ get-set now channel a.s r.0 a.there in
    let dropped = skip r.0 there in
    record {
      s = without_more r.0;
      senders = dropped ∙ ap (λ (xs : List SendingEnd). slice_set xs channel (without_more r.0)) is ∙ set-twice old channel r.0 (without_more r.0);
      there = ap (λ (xs : List SendingEnd). slice_get xs channel) dropped ∙ get-set later channel r.0 (without_more r.0) there;
      stage = λ f holds opened at e. channel-drop r.0 past added price k again (a.stage f holds opened at e) r.1.1 refused;
    }

-- the channel's part of the datagram, once no more of it goes
abbrev pub Packed : Pace → ℕ → List SendingEnd → SendingEnd → Flow → Progress → List ℕ → List SendingEnd → Flow → Progress → List ℕ → Type 0
Packed pace channel old first w0 p0 from0 later w p to =
    (t : SendingEnd) × ((later ≡ slice_set old channel t)
    × PacksChannel pace (record { channel = channel; sender = first; flow = w0 }) (record { channel = channel; sender = t; flow = w }) (record { progress = p0; buf = from0 }) (record { progress = p; buf = to }))

pub turn-full : {pace : Pace} {channel : ℕ} {old : List SendingEnd} {first : SendingEnd} {w0 : Flow} {p0 : Progress} {from0 : List ℕ} {now later : List SendingEnd} {w : Flow} {went : Bool} {p : Progress} {from to : List ℕ}
    → TurnAt pace channel old first w0 p0 from0 now w went p from → Called pace channel w p now later from to due.NoRoom → Packed pace channel old first w0 p0 from0 later w (record p { closed = true }) to
turn-full {pace} {channel} {old} {first} {w0} {p0} {from0} {now} {later} {w} {went} {p} {from} {to} a h =
    let r = h a.s a.there in
    (r.0, (r.1.0 ∙ ap (λ (xs : List SendingEnd). slice_set xs channel r.0) a.senders ∙ set-twice old channel a.s r.0, λ f holds opened there e. channel-full r.0 (a.stage f holds opened there e) r.1.1))

pub turn-none : {pace : Pace} {channel : ℕ} {old : List SendingEnd} {first : SendingEnd} {w0 : Flow} {p0 : Progress} {from0 : List ℕ} {now later : List SendingEnd} {w : Flow} {went : Bool} {p : Progress} {from to : List ℕ}
    → TurnAt pace channel old first w0 p0 from0 now w went p from → Called pace channel w p now later from to due.Nothing → Packed pace channel old first w0 p0 from0 later w p to
turn-none {pace} {channel} {old} {first} {w0} {p0} {from0} {now} {later} {w} {went} {p} {from} {to} a h =
    let r = h a.s a.there in
    (r.0, (r.1.0 ∙ ap (λ (xs : List SendingEnd). slice_set xs channel r.0) a.senders ∙ set-twice old channel a.s r.0, λ f holds opened there e. channel-none r.0 (a.stage f holds opened there e) r.1.1))

pub turn-wanting : {pace : Pace} {channel : ℕ} {old : List SendingEnd} {first : SendingEnd} {w0 : Flow} {p0 : Progress} {from0 : List ℕ} {now later : List SendingEnd} {w : Flow} {went : Bool} {p : Progress} {from to : List ℕ}
    → TurnAt pace channel old first w0 p0 from0 now w went p from → Called pace channel w p now later from to due.Full
    → Packed pace channel old first w0 p0 from0 later (record w { kept = kept_by went w.kept channel }) p to
turn-wanting {pace} {channel} {old} {first} {w0} {p0} {from0} {now} {later} {w} {went} {p} {from} {to} a h =
    let r = h a.s a.there in
    (r.0, (r.1.0 ∙ ap (λ (xs : List SendingEnd). slice_set xs channel r.0) a.senders ∙ set-twice old channel a.s r.0, λ f holds opened there e. channel-wanting r.0 (a.stage f holds opened there e) r.1.1))

-- what the channel of a list has left to send
abbrev pub left_at : Option SendingEnd → ℕ
left_at None = 0
left_at (Some s) = left_of s.sender

pub turn-falls : (pace : Pace) (channel : ℕ) (w : Flow) (p : Progress) (now later : List SendingEnd) (from to : List ℕ) (past added price : ℕ) (k : Kind) (again : Bool) (s : SendingEnd) → slice_get now channel ≡ Some s
    → Called pace channel w p now later from to (due.Sent past added price k again) → left_at (slice_get later channel) < left_at (slice_get now channel)
turn-falls pace channel w p now later from to past added price k again s there h =
    let r = h s there in
    let d = did-sent (due_by pace channel s w) (wants_by pace channel s w) past added price k again s r.0 from (place_in p from) to r.1.1 in
    let was : left_at (slice_get now channel) ≡ left_of s.sender = ap left_at there in
    let is : left_at (slice_get later channel) ≡ left_of d.0.sender =
    ap left_at (ap (λ (xs : List SendingEnd). slice_get xs channel) r.1.0 ∙ get-set now channel s r.0 there) ∙ ap (λ (t : SendingEnd). left_of t.sender) d.6 in
    let less = left-falls wire (told pace channel w) s.sender d.0 d.1 in
    omega arith

pub skip-falls : (channel : ℕ) (later after : List SendingEnd) (s : SendingEnd) → slice_get later channel ≡ Some s → Skipped channel later after → left_at (slice_get after channel) ≤ left_at (slice_get later channel)
skip-falls channel later after s there skip =
    let was : left_at (slice_get later channel) ≡ left_of s.sender = ap left_at there in
    let is : left_at (slice_get after channel) ≡ left_of (with_skipped s.sender) =
    ap left_at (ap (λ (xs : List SendingEnd). slice_get xs channel) (skip s there) ∙ get-set later channel s (without_more s) there) in
    let less = left-skipped s.sender in
    omega arith

-- there was room for the command that was written
pub called-room : (pace : Pace) (channel : ℕ) (w : Flow) (p : Progress) (now later : List SendingEnd) (from to : List ℕ) (past added price : ℕ) (k : Kind) (again : Bool) (s : SendingEnd) → slice_get now channel ≡ Some s
    → Called pace channel w p now later from to (due.Sent past added price k again) → (0 < p.commands) × (p.at < length to)
called-room pace channel w p now later from to past added price k again s there h =
    let r = h s there in
    channel-room p past added price k again s r.0 from to (due_by pace channel s w) (wants_by pace channel s w) r.1.1

-- with what is new in transit there is no more than either bound allows
bounded : (total most more added limit : ℕ) → more ≡ added → (added ≡ 0) ⊎ (total + added ≤ most) → total < limit → most < limit → total + more < limit
bounded total most more added limit is (inl none) low few = omega arith
bounded total most more added limit is (inr fits) low few = omega arith

pub called-bytes : (channel : ℕ) (o : Occasion) (at : ℕ) (now later : List SendingEnd) (from to : List ℕ) (past added price : ℕ) (k : Kind) (again : Bool) (s : SendingEnd) → slice_get now channel ≡ Some s
    → CalledWith channel o at now later from to (due.Sent past added price k again) → (limit : ℕ) → o.transit < limit → o.most < limit → o.transit + added < limit
called-bytes channel o at now later from to past added price k again s there h limit low few =
    let r = h s there in
    let d = did-sent (next wire o s.sender) (wants_room o s.sender) past added price k again s r.0 from at to r.1.1 in
    bounded o.transit o.most added d.0.added limit d.3 (added-fits wire o s.sender d.0 d.1).bytes low few

pub called-prices : (channel : ℕ) (o : Occasion) (at : ℕ) (now later : List SendingEnd) (from to : List ℕ) (past added price : ℕ) (k : Kind) (again : Bool) (s : SendingEnd) → slice_get now channel ≡ Some s
    → CalledWith channel o at now later from to (due.Sent past added price k again) → (limit : ℕ) → o.prices < limit → o.dearest < limit → o.prices + price < limit
called-prices channel o at now later from to past added price k again s there h limit low few =
    let r = h s there in
    let d = did-sent (next wire o s.sender) (wants_room o s.sender) past added price k again s r.0 from at to r.1.1 in
    bounded o.prices o.dearest price d.0.price limit d.4 (added-fits wire o s.sender d.0 d.1).prices low few

-- there are as many senders as before
pub turn-length : {pace : Pace} {channel : ℕ} {old : List SendingEnd} {first : SendingEnd} {w0 : Flow} {p0 : Progress} {from0 : List ℕ} {now : List SendingEnd} {w : Flow} {went : Bool} {p : Progress} {buf : List ℕ}
    → TurnAt pace channel old first w0 p0 from0 now w went p buf → length now ≡ length old
turn-length {pace} {channel} {old} a = ap (λ (xs : List SendingEnd). length xs) a.senders ∙ length-set old channel a.s

-- The code tells only in the end for which channel the room is kept. What the channels share, with that told by then
abbrev pub settled : Flow → Bool → ℕ → Flow
settled w went channel = record w { kept = kept_after went false w.kept channel }

-- once a command went
abbrev pub flow_sent : Flow → ℕ → ℕ → ℕ → Kind → Bool → Flow
flow_sent w channel added price k again = record {
  throttle = asked_for k w.throttle;
  transit = w.transit + added;
  prices = w.prices + price;
  dearest = w.dearest;
  kept = w.kept;
  last = Some channel;
  traffic = counted_by k w.traffic again;
}

released-barred : (kept : Option ℕ) (channel : ℕ) → is_barred kept channel ≡ is_barred (released kept channel) channel
released-barred None channel = refl
released-barred (Some owner) channel = by (owner == channel) refl
  where
    by : (b : Bool) → (owner == channel) ≡ b → not (owner == channel) ≡ is_barred (cond b None (Some owner)) channel
    by true e = ap not e
    by false e = refl

released-twice : (kept : Option ℕ) (channel : ℕ) → released (released kept channel) channel ≡ released kept channel
released-twice None channel = refl
released-twice (Some owner) channel = by (owner == channel) refl
  where
    by : (b : Bool) → (owner == channel) ≡ b → released (cond b None (Some owner)) channel ≡ cond b None (Some owner)
    by true e = refl
    by false e = ap (λ (b : Bool). cond b None (Some owner)) e

settled-barred : (went : Bool) (kept : Option ℕ) (channel : ℕ) → is_barred kept channel ≡ is_barred (kept_after went false kept channel) channel
settled-barred true kept channel = released-barred kept channel
settled-barred false kept channel = refl

-- the sender is told the same by then
pub told-settled : (pace : Pace) (channel : ℕ) (w : Flow) (went : Bool) → told pace channel w ≡ told pace channel (settled w went channel)
told-settled pace channel w went = ap (λ (b : Bool). record (told pace channel w) { barred = b }) (settled-barred went w.kept channel)

settled-more : (k : Kind) (went : Bool) (kept : Option ℕ) (channel : ℕ) → released_by k (kept_after went false kept channel) channel ≡ kept_after (is_reliable k || went) false kept channel
settled-more kind.Reliable true kept channel = released-twice kept channel
settled-more kind.Reliable false kept channel = refl
settled-more kind.Begins went kept channel = refl
settled-more kind.More went kept channel = refl

pub turn-goes : {pace : Pace} {channel : ℕ} {old : List SendingEnd} {first : SendingEnd} {w0 : Flow} {p0 : Progress} {from0 : List ℕ} {now later : List SendingEnd} {went : Bool} {p : Progress} {from to : List ℕ} {past : ℕ} (w : Flow) (added price : ℕ) (k : Kind) (again : Bool)
    → TurnAt pace channel old first w0 p0 from0 now (settled w went channel) went p from → Called pace channel (settled w went channel) p now later from to (due.Sent past added price k again) → refuses k w.throttle ≡ false
    → TurnAt pace channel old first w0 p0 from0 later (settled (flow_sent w channel added price k again) (is_reliable k || went) channel) (is_reliable k || went) (taken_in p past to) to
turn-goes {pace} {channel} {old} {first} {w0} {p0} {from0} {now} {later} {went} {p} {from} {to} {past} w added price k again a h admitted =
    subst (λ (kept : Option ℕ). TurnAt pace channel old first w0 p0 from0 later (record (flow_sent w channel added price k again) { kept = kept }) (is_reliable k || went) (taken_in p past to) to)
    (settled-more k went w.kept channel) (turn-put added price k again a h admitted)

wanting-kept : (went : Bool) (kept : Option ℕ) (channel : ℕ) → kept_by went (kept_after went false kept channel) channel ≡ kept_after went true kept channel
wanting-kept true kept channel = refl
wanting-kept false kept channel = refl

pub turn-waits : {pace : Pace} {channel : ℕ} {old : List SendingEnd} {first : SendingEnd} {w0 : Flow} {p0 : Progress} {from0 : List ℕ} {now later : List SendingEnd} {went : Bool} {p : Progress} {from to : List ℕ} (w : Flow)
    → TurnAt pace channel old first w0 p0 from0 now (settled w went channel) went p from → Called pace channel (settled w went channel) p now later from to due.Full
    → Packed pace channel old first w0 p0 from0 later (record w { kept = kept_after went true w.kept channel }) p to
turn-waits {pace} {channel} {old} {first} {w0} {p0} {from0} {now} {later} {went} {p} {from} {to} w a h =
    subst (λ (kept : Option ℕ). Packed pace channel old first w0 p0 from0 later (record w { kept = kept }) p to) (wanting-kept went w.kept channel) (turn-wanting a h)
