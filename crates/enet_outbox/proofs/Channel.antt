-- One channel, turn by turn.
use Rattle.std.proofs.Common.{◌≡◌, ℕ, zero, suc, ◌+◌, ◌-◌, ◌<◌, ◌≤◌, List, [], ◌∷◌, ◌++◌, length, drop, append_assoc, refl, sym, ap, ◌∙◌, subst, arith, max, Bool, true, false, not, ◌&&◌, ◌||◌, cond, Option, Some, None, slice_set, sum_by}
use Rattle.std.specs.List.{slice_get, list_any}
use Rattle.std.proofs.lemmas.List.{append-nil, drop_at}
use Rattle.std.proofs.lemmas.List.Folds.{list_any-append}
use Rattle.std.proofs.lemmas.List.Sums.{sum_by-cons}
use Rattle.enet_codec.specs.Message.{IsMessage, Message, canonical}
use Rattle.enet_codec.specs.Writing.{Puts}
use Rattle.enet_seq.specs.Numbering.{wire}
use Rattle.enet_throttle.specs.Throttle.{Throttling, is_admitted, transit}
use Rattle.enet_fragment.specs.declared.data.DataCommand.{DataCommand}
use Rattle.enet_fragment.specs.DataCommand.{message_of}
use Rattle.enet_sender.specs.declared.outgoing.Due.TheVariants as due
use Rattle.enet_sender.specs.declared.outgoing.Kind.{Kind}
use Rattle.enet_sender.specs.declared.outgoing.Kind.TheVariants as kind
use Rattle.enet_sender.specs.declared.outgoing.Occasion.{Occasion}
use Rattle.enet_sender.specs.Sender.{Next, next, wants_room, with_skipped, bytes_in_transit, prices_in_transit, is_more}
use Rattle.enet_sender.specs.Due.{SendingEnd, due_kind, Did}
use Rattle.enet_sender.proofs.Transit.{transit-next, prices-next}
use Rattle.enet_outbox.specs.declared.parts.Pace.{Pace}
use Rattle.enet_outbox.specs.declared.packing.Progress.{Progress}
use Rattle.enet_outbox.specs.declared.packing.Flow.{Flow}
use Rattle.enet_outbox.specs.declared.traffic.Traffic.{Traffic}
use Rattle.enet_outbox.specs.Outbox.{Outbox, released}
use Rattle.enet_outbox.specs.Emission.{Filling, asks, fits, has_gone, is_barred, keeping, turn_ended, wants_room_on, with_command, shut, repeated, asked, with_sender, data_put, data_step, due_step, channel_step, with_one_data, with_channel, channel_turns, turns_of, transit_limit, price_limit, occasion}
use Rattle.enet_outbox.specs.Private.Packing.{Holds, taken_in, place_in, Leads, asked_for, counted_by, is_reliable, refuses, with_flow, Counts, Shares, told}
use Rattle.enet_senders.proofs.Each.{set-there}
use Rattle.enet_senders.proofs.Sets.{get-set}
use Rattle.enet_outbox.proofs.Fillings.{fits-written, holds-written, holds-back, holds-other, unfit, holds-shut, leads-by, place-open, place-full}
use Rattle.enet_outbox.proofs.Repeats.{repeated-go, repeated-idle, repeated-shut}
use Rattle.enet_outbox.proofs.Turns.{left_of, left-most, left-falls, left-skipped, added-none}

-- a list with one element replaced
pub set-twice : {A : Type 0} (xs : List A) (i : ℕ) (x y : A) → slice_set (slice_set xs i x) i y ≡ slice_set xs i y
set-twice [] i x y = refl
set-twice (z ∷ xs) zero x y = refl
set-twice (z ∷ xs) (suc i) x y = ap (λ zs. z ∷ zs) (set-twice xs i x y)

sum-set : {A : Type 0} (f : A → ℕ) (xs : List A) (i : ℕ) (x y : A) → slice_get xs i ≡ Some x → sum_by f (slice_set xs i y) + f x ≡ sum_by f xs + f y
sum-set f [] i x y e = cc
sum-set f (z ∷ xs) zero x y e =
    let is : f z ≡ f x = let same : z ≡ x = cc in ap f same in
    let a = sum_by-cons f y xs in
    let b = sum_by-cons f z xs in
    omega arith
sum-set f (z ∷ xs) (suc i) x y e =
    let h = sum-set f xs i x y e in
    let a = sum_by-cons f z (slice_set xs i y) in
    let b = sum_by-cons f z xs in
    omega arith

-- the bytes in transit change by what the channel's change
transit-set : (senders : List SendingEnd) (i : ℕ) (s t : SendingEnd) → slice_get senders i ≡ Some s →
    sum_by (λ (s : SendingEnd). bytes_in_transit s.sender) (slice_set senders i t) + bytes_in_transit s.sender ≡ sum_by (λ (s : SendingEnd). bytes_in_transit s.sender) senders + bytes_in_transit t.sender
transit-set senders i s t e = sum-set (λ (s : SendingEnd). bytes_in_transit s.sender) senders i s t e

prices-set : (senders : List SendingEnd) (i : ℕ) (s t : SendingEnd) → slice_get senders i ≡ Some s →
    sum_by (λ (s : SendingEnd). prices_in_transit s.sender) (slice_set senders i t) + prices_in_transit s.sender ≡ sum_by (λ (s : SendingEnd). prices_in_transit s.sender) senders + prices_in_transit t.sender
prices-set senders i s t e = sum-set (λ (s : SendingEnd). prices_in_transit s.sender) senders i s t e

-- what a call did
pub did-sent : (n : Option Next) (wants : Bool) (past added price : ℕ) (k : Kind) (again : Bool) (old new : SendingEnd) (from : List ℕ) (at : ℕ) (to : List ℕ) → Did n wants (due.Sent past added price k again) old new (record { old = from; at = at; new = to }) →
    (m : Next) × (n ≡ Some m) × Puts from at (canonical (message_of old.channel m.command)) to past × (added ≡ m.added) × (price ≡ m.price) × (k ≡ due_kind m.command) × (new ≡ record old { sender = m.sender })
    × IsMessage (message_of old.channel m.command) × (again ≡ m.is_resend)
did-sent None wants past added price k again old new from at to d = absurd d
did-sent (Some m) wants past added price k again old new from at to d = (m, refl, d.0, d.1, d.2, d.3, d.4, d.5, d.6)

did-full : (n : Option Next) (wants : Bool) (old new : SendingEnd) (from : List ℕ) (at : ℕ) (to : List ℕ) → Did n wants due.NoRoom old new (record { old = from; at = at; new = to }) →
    (m : Next) × (n ≡ Some m) × (length from < at + length (canonical (message_of old.channel m.command))) × (new ≡ old) × (to ≡ from)
did-full None wants old new from at to d = absurd d
did-full (Some m) wants old new from at to d = (m, refl, d.0, d.1, d.2)

did-nothing : (n : Option Next) (wants : Bool) (old new : SendingEnd) (from : List ℕ) (at : ℕ) (to : List ℕ) → Did n wants due.Nothing old new (record { old = from; at = at; new = to }) →
    (n ≡ None) × (wants ≡ false) × (new ≡ old) × (to ≡ from)
did-nothing None wants old new from at to d = (refl, d.0, d.1, d.2)
did-nothing (Some m) wants old new from at to d = absurd d

did-wanting : (n : Option Next) (wants : Bool) (old new : SendingEnd) (from : List ℕ) (at : ℕ) (to : List ℕ) → Did n wants due.Full old new (record { old = from; at = at; new = to }) →
    (n ≡ None) × (wants ≡ true) × (new ≡ old) × (to ≡ from)
did-wanting None wants old new from at to d = (refl, d.0, d.1, d.2)
did-wanting (Some m) wants old new from at to d = absurd d

-- there was room for the command that was written
pub channel-room : (p : Progress) (past added price : ℕ) (k : Kind) (again : Bool) (old new : SendingEnd) (from to : List ℕ) (n : Option Next) (wants : Bool) → Did n wants (due.Sent past added price k again) old new (record { old = from; at = place_in p from; new = to }) →
    (0 < p.commands) × (p.at < length to)
channel-room p past added price k again old new from to n wants d =
    let s = did-sent n wants past added price k again old new from (place_in p from) to d in
    let w = place-open p from (canonical (message_of old.channel s.0.command)) to past (omega arith) s.2 in
    (w.0, w.2)

-- what the throttle refuses is unreliable
refused-unreliable : (c : DataCommand) (k : Kind) (t : Throttling) → k ≡ due_kind c → refuses k t ≡ true → c.reliable ≡ false
refused-unreliable c k t is e =
    elim c.reliable as (λ b. refuses (cond b kind.Reliable (cond (is_more c) kind.More kind.Begins)) t ≡ true → b ≡ false) [ true ↦ λ h. cc | false ↦ λ h. refl ]
    (ap (λ (k : Kind). refuses k t) (sym is) ∙ e)

-- once a reliable command goes, the room is kept for its channel no longer
abbrev pub released_by : Kind → Option ℕ → ℕ → Option ℕ
released_by kind kept channel = cond (is_reliable kind) (released kept channel) kept

-- a channel that wants the room has it kept, unless a reliable command of it went in its turn
abbrev pub kept_by : Bool → Option ℕ → ℕ → Option ℕ
kept_by went kept channel = cond went kept (Some channel)

-- what is due on a channel is put in, or dropped, as the throttle says
step-put : (f : Filling) (channel : ℕ) (s : SendingEnd) (n : Next) (k : Kind) → refuses k f.outbox.throttle ≡ false →
    data_step f channel s n k ≡ data_put f channel s n (record f.outbox { throttle = asked_for k f.outbox.throttle; kept = released_by k f.outbox.kept channel; traffic = counted_by k f.outbox.traffic n.is_resend })
step-put f channel s n kind.Reliable e = refl
step-put f channel s n kind.More e = refl
step-put f channel s n kind.Begins e =
    let put : Filling = data_put f channel s n (asked f.outbox) in
    let drop : Filling = record f { outbox = with_sender (asked f.outbox) channel (record s { sender = with_skipped n.sender }) } in
    elim (is_admitted f.outbox.throttle) as (λ b. not b ≡ false → cond b put drop ≡ put) [ true ↦ λ h. refl | false ↦ λ h. cc ] e

step-drop : (f : Filling) (channel : ℕ) (s : SendingEnd) (n : Next) (k : Kind) → refuses k f.outbox.throttle ≡ true →
    data_step f channel s n k ≡ record f { outbox = with_sender (record f.outbox { throttle = asked_for k f.outbox.throttle }) channel (record s { sender = with_skipped n.sender }) }
step-drop f channel s n kind.Reliable e = cc
step-drop f channel s n kind.More e = cc
step-drop f channel s n kind.Begins e =
    let put : Filling = data_put f channel s n (asked f.outbox) in
    let drop : Filling = record f { outbox = with_sender (asked f.outbox) channel (record s { sender = with_skipped n.sender }) } in
    elim (is_admitted f.outbox.throttle) as (λ b. not b ≡ true → cond b put drop ≡ drop) [ true ↦ λ h. cc | false ↦ λ h. refl ] e

-- what is due next on a channel of a filling
abbrev due_next : Pace → ℕ → Outbox → SendingEnd → Option Next
due_next pace channel o s = next wire (occasion pace channel o) s.sender

-- so many turns more
abbrev more_data : Pace → ℕ → ℕ → Filling → Filling
more_data pace channel turns f = repeated turns (with_one_data pace channel) f

turn-at : (pace : Pace) (channel : ℕ) (f : Filling) (s : SendingEnd) (n : Option Next) → slice_get f.outbox.senders channel ≡ Some s → due_next pace channel f.outbox s ≡ n →
    with_one_data pace channel f ≡ due_step f channel s n
turn-at pace channel f s n there e = ap (channel_step pace channel f) there ∙ ap (due_step f channel s) e

channel-end : (pace : Pace) (channel turns : ℕ) (f : Filling) (s : SendingEnd) → f.closed ≡ false → slice_get f.outbox.senders channel ≡ Some s → due_next pace channel f.outbox s ≡ None →
    more_data pace channel turns f ≡ f
channel-end pace channel turns f s opened there e = repeated-idle turns (with_one_data pace channel) f opened (turn-at pace channel f s None there e)

channel-stop : (pace : Pace) (channel turns : ℕ) (f : Filling) (s : SendingEnd) (n : Next) → 0 < turns → f.closed ≡ false → slice_get f.outbox.senders channel ≡ Some s → due_next pace channel f.outbox s ≡ Some n →
    fits f (message_of s.channel n.command) ≡ false → more_data pace channel turns f ≡ shut f
channel-stop pace channel turns f s n some opened there e fit =
    let go : Filling = data_step f channel s n (due_kind n.command) in
    repeated-shut turns (with_one_data pace channel) f some opened (turn-at pace channel f s (Some n) there e ∙ ap (λ (b : Bool). cond b go (shut f)) fit)

channel-go : (pace : Pace) (channel turns : ℕ) (f g : Filling) (s : SendingEnd) (n : Next) (k : Kind) → 0 < turns → f.closed ≡ false → slice_get f.outbox.senders channel ≡ Some s → due_next pace channel f.outbox s ≡ Some n →
    fits f (message_of s.channel n.command) ≡ true → k ≡ due_kind n.command → data_step f channel s n k ≡ g → more_data pace channel turns f ≡ more_data pace channel (turns - 1) g
channel-go pace channel turns f g s n k some opened there e fit is goes =
    let go : Kind → Filling = λ k. data_step f channel s n k in
    repeated-go turns (with_one_data pace channel) f g some opened
    (turn-at pace channel f s (Some n) there e ∙ ap (λ (b : Bool). cond b (go (due_kind n.command)) (shut f)) fit ∙ ap go (sym is) ∙ goes)

-- the stage has come so far
pub record ChannelAt (pace : Pace) (channel : ℕ) (f : Filling) (s : SendingEnd) (w : Flow) (went : Bool) (p : Progress) (buf : List ℕ) : Type 0 where
  pub g : Filling
  pub since : List Message
  pub turns : ℕ
  pub holds : Holds g p buf
  pub opened : g.closed ≡ false
  pub there : slice_get g.outbox.senders channel ≡ Some s
  pub outbox : g.outbox ≡ with_flow f.outbox (slice_set f.outbox.senders channel s) w
  pub enough : left_of s.sender ≤ turns
  pub stage : with_channel pace f channel ≡ turn_ended pace channel f (more_data pace channel turns g)
  pub grown : g.messages ≡ f.messages ++ since
  pub gone : went ≡ list_any asks since
  pub counts : Counts g.outbox w

pub channel-begin : {pace : Pace} {channel : ℕ} {f : Filling} {s : SendingEnd} {w : Flow} {p : Progress} {buf : List ℕ} → Holds f p buf → f.closed ≡ false → slice_get f.outbox.senders channel ≡ Some s → Shares f.outbox w → ChannelAt pace channel f s w false p buf
channel-begin {pace} {channel} {f} {s} {w} {p} {buf} h opened there e = record {
  g = f;
  since = [];
  turns = channel_turns f.outbox channel;
  holds = h;
  opened = opened;
  there = there;
  outbox = ap (λ (ss : List SendingEnd). record f.outbox { senders = ss }) (sym (set-there f.outbox.senders channel s there))
      ∙ ap (λ (t : Throttling). record f.outbox { senders = slice_set f.outbox.senders channel s; throttle = t }) e.0
      ∙ ap (λ (c : Option ℕ). record f.outbox { senders = slice_set f.outbox.senders channel s; throttle = w.throttle; kept = c }) e.2.kept
      ∙ ap (λ (l : Option ℕ). record f.outbox { senders = slice_set f.outbox.senders channel s; throttle = w.throttle; kept = w.kept; last = l }) e.1
      ∙ ap (λ (x : Traffic). record f.outbox { senders = slice_set f.outbox.senders channel s; throttle = w.throttle; kept = w.kept; last = w.last; traffic = x }) e.2.traffic;
  enough = let P : Option SendingEnd → Type 0 = λ o. left_of s.sender ≤ turns_of o in subst P (sym there) (left-most s.sender);
  stage = refl;
  grown = sym (append-nil f.messages);
  gone = refl;
  counts = e.2;
}

-- what the code finds due
abbrev pub due_by : Pace → ℕ → SendingEnd → Flow → Option Next
due_by pace channel s w = next wire (told pace channel w) s.sender

-- whether it finds that the channel wants the room
abbrev pub wants_by : Pace → ℕ → SendingEnd → Flow → Bool
wants_by pace channel s w = wants_room (told pace channel w) s.sender

-- what the channels share once a command of one went, and once the throttle dropped one
abbrev pub flow_put : Flow → ℕ → ℕ → ℕ → Kind → Bool → Flow
flow_put w channel added price k again = record {
  throttle = asked_for k w.throttle;
  transit = w.transit + added;
  prices = w.prices + price;
  dearest = w.dearest;
  kept = released_by k w.kept channel;
  last = Some channel;
  traffic = counted_by k w.traffic again;
}

abbrev pub flow_asked : Flow → Kind → Flow
flow_asked w k = record w { throttle = asked_for k w.throttle }

told-here : {pace : Pace} {channel : ℕ} {f : Filling} {s : SendingEnd} {w : Flow} {went : Bool} {p : Progress} {buf : List ℕ} (a : ChannelAt pace channel f s w went p buf) → occasion pace channel a.g.outbox ≡ told pace channel w
told-here {pace} {channel} {f} {s} {w} a =
    λ i. record { now = pace.now; timeout = pace.timeout; transit = a.counts.transit i; most = most i; prices = a.counts.prices i; dearest = dearest i; barred = barred i }
  where
    most : transit_limit pace a.g.outbox ≡ transit w.throttle pace.window pace.mtu
    most = ap (λ (o : Outbox). transit_limit pace o) a.outbox

    dearest : price_limit pace a.g.outbox ≡ max w.dearest pace.mtu
    dearest = ap (λ (n : ℕ). max n pace.mtu) a.counts.dearest

    barred : is_barred a.g.outbox.kept channel ≡ is_barred w.kept channel
    barred = ap (λ (c : Option ℕ). is_barred c channel) a.counts.kept

here : {pace : Pace} {channel : ℕ} {f : Filling} {s : SendingEnd} {w : Flow} {went : Bool} {p : Progress} {buf : List ℕ} (a : ChannelAt pace channel f s w went p buf) → due_next pace channel a.g.outbox s ≡ due_by pace channel s w
here {pace} {channel} {f} {s} {w} a = ap (λ (o : Occasion). next wire o s.sender) (told-here a)

wants-here : {pace : Pace} {channel : ℕ} {f : Filling} {s : SendingEnd} {w : Flow} {went : Bool} {p : Progress} {buf : List ℕ} (a : ChannelAt pace channel f s w went p buf)
    → wants_room_on pace channel a.g.outbox (slice_get a.g.outbox.senders channel) ≡ wants_by pace channel s w
wants-here {pace} {channel} {f} {s} {w} a = ap (wants_room_on pace channel a.g.outbox) a.there ∙ ap (λ (o : Occasion). wants_room o s.sender) (told-here a)

-- a command that is carried so asks for an acknowledgement just if it is reliable
kind-asks : (c : DataCommand) (k : Kind) → k ≡ due_kind c → is_reliable k ≡ c.reliable
kind-asks c k is =
    ap is_reliable is ∙ (elim c.reliable as (λ b. is_reliable (cond b kind.Reliable (cond (is_more c) kind.More kind.Begins)) ≡ b) [ true ↦ refl | false ↦ more (is_more c) ])
  where
    more : (b : Bool) → is_reliable (cond b kind.More kind.Begins) ≡ false
    more true = refl
    more false = refl

-- what went, with one command more
gone-more : (since : List Message) (m : Message) (went : Bool) (k : Kind) → went ≡ list_any asks since → is_reliable k ≡ asks m → (is_reliable k || went) ≡ list_any asks (since ++ m ∷ [])
gone-more since m went k gone is = by (is_reliable k) ∙ ap (λ (b : Bool). list_any asks since || (b || false)) is ∙ sym (list_any-append asks since (m ∷ []))
  where
    with_true : (b : Bool) → true ≡ (b || true)
    with_true true = refl
    with_true false = refl

    with_false : (b : Bool) → b ≡ (b || false)
    with_false true = refl
    with_false false = refl

    by : (a : Bool) → (a || went) ≡ (list_any asks since || (a || false))
    by true = with_true (list_any asks since)
    by false = gone ∙ with_false (list_any asks since)

-- what went in the turn so far
gone-is : (f g : Filling) (since : List Message) → g.messages ≡ f.messages ++ since → has_gone f g ≡ list_any asks since
gone-is f g since grown = ap (λ (ms : List Message). list_any asks (drop (length f.messages) ms)) grown ∙ ap (list_any asks) (drop_at f.messages since (length f.messages) refl)

pub channel-put : {pace : Pace} {channel : ℕ} {f : Filling} {s new : SendingEnd} {w : Flow} {went : Bool} {p : Progress} {from to : List ℕ} {past : ℕ} (added price : ℕ) (k : Kind) (again : Bool) → ChannelAt pace channel f s w went p from →
    Did (due_by pace channel s w) (wants_by pace channel s w) (due.Sent past added price k again) s new (record { old = from; at = place_in p from; new = to }) → refuses k w.throttle ≡ false →
    ChannelAt pace channel f new (flow_put w channel added price k again) (is_reliable k || went) (taken_in p past to) to
channel-put {pace} {channel} {f} {s} {new} {w} {went} {p} {from} {to} {past} added price k again a d admitted =
    let r = did-sent (due_by pace channel s w) (wants_by pace channel s w) past added price k again s new from (place_in p from) to d in
    let n : Next = r.0 in
    let m : Message = message_of s.channel n.command in
    let v : Flow = flow_put w channel added price k again in
    let t : SendingEnd = record s { sender = n.sender } in
    let room = place-open p from (canonical m) to past (omega arith) r.2 in
    let G : Outbox → Outbox = λ o. record o { senders = slice_set o.senders channel t; throttle = asked_for k o.throttle; kept = released_by k o.kept channel; last = Some channel; traffic = counted_by k o.traffic n.is_resend } in
    let less = left-falls wire (told pace channel w) s.sender n r.1 in
    let adds = transit-next wire (told pace channel w) s.sender n r.1 in
    let sums = transit-set a.g.outbox.senders channel s t a.there in
    let added_is : added ≡ n.added = r.3 in
    let price_is : price ≡ n.price = r.4 in
    let costs = prices-next wire (told pace channel w) s.sender n r.1 in
    let priced = prices-set a.g.outbox.senders channel s t a.there in
    let in_transit = a.counts.transit in
    let prices = a.counts.prices in
    let enough = a.enough in
    let P : SendingEnd → Type 0 = λ x. ChannelAt pace channel f x v (is_reliable k || went) (taken_in p past to) to in
    let made : P t = record {
      g = with_command a.g m (G a.g.outbox);
      since = a.since ++ m ∷ [];
      turns = a.turns - 1;
      holds = holds-written m a.holds room.0 room.1 r.7 (G a.g.outbox);
      opened = refl;
      there = get-set a.g.outbox.senders channel s t a.there;
      outbox = ap G a.outbox ∙ ap (λ (b : Bool). record (with_flow f.outbox (slice_set (slice_set f.outbox.senders channel s) channel t) v) { traffic = counted_by k w.traffic b }) (sym r.8)
          ∙ ap (λ (ss : List SendingEnd). with_flow f.outbox ss v) (set-twice f.outbox.senders channel s t);
      enough = omega arith;
      stage = a.stage ∙ ap (turn_ended pace channel f) (channel-go pace channel a.turns a.g (with_command a.g m (G a.g.outbox)) s n k (omega arith) a.opened a.there (here a ∙ r.1) (fits-written m a.holds room.0 room.1) r.5
          (step-put a.g channel s n k (ap (λ (o : Outbox). refuses k o.throttle) a.outbox ∙ admitted)));
      grown = ap (λ (ms : List Message). ms ++ m ∷ []) a.grown ∙ append_assoc f.messages a.since (m ∷ []);
      gone = gone-more a.since m went k a.gone (kind-asks n.command k r.5);
      counts = record {
        transit = omega arith;
        prices = omega arith;
        dearest = a.counts.dearest;
        kept = ap (λ (c : Option ℕ). released_by k c channel) a.counts.kept;
        traffic = ap (λ (x : Traffic). counted_by k x n.is_resend) a.counts.traffic ∙ ap (counted_by k w.traffic) (sym r.8);
      };
    } in
    subst P (sym r.6) made

pub channel-drop : {pace : Pace} {channel : ℕ} {f : Filling} {s : SendingEnd} {w : Flow} {went : Bool} {p : Progress} {from to : List ℕ} (new : SendingEnd) (past added price : ℕ) (k : Kind) (again : Bool) → ChannelAt pace channel f s w went p from →
    Did (due_by pace channel s w) (wants_by pace channel s w) (due.Sent past added price k again) s new (record { old = from; at = place_in p from; new = to }) → refuses k w.throttle ≡ true →
    ChannelAt pace channel f (record new { sender = with_skipped new.sender }) (flow_asked w k) went p to
channel-drop {pace} {channel} {f} {s} {w} {went} {p} {from} {to} new past added price k again a d refused =
    let r = did-sent (due_by pace channel s w) (wants_by pace channel s w) past added price k again s new from (place_in p from) to d in
    let n : Next = r.0 in
    let m : Message = message_of s.channel n.command in
    let v : Flow = flow_asked w k in
    let t : SendingEnd = record s { sender = with_skipped n.sender } in
    let room = place-open p from (canonical m) to past (omega arith) r.2 in
    let G : Outbox → Outbox = λ o. record o { senders = slice_set o.senders channel t; throttle = asked_for k o.throttle } in
    let less = left-falls wire (told pace channel w) s.sender n r.1 in
    let skip = left-skipped n.sender in
    let adds = transit-next wire (told pace channel w) s.sender n r.1 in
    let none = added-none wire (told pace channel w) s.sender n r.1 (refused-unreliable n.command k w.throttle r.5 refused) in
    let costs = prices-next wire (told pace channel w) s.sender n r.1 in
    let sums = transit-set a.g.outbox.senders channel s t a.there in
    let priced = prices-set a.g.outbox.senders channel s t a.there in
    let in_transit = a.counts.transit in
    let prices = a.counts.prices in
    let enough = a.enough in
    let P : SendingEnd → Type 0 = λ x. ChannelAt pace channel f (record x { sender = with_skipped x.sender }) v went p to in
    let made : P (record s { sender = n.sender }) = record {
      g = record a.g { outbox = G a.g.outbox };
      since = a.since;
      turns = a.turns - 1;
      holds = holds-other (G a.g.outbox) (holds-back a.holds room.1);
      opened = a.opened;
      there = get-set a.g.outbox.senders channel s t a.there;
      outbox = ap G a.outbox ∙ ap (λ (ss : List SendingEnd). with_flow f.outbox ss v) (set-twice f.outbox.senders channel s t);
      enough = omega arith;
      stage = a.stage ∙ ap (turn_ended pace channel f) (channel-go pace channel a.turns a.g (record a.g { outbox = G a.g.outbox }) s n k (omega arith) a.opened a.there (here a ∙ r.1) (fits-written m a.holds room.0 room.1) r.5
          (step-drop a.g channel s n k (ap (λ (o : Outbox). refuses k o.throttle) a.outbox ∙ refused)));
      grown = a.grown;
      gone = a.gone;
      counts = record { transit = omega (arith, none.0); prices = omega (arith, none.1); dearest = a.counts.dearest; kept = a.counts.kept; traffic = a.counts.traffic };
    } in
    subst P (sym r.6) made

-- where nothing more goes
abbrev Ends : Pace → ℕ → Filling → SendingEnd → Flow → Progress → List ℕ → Type 0
Ends pace channel f s w p buf =
    Leads (with_channel pace f channel) (with_flow f.outbox (slice_set f.outbox.senders channel s) w) p buf
    × Counts (with_flow f.outbox (slice_set f.outbox.senders channel s) w) w

pub channel-full : {pace : Pace} {channel : ℕ} {f : Filling} {s : SendingEnd} {w : Flow} {went : Bool} {p : Progress} {from to : List ℕ} (new : SendingEnd) → ChannelAt pace channel f s w went p from →
    Did (due_by pace channel s w) (wants_by pace channel s w) due.NoRoom s new (record { old = from; at = place_in p from; new = to }) → Ends pace channel f new w (record p { closed = true }) to
channel-full {pace} {channel} {f} {s} {w} {went} {p} {from} {to} new a d =
    let r = did-full (due_by pace channel s w) (wants_by pace channel s w) s new from (place_in p from) to d in
    let n : Next = r.0 in
    let m : Message = message_of s.channel n.command in
    let less = left-falls wire (told pace channel w) s.sender n r.1 in
    let enough = a.enough in
    let stop = channel-stop pace channel a.turns a.g s n (omega arith) a.opened a.there (here a ∙ r.1) (unfit m a.holds (place-full p from (length (canonical m)) r.2)) in
    rw (r.3, r.4) (leads-by (a.stage ∙ ap (turn_ended pace channel f) stop) (holds-shut a.holds) a.outbox, subst (λ (o : Outbox). Counts o w) a.outbox a.counts)

-- where no more of it goes, the turn ends
turn-over : {pace : Pace} {channel : ℕ} {f : Filling} {s : SendingEnd} {w : Flow} {went : Bool} {p : Progress} {buf : List ℕ} (a : ChannelAt pace channel f s w went p buf) → due_by pace channel s w ≡ None →
    (wants : Bool) → wants_by pace channel s w ≡ wants → with_channel pace f channel ≡ cond (wants && not went) (record a.g { outbox = record a.g.outbox { kept = Some channel } }) a.g
turn-over {pace} {channel} {f} {s} {w} {went} a none wants is =
    let keeps : Filling = record a.g { outbox = record a.g.outbox { kept = Some channel } } in
    a.stage ∙ ap (turn_ended pace channel f) (channel-end pace channel a.turns a.g s a.opened a.there (here a ∙ none)) ∙ ap (λ (b : Bool). cond b a.g (keeping pace channel f a.g)) a.opened
    ∙ ap (λ (b : Bool). cond (b && not (has_gone f a.g)) keeps a.g) (wants-here a ∙ is) ∙ ap (λ (b : Bool). cond (wants && not b) keeps a.g) (gone-is f a.g a.since a.grown ∙ sym a.gone)

pub channel-none : {pace : Pace} {channel : ℕ} {f : Filling} {s : SendingEnd} {w : Flow} {went : Bool} {p : Progress} {from to : List ℕ} (new : SendingEnd) → ChannelAt pace channel f s w went p from →
    Did (due_by pace channel s w) (wants_by pace channel s w) due.Nothing s new (record { old = from; at = place_in p from; new = to }) → Ends pace channel f new w p to
channel-none {pace} {channel} {f} {s} {w} {went} {p} {from} {to} new a d =
    let r = did-nothing (due_by pace channel s w) (wants_by pace channel s w) s new from (place_in p from) to d in
    rw (r.2, r.3) (leads-by (turn-over a r.0 false r.1) a.holds a.outbox, subst (λ (o : Outbox). Counts o w) a.outbox a.counts)

pub channel-wanting : {pace : Pace} {channel : ℕ} {f : Filling} {s : SendingEnd} {w : Flow} {went : Bool} {p : Progress} {from to : List ℕ} (new : SendingEnd) → ChannelAt pace channel f s w went p from →
    Did (due_by pace channel s w) (wants_by pace channel s w) due.Full s new (record { old = from; at = place_in p from; new = to }) → Ends pace channel f new (record w { kept = kept_by went w.kept channel }) p to
channel-wanting {pace} {channel} {f} {s} {w} {went} {p} {from} {to} new a d =
    let r = did-wanting (due_by pace channel s w) (wants_by pace channel s w) s new from (place_in p from) to d in
    rw (r.2, r.3) (by went (turn-over a r.0 true r.1))
  where
    keeps : Filling
    keeps = record a.g { outbox = record a.g.outbox { kept = Some channel } }

    v : Flow
    v = record w { kept = Some channel }

    kept : keeps.outbox ≡ with_flow f.outbox (slice_set f.outbox.senders channel s) v
    kept = ap (λ (o : Outbox). record o { kept = Some channel }) a.outbox

    by : (b : Bool) → with_channel pace f channel ≡ cond (true && not b) keeps a.g → Ends pace channel f s (record w { kept = kept_by b w.kept channel }) p from
    by true whole = (leads-by whole a.holds a.outbox, subst (λ (o : Outbox). Counts o w) a.outbox a.counts)
    by false whole = (
      leads-by whole (holds-other (record a.g.outbox { kept = Some channel }) a.holds) kept,
      subst (λ (o : Outbox). Counts o v) kept (record { transit = a.counts.transit; prices = a.counts.prices; dearest = a.counts.dearest; kept = refl; traffic = a.counts.traffic }),
    )
