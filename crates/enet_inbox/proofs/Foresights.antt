-- What is foreseen of a data command is what becomes of it.
use Rattle.std.proofs.Common.{◌≡◌, ℕ, Bool, true, false, cond, leb, ltb, Some, Result, Ok, Err, is_ok, List, length, refl, sym, ap, subst, ◌∙◌, ◌⊎◌, inl, inr, ◌≤◌, arith}
use Rattle.std.specs.Prelude.{◌&&◌, not, IfOk}
use Rattle.std.proofs.lemmas.Bool.Decides.{nat_tests}
use Rattle.enet_codec.specs.declared.stop.Stop.{Stop}
use Rattle.enet_codec.specs.declared.stop.Stop.TheVariants as stop
use Rattle.enet_codec.specs.Message.{Message, Body, acknowledge, connect, verify_connect, disconnect, ping, send_reliable, send_unreliable, send_fragment, send_unsequenced, bandwidth_limit, throttle_configure, send_unreliable_fragment}
use Rattle.enet_unsequenced.specs.Groups.{dispatches}
use Rattle.enet_codec.specs.declared.command.Head.{Head}
use Rattle.enet_fragment.specs.declared.data.DataCommand.{DataCommand}
use Rattle.enet_fragment.specs.DataCommand.{data_of}
use Rattle.enet_inbox.specs.Inbox.{Inbox, is_full, given_way}
use Rattle.enet_inbox.specs.DataEffect.{DataEffect, arrival, plain_arrival, makes_room, met, is_waiting, arrival_of, handled, is_kept, is_kept_of, sequenced, stopped, unsequenced, unsequenced_taken}
use Rattle.enet_inbox.specs.Private.Invariant.{HasFront}
use Rattle.enet_inbox.specs.InboxParts.{foreseen, plain_foreseen, with_room, foreseen_of, foreseen_sequenced, foresight_of, seen_of, seen_by, seen_new, told, unsequenced_verdict}
use Rattle.enet_inbox.specs.Private.InboxParts.{met_by, FindsRoom}
use Rattle.enet_inbox.specs.declared.arriving.Foreseen.{Foreseen}
use Rattle.enet_inbox.proofs.Rooms.{IsUnsequenced, IsSequenced, MakesRoom, kind, data-sequenced, either, room_made, room_kept}
use Rattle.enet_receiver.specs.declared.took.Took.{Took}
use Rattle.enet_receiver.specs.declared.took.Took.TheVariants.{Held, Again, Outside, Bad, Waiting, Memory}
use Rattle.enet_receiver.specs.declared.took.Foresight.{Foresight}
use Rattle.enet_inbox.proofs.Outcomes.{told_sequenced, kept_sequenced}

-- an unsequenced packet, by its tests
abbrev verdict_by : Bool → Bool → Bool → Bool → Result Bool Stop
verdict_by far long new full = cond far (Err stop.BadChannel) (cond long (Err stop.BadFragment) (cond (not new) (Ok false) (cond full (Err stop.Waiting) (Ok true))))

abbrev arrival_by : Bool → Bool → Bool → Bool → Inbox → Inbox → DataEffect
arrival_by far long new full b taken =
    cond far (stopped b stop.BadChannel) (cond long (stopped b stop.BadFragment) (cond (not new) (handled b true) (cond full (stopped b stop.Waiting) (handled taken true))))

told_new : (far long new full : Bool) (b taken : Inbox) → told (seen_new (verdict_by far long new full)) ≡ (arrival_by far long new full b taken).answer
told_new true long new full b taken = refl
told_new false true new full b taken = refl
told_new false false false full b taken = refl
told_new false false true true b taken = refl
told_new false false true false b taken = refl

kept_new : (far long new full : Bool) (s : Foreseen) → seen_new (verdict_by far long new full) ≡ Ok s → s.kept ≡ new
kept_new true long new full s e = absurd (cc)
kept_new false true new full s e = absurd (cc)
kept_new false false false full s e = let same : record { acknowledged = true; kept = false; makes_room = false; dispatches = 0 } ≡ s = cc in ap (λ (x : Foreseen). x.kept) (sym same)
kept_new false false true true s e = absurd (cc)
kept_new false false true false s e = let same : record { acknowledged = true; kept = true; makes_room = false; dispatches = 1 } ≡ s = cc in ap (λ (x : Foreseen). x.kept) (sym same)

takes_new : (far long new full : Bool) (b taken : Inbox) (s : Foreseen) → seen_new (verdict_by far long new full) ≡ Ok s → s.kept ≡ true → (arrival_by far long new full b taken).after ≡ taken
takes_new true long new full b taken s e k = absurd (cc)
takes_new false true new full b taken s e k = absurd (cc)
takes_new false false false full b taken s e k = absurd (let kept = kept_new false false false full s e in cc)
takes_new false false true true b taken s e k = absurd (cc)
takes_new false false true false b taken s e k = refl

-- an unsequenced packet of which something is kept
pub unsequenced_kept : (b : Inbox) (channel group : ℕ) (payload : List ℕ) (s : Foreseen) → seen_new (unsequenced_verdict b channel group payload) ≡ Ok s → s.kept ≡ true
    → (dispatches b.seen group ≡ true) × ((unsequenced b channel group payload).after ≡ unsequenced_taken b channel group payload)
unsequenced_kept b channel group payload s e k =
    let far = leb (length b.receivers) channel in
    let long = ltb b.max_packet (length payload) in
    (sym (kept_new far long (dispatches b.seen group) (is_full b) s e) ∙ k, takes_new far long (dispatches b.seen group) (is_full b) b (unsequenced_taken b channel group payload) s e k)

-- the answer, and what is kept
record Is (b : Inbox) (m : Message) (body : Body) : Type 0 where
  answer : told (foreseen_of b m body) ≡ (arrival_of b m body).answer
  kept : (s : Foreseen) → foreseen_of b m body ≡ Ok s → s.kept ≡ is_kept_of b m body

is-of : (b : Inbox) (m : Message) (body : Body) → HasFront b m.head.channel → Is b m body
is-of b m (send_unsequenced group payload) h =
    let far = leb (length b.receivers) m.head.channel in
    let long = ltb b.max_packet (length payload) in
    let taken = unsequenced_taken b m.head.channel group payload in
    record {
      answer = told_new far long (dispatches b.seen group) (is_full b) b taken;
      kept = λ s e. kept_new far long (dispatches b.seen group) (is_full b) s e;
    }
is-of b m (acknowledge n t) h = record { answer = told_sequenced b m.head.channel (data_of m) h; kept = kept_sequenced b m.head.channel (data_of m) }
is-of b m (connect o) h = record { answer = told_sequenced b m.head.channel (data_of m) h; kept = kept_sequenced b m.head.channel (data_of m) }
is-of b m (verify_connect v) h = record { answer = told_sequenced b m.head.channel (data_of m) h; kept = kept_sequenced b m.head.channel (data_of m) }
is-of b m (disconnect i) h = record { answer = told_sequenced b m.head.channel (data_of m) h; kept = kept_sequenced b m.head.channel (data_of m) }
is-of b m ping h = record { answer = told_sequenced b m.head.channel (data_of m) h; kept = kept_sequenced b m.head.channel (data_of m) }
is-of b m (send_reliable p) h = record { answer = told_sequenced b m.head.channel (data_of m) h; kept = kept_sequenced b m.head.channel (data_of m) }
is-of b m (send_unreliable n p) h = record { answer = told_sequenced b m.head.channel (data_of m) h; kept = kept_sequenced b m.head.channel (data_of m) }
is-of b m (send_fragment f p) h = record { answer = told_sequenced b m.head.channel (data_of m) h; kept = kept_sequenced b m.head.channel (data_of m) }
is-of b m (bandwidth_limit i o) h = record { answer = told_sequenced b m.head.channel (data_of m) h; kept = kept_sequenced b m.head.channel (data_of m) }
is-of b m (throttle_configure i a d) h = record { answer = told_sequenced b m.head.channel (data_of m) h; kept = kept_sequenced b m.head.channel (data_of m) }
is-of b m (send_unreliable_fragment f p) h = record { answer = told_sequenced b m.head.channel (data_of m) h; kept = kept_sequenced b m.head.channel (data_of m) }

plain-told : (b : Inbox) (m : Message) → HasFront b m.head.channel → told (plain_foreseen b m) ≡ (plain_arrival b m).answer
plain-told b m h = (is-of b m m.body h).answer

told-room : (r : Result Bool Stop) → told (with_room r) ≡ r
told-room (Err why) = refl
told-room (Ok may) = refl

abbrev foreseen-by : Bool → Inbox → Message → Result Foreseen Stop
foreseen-by t b m = cond t (with_room (plain_arrival (given_way b) m).answer) (plain_foreseen b m)

told-met : (t : Bool) (b : Inbox) (m : Message) → HasFront b m.head.channel → told (foreseen-by t b m) ≡ (plain_arrival (met_by t b) m).answer
told-met true b m h = told-room (plain_arrival (given_way b) m).answer
told-met false b m h = plain-told b m h

pub told_is : (b : Inbox) (m : Message) → HasFront b m.head.channel → told (foreseen b m) ≡ (arrival b m).answer
told_is b m h = told-met (makes_room b m) b m h

in-room : (r : Result Bool Stop) (s : Foreseen) → with_room r ≡ Ok s → (s.kept ≡ true) × (s.makes_room ≡ true) × (s.dispatches ≡ 0)
in-room (Err why) s e = absurd (cc)
in-room (Ok may) s e =
    let same : record { acknowledged = may; kept = true; makes_room = true; dispatches = 0 } ≡ s = cc in
    (ap (λ (x : Foreseen). x.kept) (sym same), ap (λ (x : Foreseen). x.makes_room) (sym same), ap (λ (x : Foreseen). x.dispatches) (sym same))

kept-met : (t : Bool) (b : Inbox) (m : Message) (s : Foreseen) → HasFront b m.head.channel → makes_room b m ≡ t → foreseen-by t b m ≡ Ok s → s.kept ≡ is_kept_of (met_by t b) m m.body
kept-met true b m s h made e = (in-room (plain_arrival (given_way b) m).answer s e).0 ∙ sym (room_kept b m made)
kept-met false b m s h made e = (is-of b m m.body h).kept s e

pub kept_is : (b : Inbox) (m : Message) (s : Foreseen) → HasFront b m.head.channel → foreseen b m ≡ Ok s → s.kept ≡ is_kept b m
kept_is b m s h e = kept-met (makes_room b m) b m s h refl e

-- where it finds room, or none is wanted, what is foreseen is that of the plain command
no-room : (b : Inbox) (m : Message) (r : Result Bool Stop) → is_waiting r ≡ false → foreseen-by (is_waiting r && is_ok (plain_arrival (given_way b) m).answer) b m ≡ plain_foreseen b m
no-room b m r e = ap (λ w. foreseen-by (w && is_ok (plain_arrival (given_way b) m).answer) b m) e

pub foreseen_plainly : (b : Inbox) (m : Message) → HasFront b m.head.channel → is_waiting (told (plain_foreseen b m)) ≡ false → foreseen b m ≡ plain_foreseen b m
foreseen_plainly b m h e = no-room b m (plain_arrival b m).answer (ap is_waiting (sym (plain-told b m h)) ∙ e)

is-stopped : (r : Result Foreseen Stop) → is_waiting (told r) ≡ true → r ≡ Err stop.Waiting
is-stopped (Ok s) e = absurd (cc)
is-stopped (Err stop.Waiting) e = refl
is-stopped (Err why) e = absurd (cc)

by-room : (b : Inbox) (m : Message) (r : Result Bool Stop) → plain_foreseen b m ≡ Err stop.Waiting → (plain_arrival (given_way b) m).answer ≡ r → (r ≡ Err stop.Waiting) ⊎ ((may : Bool) × (r ≡ Ok may))
    → cond (is_ok r) (with_room r) (plain_foreseen b m) ≡ with_room r
by-room b m (Ok may) e at k = refl
by-room b m (Err why) e at (inl k) = e ∙ ap with_room (sym k)
by-room b m (Err why) e at (inr k) = absurd (let f = k.1 in cc)

pub stopped_plainly : (b : Inbox) (m : Message) → HasFront b m.head.channel → is_waiting (told (plain_foreseen b m)) ≡ true → (plain_arrival b m).answer ≡ Err stop.Waiting
stopped_plainly b m h e = sym (plain-told b m h) ∙ ap told (is-stopped (plain_foreseen b m) e)

pub foreseen_in_room : (b : Inbox) (m : Message) → HasFront b m.head.channel → is_waiting (told (plain_foreseen b m)) ≡ true → foreseen b m ≡ with_room (plain_arrival (given_way b) m).answer
foreseen_in_room b m h e =
    let stopped = stopped_plainly b m h e in
    let r = (plain_arrival (given_way b) m).answer in
    ap (λ w. foreseen-by (is_waiting w && is_ok r) b m) stopped ∙ by-room b m r (is-stopped (plain_foreseen b m) e) refl (either b m stopped)

-- what is handed on says whether a command makes room
new-plain : (r : Result Bool Stop) (s : Foreseen) → seen_new r ≡ Ok s → s.makes_room ≡ false
new-plain (Err why) s e = absurd (cc)
new-plain (Ok n) s e = let same : record { acknowledged = true; kept = n; makes_room = false; dispatches = cond n 1 0 } ≡ s = cc in ap (λ (x : Foreseen). x.makes_room) (sym same)

seen-plain : (t : Took) (f : Foresight) (s : Foreseen) → seen_by t f ≡ Ok s → s.makes_room ≡ false
seen-plain Held f s e = let same : record { acknowledged = f.acknowledged; kept = true; makes_room = false; dispatches = f.dispatches } ≡ s = cc in ap (λ (x : Foreseen). x.makes_room) (sym same)
seen-plain Again f s e = let same : record { acknowledged = f.acknowledged; kept = false; makes_room = false; dispatches = f.dispatches } ≡ s = cc in ap (λ (x : Foreseen). x.makes_room) (sym same)
seen-plain Outside f s e = let same : record { acknowledged = f.acknowledged; kept = false; makes_room = false; dispatches = f.dispatches } ≡ s = cc in ap (λ (x : Foreseen). x.makes_room) (sym same)
seen-plain Bad f s e = absurd (cc)
seen-plain Waiting f s e = absurd (cc)
seen-plain Memory f s e = absurd (cc)

foresight-plain : (r : Result Foresight Stop) (s : Foreseen) → seen_of r ≡ Ok s → s.makes_room ≡ false
foresight-plain (Err why) s e = absurd (cc)
foresight-plain (Ok f) s e = seen-plain f.took f s e

plain-of : (b : Inbox) (m : Message) (body : Body) (s : Foreseen) → IsUnsequenced body ⊎ IsSequenced m body → foreseen_of b m body ≡ Ok s → s.makes_room ≡ false
plain-of b m body s (inl u) e = new-plain (unsequenced_verdict b m.head.channel u.0 u.1) s (ap (foreseen_of b m) (sym u.2) ∙ e)
plain-of b m body s (inr q) e = foresight-plain (foresight_of b m.head.channel (data_of m)) s (sym (q.foreseen b) ∙ e)

pub record Meets (b : Inbox) (m : Message) (what : Foreseen) : Type 0 where
  pub met : met_by what.makes_room b ≡ met b m
  pub plain : what.makes_room ≡ false → plain_foreseen b m ≡ Ok what
  pub room : what.makes_room ≡ true → MakesRoom b m
  pub not_told : what.makes_room ≡ true → what.dispatches ≡ 0

meets-by : (t : Bool) (b : Inbox) (m : Message) (what : Foreseen) → makes_room b m ≡ t → foreseen-by t b m ≡ Ok what → Meets b m what
meets-by true b m what made e =
    let k = in-room (plain_arrival (given_way b) m).answer what e in
    record {
      met = ap (λ t. met_by t b) (k.1 ∙ sym made);
      plain = λ p. absurd (let y = k.1 in cc);
      room = λ p. room_made b m made;
      not_told = λ p. k.2;
    }
meets-by false b m what made e =
    let k = plain-of b m m.body what (kind m m.body) e in
    record {
      met = ap (λ t. met_by t b) (k ∙ sym made);
      plain = λ p. e;
      room = λ p. absurd (cc);
      not_told = λ p. absurd (cc);
    }

pub meets : (b : Inbox) (m : Message) (what : Foreseen) → foreseen b m ≡ Ok what → Meets b m what
meets b m what e = meets-by (makes_room b m) b m what refl e

-- what is foreseen to be kept is
pub if_kept : (b : Inbox) (m : Message) (r : Result Foreseen Stop) → HasFront b m.head.channel → r ≡ foreseen b m → IfOk r (λ s. s.kept ≡ is_kept b m)
if_kept b m (Err why) h e = tt
if_kept b m (Ok s) h e = kept_is b m s h (sym e)

-- ---- what is handed on is taken in

pub record MeetsAt (b : Inbox) (m : Message) (channel : ℕ) (c : DataCommand) (what : Foreseen) : Type 0 where
  pub plain : what.makes_room ≡ false → foreseen_sequenced b channel (Some c) ≡ Ok what
  pub room : what.makes_room ≡ true → FindsRoom b channel (Some c)
  pub not_told : what.makes_room ≡ true → what.dispatches ≡ 0
  pub after : (sequenced (met_by what.makes_room b) channel (Some c)).after ≡ (arrival b m).after

meets-here : (b : Inbox) (m : Message) (c : DataCommand) (what : Foreseen) → foreseen b m ≡ Ok what → data_of m ≡ Some c → MeetsAt b m m.head.channel c what
meets-here b m c what e is =
    let k = meets b m what e in
    let s = data-sequenced m c is (kind m m.body) in
    record {
      plain = λ p. ap (foreseen_sequenced b m.head.channel) (sym is) ∙ sym (s.foreseen b) ∙ k.plain p;
      room = λ p.
          (let r = k.room p in
          record {
            none_yet = ap (λ o. (sequenced b m.head.channel o).answer) (sym is) ∙ ap (λ (x : DataEffect). x.answer) (sym (s.arrives b)) ∙ r.none_yet;
            then_room = ap (λ o. is_ok (sequenced (given_way b) m.head.channel o).answer) (sym is) ∙ ap (λ (x : DataEffect). is_ok x.answer) (sym (s.arrives (given_way b))) ∙ r.then_room;
          });
      not_told = k.not_told;
      after =
          ap (λ o. (sequenced (met_by what.makes_room b) m.head.channel o).after) (sym is)
          ∙ ap (λ (x : DataEffect). x.after) (sym (s.arrives (met_by what.makes_room b)))
          ∙ ap (λ (x : Inbox). (plain_arrival x m).after) k.met;
    }

pub meets_sequenced : (b : Inbox) (m : Message) (own : Head) (c : DataCommand) (what : Foreseen) → foreseen b m ≡ Ok what → own ≡ m.head → Some c ≡ data_of m → MeetsAt b m own.channel c what
meets_sequenced b m own c what e is same = subst (λ (h : Head). MeetsAt b m h.channel c what) (sym is) (meets-here b m c what e (sym same))

taken-new : (far long new full : Bool) (b taken : Inbox) → new ≡ true → is_ok (arrival_by far long new full b taken).answer ≡ true → (arrival_by far long new full b taken).after ≡ taken
taken-new true long new full b taken n e = absurd (cc)
taken-new false true new full b taken n e = absurd (cc)
taken-new false false false full b taken n e = absurd (cc)
taken-new false false true true b taken n e = absurd (cc)
taken-new false false true false b taken n e = refl

-- and it is short, and there is room for it
room-new : (far long new full : Bool) (b taken : Inbox) → new ≡ true → is_ok (arrival_by far long new full b taken).answer ≡ true → (full ≡ false) × (long ≡ false)
room-new true long new full b taken n e = absurd (cc)
room-new false true new full b taken n e = absurd (cc)
room-new false false false full b taken n e = absurd (cc)
room-new false false true true b taken n e = absurd (cc)
room-new false false true false b taken n e = (refl, refl)

room-kept : (far long new full : Bool) (s : Foreseen) → seen_new (verdict_by far long new full) ≡ Ok s → s.kept ≡ true → (full ≡ false) × (long ≡ false)
room-kept true long new full s e k = absurd (cc)
room-kept false true new full s e k = absurd (cc)
room-kept false false false full s e k = absurd (let kept = kept_new false false false full s e in cc)
room-kept false false true true s e k = absurd (cc)
room-kept false false true false s e k = (refl, refl)

not-long : (most n : ℕ) → ltb most n ≡ false → n ≤ most
not-long most n e = grind (arith, nat_tests)

pub record MeetsNew (b : Inbox) (m : Message) (channel group : ℕ) (payload : List ℕ) (what : Foreseen) : Type 0 where
  pub is_new : dispatches b.seen group ≡ true
  pub room : is_full (met_by what.makes_room b) ≡ false
  pub short : length payload ≤ b.max_packet
  pub after : unsequenced_taken (met_by what.makes_room b) channel group payload ≡ (arrival b m).after

new-by : (t : Bool) (b : Inbox) (h : Head) (group : ℕ) (payload : List ℕ) (what : Foreseen) → makes_room b (record { head = h; body = send_unsequenced group payload }) ≡ t
    → foreseen-by t b (record { head = h; body = send_unsequenced group payload }) ≡ Ok what → what.kept ≡ true
    → (dispatches b.seen group ≡ true) × (unsequenced_taken (met_by what.makes_room b) h.channel group payload ≡ (unsequenced (met_by t b) h.channel group payload).after)
    × (is_full (met_by what.makes_room b) ≡ false)
    × (length payload ≤ b.max_packet)
new-by true b h group payload what made e kept =
    let m : Message = record { head = h; body = send_unsequenced group payload } in
    let g = given_way b in
    let is_new : dispatches b.seen group ≡ true = room_kept b m made in
    let room = (room_made b m made).then_room in
    let after : (unsequenced g h.channel group payload).after ≡ unsequenced_taken g h.channel group payload =
    taken-new (leb (length g.receivers) h.channel) (ltb b.max_packet (length payload)) (dispatches b.seen group) (is_full g) g (unsequenced_taken g h.channel group payload) is_new room in
    let makes = (in-room (plain_arrival g m).answer what e).1 in
    let fits = room-new (leb (length g.receivers) h.channel) (ltb b.max_packet (length payload)) (dispatches b.seen group) (is_full g) g (unsequenced_taken g h.channel group payload) is_new room in (
      is_new,
      ap (λ t. unsequenced_taken (met_by t b) h.channel group payload) makes ∙ sym after,
      ap (λ t. is_full (met_by t b)) makes ∙ fits.0,
      not-long b.max_packet (length payload) fits.1,
    )
new-by false b h group payload what made e kept =
    let k = unsequenced_kept b h.channel group payload what e kept in
    let plain = new-plain (unsequenced_verdict b h.channel group payload) what e in
    let fits = room-kept (leb (length b.receivers) h.channel) (ltb b.max_packet (length payload)) (dispatches b.seen group) (is_full b) what e kept in (
      k.0,
      ap (λ t. unsequenced_taken (met_by t b) h.channel group payload) plain ∙ sym k.1,
      ap (λ t. is_full (met_by t b)) plain ∙ fits.0,
      not-long b.max_packet (length payload) fits.1,
    )

pub meets_unsequenced : (b : Inbox) (h : Head) (group : ℕ) (payload : List ℕ) (what : Foreseen) → foreseen b (record { head = h; body = send_unsequenced group payload }) ≡ Ok what → what.kept ≡ true
    → MeetsNew b (record { head = h; body = send_unsequenced group payload }) h.channel group payload what
meets_unsequenced b h group payload what e kept =
    let k = new-by (makes_room b (record { head = h; body = send_unsequenced group payload })) b h group payload what refl e kept in
    record { is_new = k.0; after = k.1; room = k.2; short = k.3 }
