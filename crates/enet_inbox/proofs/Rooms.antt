-- What a command meets that finds no room until the unreliable packets that wait give way.
use Rattle.std.proofs.Common.{◌≡◌, ℕ, Bool, true, false, cond, leb, ltb, ◌⊎◌, inl, inr, Option, Some, None, Result, Ok, Err, is_ok, List, length, refl, sym, ap, subst, ◌∙◌}
use Rattle.std.specs.Prelude.{◌&&◌, not, slice_get}
use Rattle.std.proofs.lemmas.List.{length-map}
use Rattle.std.proofs.lemmas.Option.{slice_get-map}
use Rattle.std.specs.Option.{option_map}
use Rattle.enet_codec.specs.declared.stop.Stop.{Stop}
use Rattle.enet_codec.specs.declared.stop.Stop.TheVariants as stop
use Rattle.enet_codec.specs.Message.{Message, Body, acknowledge, connect, verify_connect, disconnect, ping, send_reliable, send_unreliable, send_fragment, send_unsequenced, bandwidth_limit, throttle_configure, send_unreliable_fragment}
use Rattle.enet_seq.specs.Windows.{acknowledges}
use Rattle.enet_unsequenced.specs.Groups.{dispatches}
use Rattle.enet_fragment.specs.declared.data.DataCommand.{DataCommand}
use Rattle.enet_fragment.specs.DataCommand.{data_of, read_of}
use Rattle.enet_codec.specs.declared.command.Head.{Head}
use Rattle.enet_receiver.specs.declared.took.Took.{Took}
use Rattle.enet_receiver.specs.declared.took.Took.TheVariants.{Held, Again, Outside, Bad, Waiting, Memory}
use Rattle.enet_receiver.specs.DataOutcome.{is_next}
use Rattle.enet_receiver.specs.Foresight.{ReceivingEnd, outcome_for}
use Rattle.enet_receiver.proofs.Alone.{full_where_waiting, outcome_alone}
use Rattle.enet_inbox.specs.Inbox.{Inbox, is_full, is_full_for, is_full_of_untaken, given_way, given_way_receiver}
use Rattle.enet_inbox.specs.DataEffect.{DataEffect, plain_arrival, arrival_of, sequenced, sequenced_on, by_took, unsequenced, unsequenced_taken, handled, stopped, is_waiting, makes_room, is_kept_of, is_kept_on, is_kept_as, is_kept_sequenced}
use Rattle.enet_inbox.specs.InboxParts.{foreseen_of, foreseen_sequenced}
use Rattle.enet_inbox.specs.Private.InboxParts.{answer_where, FindsRoom}

-- a command is an unsequenced packet, or what its channel's receiver makes of it
pub record IsSequenced (m : Message) (body : Body) : Type 0 where
  pub arrives : (b : Inbox) → arrival_of b m body ≡ sequenced b m.head.channel (data_of m)
  pub is_kept : (b : Inbox) → is_kept_of b m body ≡ is_kept_sequenced b m.head.channel (data_of m)
  pub foreseen : (b : Inbox) → foreseen_of b m body ≡ foreseen_sequenced b m.head.channel (data_of m)

abbrev pub IsUnsequenced : Body → Type 0
IsUnsequenced body = (group : ℕ) × (payload : List ℕ) × (body ≡ send_unsequenced group payload)

pub kind : (m : Message) (body : Body) → IsUnsequenced body ⊎ IsSequenced m body
kind m (send_unsequenced group payload) = inl (group, payload, refl)
kind m (acknowledge n t) = inr (record { arrives = λ b. refl; is_kept = λ b. refl; foreseen = λ b. refl })
kind m (connect o) = inr (record { arrives = λ b. refl; is_kept = λ b. refl; foreseen = λ b. refl })
kind m (verify_connect v) = inr (record { arrives = λ b. refl; is_kept = λ b. refl; foreseen = λ b. refl })
kind m (disconnect i) = inr (record { arrives = λ b. refl; is_kept = λ b. refl; foreseen = λ b. refl })
kind m ping = inr (record { arrives = λ b. refl; is_kept = λ b. refl; foreseen = λ b. refl })
kind m (send_reliable p) = inr (record { arrives = λ b. refl; is_kept = λ b. refl; foreseen = λ b. refl })
kind m (send_unreliable n p) = inr (record { arrives = λ b. refl; is_kept = λ b. refl; foreseen = λ b. refl })
kind m (send_fragment f p) = inr (record { arrives = λ b. refl; is_kept = λ b. refl; foreseen = λ b. refl })
kind m (bandwidth_limit i o) = inr (record { arrives = λ b. refl; is_kept = λ b. refl; foreseen = λ b. refl })
kind m (throttle_configure i a d) = inr (record { arrives = λ b. refl; is_kept = λ b. refl; foreseen = λ b. refl })
kind m (send_unreliable_fragment f p) = inr (record { arrives = λ b. refl; is_kept = λ b. refl; foreseen = λ b. refl })

-- ---- a sequenced command

took-waiting : (t : Took) (b : Inbox) (channel : ℕ) (r : ReceivingEnd) (c : DataCommand) → (by_took t b channel r c).answer ≡ Err stop.Waiting → t ≡ Waiting
took-waiting Held b channel r c e = absurd (cc)
took-waiting Again b channel r c e = absurd (cc)
took-waiting Outside b channel r c e = absurd (cc)
took-waiting Bad b channel r c e = absurd (cc)
took-waiting Waiting b channel r c e = refl
took-waiting Memory b channel r c e = absurd (cc)

-- the receiver of a channel, where a command of it finds no room
pub record IsAt (b : Inbox) (channel : ℕ) (c : DataCommand) (r : ReceivingEnd) : Type 0 where
  pub there : slice_get b.receivers channel ≡ Some r
  pub took : outcome_for r (Some c) (is_full_for b r c) ≡ Waiting

on-receiver : (b : Inbox) (channel : ℕ) (c : DataCommand) (o : Option ReceivingEnd) → slice_get b.receivers channel ≡ o → (sequenced_on b channel c o).answer ≡ Err stop.Waiting
    → (r : ReceivingEnd) × IsAt b channel c r
on-receiver b channel c None at e = absurd (cc)
on-receiver b channel c (Some r) at e = (r, record { there = at; took = took-waiting (outcome_for r (Some c) (is_full_for b r c)) b channel r c e })

pub at_receiver : (b : Inbox) (channel : ℕ) (c : DataCommand) → (sequenced b channel (Some c)).answer ≡ Err stop.Waiting → (r : ReceivingEnd) × IsAt b channel c r
at_receiver b channel c e = on-receiver b channel c (slice_get b.receivers channel) refl e

-- a command that finds no room is data
pub is_data : (b : Inbox) (channel : ℕ) (o : Option DataCommand) → (sequenced b channel o).answer ≡ Err stop.Waiting → (c : DataCommand) × (o ≡ Some c)
is_data b channel None e = absurd (cc)
is_data b channel (Some c) e = (c, refl)

pub there_too : (b : Inbox) (channel : ℕ) (c : DataCommand) (r : ReceivingEnd) → IsAt b channel c r → slice_get (given_way b).receivers channel ≡ Some (given_way_receiver r)
there_too b channel c r at = slice_get-map given_way_receiver b.receivers channel ∙ ap (option_map given_way_receiver) at.there

-- what it meets once the others have given way
pub given_way_to : (b : Inbox) (channel : ℕ) (c : DataCommand) (r : ReceivingEnd) → IsAt b channel c r
    → sequenced (given_way b) channel (Some c) ≡ by_took (cond (is_full_for (given_way b) (given_way_receiver r) c) Waiting Held) (given_way b) channel (given_way_receiver r) c
given_way_to b channel c r at =
    ap (sequenced_on (given_way b) channel c) (there_too b channel c r at)
    ∙ ap (λ t. by_took t (given_way b) channel (given_way_receiver r) c)
    (outcome_alone r.max_packet r.receiver c (is_full_for b r c) (is_full_for (given_way b) (given_way_receiver r) c) at.took)

took-by : (full : Bool) (b : Inbox) (channel : ℕ) (r : ReceivingEnd) (c : DataCommand) → (by_took (cond full Waiting Held) b channel r c).answer ≡ answer_where full r c
took-by true b channel r c = refl
took-by false b channel r c = refl

pub answer_then : (b : Inbox) (channel : ℕ) (c : DataCommand) (r : ReceivingEnd) → IsAt b channel c r
    → (sequenced (given_way b) channel (Some c)).answer ≡ answer_where (is_full_for (given_way b) (given_way_receiver r) c) (given_way_receiver r) c
answer_then b channel c r at =
    ap (λ (x : DataEffect). x.answer) (given_way_to b channel c r at)
    ∙ took-by (is_full_for (given_way b) (given_way_receiver r) c) (given_way b) channel (given_way_receiver r) c

-- nothing makes room for the next packet of its channel
next-full : (next untaken waiting after : Bool) → next ≡ true → cond next untaken waiting ≡ true → cond next untaken after ≡ true
next-full true untaken waiting after e h = h
next-full false untaken waiting after e h = absurd (cc)

pub full_for_next : (b : Inbox) (channel : ℕ) (c : DataCommand) (r : ReceivingEnd) → IsAt b channel c r → is_next r.receiver c ≡ true → is_full_for (given_way b) (given_way_receiver r) c ≡ true
full_for_next b channel c r at next =
    next-full (is_next r.receiver c) (is_full_of_untaken b) (is_full b) (is_full (given_way b)) next
    (full_where_waiting r.max_packet r.receiver c (is_full_for b r c) at.took)

full-so : (next untaken waiting after : Bool) → cond next untaken waiting ≡ true → after ≡ true → cond next untaken after ≡ true
full-so true untaken waiting after h e = h
full-so false untaken waiting after h e = e

pub full_for_all : (b : Inbox) (channel : ℕ) (c : DataCommand) (r : ReceivingEnd) → IsAt b channel c r → is_full (given_way b) ≡ true → is_full_for (given_way b) (given_way_receiver r) c ≡ true
full_for_all b channel c r at full =
    full-so (is_next r.receiver c) (is_full_of_untaken b) (is_full b) (is_full (given_way b))
    (full_where_waiting r.max_packet r.receiver c (is_full_for b r c) at.took) full

room-so : (next untaken after : Bool) → next ≡ false → after ≡ false → cond next untaken after ≡ false
room-so true untaken after e h = absurd (cc)
room-so false untaken after e h = h

pub room_for : (b : Inbox) (c : DataCommand) (r : ReceivingEnd) → is_next r.receiver c ≡ false → is_full (given_way b) ≡ false → is_full_for (given_way b) (given_way_receiver r) c ≡ false
room_for b c r next full = room-so (is_next r.receiver c) (is_full_of_untaken b) (is_full (given_way b)) next full

-- where it finds room it is taken in
kept-so : (full : Bool) (may : Bool) → is_ok (cond full (Err stop.Waiting) (Ok may)) ≡ true → full ≡ false
kept-so true may e = absurd (cc)
kept-so false may e = refl

pub record Makes (b : Inbox) (channel : ℕ) (c : DataCommand) : Type 0 where
  pub receiver : ReceivingEnd
  pub at : IsAt b channel c receiver
  pub room : is_full_for (given_way b) (given_way_receiver receiver) c ≡ false

pub makes : (b : Inbox) (channel : ℕ) (c : DataCommand) → FindsRoom b channel (Some c) → Makes b channel c
makes b channel c h =
    let found = at_receiver b channel c h.none_yet in
    record {
      receiver = found.0;
      at = found.1;
      room =
          kept-so (is_full_for (given_way b) (given_way_receiver found.0) c) (acknowledges found.0.receiver.front c.number)
          (ap is_ok (sym (answer_then b channel c found.0 found.1)) ∙ h.then_room);
    }

pub outcome_then : (b : Inbox) (channel : ℕ) (c : DataCommand) (k : Makes b channel c) → outcome_for (given_way_receiver k.receiver) (Some c) false ≡ Held
outcome_then b channel c k = outcome_alone k.receiver.max_packet k.receiver.receiver c (is_full_for b k.receiver c) false k.at.took

kept-sequenced : (b : Inbox) (channel : ℕ) (o : Option DataCommand) → FindsRoom b channel o → is_kept_sequenced (given_way b) channel o ≡ true
kept-sequenced b channel None h = absurd (let e = h.none_yet in cc)
kept-sequenced b channel (Some c) h =
    let k = makes b channel c h in
    ap (is_kept_on (given_way b) c) (there_too b channel c k.receiver k.at)
    ∙ ap is_kept_as (outcome_alone k.receiver.max_packet k.receiver.receiver c (is_full_for b k.receiver c) (is_full_for (given_way b) (given_way_receiver k.receiver) c) k.at.took ∙ ap (λ t. cond t Waiting Held) k.room)

one-of-two : (full may : Bool) → (cond full (Err stop.Waiting) (Ok may) ≡ Err stop.Waiting) ⊎ ((x : Bool) × (cond full (Err stop.Waiting) (Ok may) ≡ Ok x))
one-of-two true may = inl refl
one-of-two false may = inr (may, refl)

abbrev StopsOrMay : Result Bool Stop → Type 0
StopsOrMay r = (r ≡ Err stop.Waiting) ⊎ ((may : Bool) × (r ≡ Ok may))

either-sequenced : (b : Inbox) (channel : ℕ) (o : Option DataCommand) → (sequenced b channel o).answer ≡ Err stop.Waiting → StopsOrMay (sequenced (given_way b) channel o).answer
either-sequenced b channel None e = absurd (cc)
either-sequenced b channel (Some c) e =
    let found = at_receiver b channel c e in
    rw (answer_then b channel c found.0 found.1) (one-of-two (is_full_for (given_way b) (given_way_receiver found.0) c) (acknowledges found.0.receiver.front c.number))

-- ---- an unsequenced packet, by its tests

abbrev effect_by : Bool → Bool → Bool → Bool → Inbox → Inbox → DataEffect
effect_by far long new full b taken =
    cond far (stopped b stop.BadChannel) (cond long (stopped b stop.BadFragment) (cond (not new) (handled b true) (cond full (stopped b stop.Waiting) (handled taken true))))

record IsNew (far long new : Bool) : Type 0 where
  near : far ≡ false
  short : long ≡ false
  is_new : new ≡ true

new-so : (far long new full : Bool) (b taken : Inbox) → (effect_by far long new full b taken).answer ≡ Err stop.Waiting → IsNew far long new
new-so true long new full b taken e = absurd (cc)
new-so false true new full b taken e = absurd (cc)
new-so false false false full b taken e = absurd (cc)
new-so false false true full b taken e = record { near = refl; short = refl; is_new = refl }

answer-new : (far long new full : Bool) (b taken : Inbox) → IsNew far long new → (effect_by far long new full b taken).answer ≡ cond full (Err stop.Waiting) (Ok true)
answer-new true long new full b taken k = absurd (let e = k.near in cc)
answer-new false true new full b taken k = absurd (let e = k.short in cc)
answer-new false false false full b taken k = absurd (let e = k.is_new in cc)
answer-new false false true true b taken k = refl
answer-new false false true false b taken k = refl

pub record IsNewPacket (b : Inbox) (channel group : ℕ) (payload : List ℕ) : Type 0 where
  pub is_new : dispatches b.seen group ≡ true
  pub answer : (unsequenced (given_way b) channel group payload).answer ≡ cond (is_full (given_way b)) (Err stop.Waiting) (Ok true)

pub new_packet : (b : Inbox) (channel group : ℕ) (payload : List ℕ) → (unsequenced b channel group payload).answer ≡ Err stop.Waiting → IsNewPacket b channel group payload
new_packet b channel group payload e =
    let far = leb (length b.receivers) channel in
    let long = ltb b.max_packet (length payload) in
    let k = new-so far long (dispatches b.seen group) (is_full b) b (unsequenced_taken b channel group payload) e in
    let same : leb (length (given_way b).receivers) channel ≡ far = ap (λ n. leb n channel) (length-map b.receivers given_way_receiver) in
    record {
      is_new = k.is_new;
      answer =
          ap (λ f. (effect_by f long (dispatches b.seen group) (is_full (given_way b)) (given_way b) (unsequenced_taken (given_way b) channel group payload)).answer) same
          ∙ answer-new far long (dispatches b.seen group) (is_full (given_way b)) (given_way b) (unsequenced_taken (given_way b) channel group payload) k;
    }

-- ---- any command

either-of : (b : Inbox) (m : Message) (body : Body) → IsUnsequenced body ⊎ IsSequenced m body → (arrival_of b m body).answer ≡ Err stop.Waiting → StopsOrMay (arrival_of (given_way b) m body).answer
either-of b m body (inl u) e =
    let at : (c : Inbox) → arrival_of c m body ≡ unsequenced c m.head.channel u.0 u.1 = λ c. ap (arrival_of c m) u.2 in
    let n = new_packet b m.head.channel u.0 u.1 (ap (λ (x : DataEffect). x.answer) (sym (at b)) ∙ e) in
    rw (at (given_way b), n.answer) (one-of-two (is_full (given_way b)) true)
either-of b m body (inr s) e =
    rw (s.arrives (given_way b)) (either-sequenced b m.head.channel (data_of m) (ap (λ (x : DataEffect). x.answer) (sym (s.arrives b)) ∙ e))

-- a command that finds no room finds none then either, or is taken in
pub either : (b : Inbox) (m : Message) → (plain_arrival b m).answer ≡ Err stop.Waiting → StopsOrMay (plain_arrival (given_way b) m).answer
either b m e = either-of b m m.body (kind m m.body) e

is-stopped : (r : Result Bool Stop) → is_waiting r ≡ true → r ≡ Err stop.Waiting
is-stopped (Ok may) e = absurd (cc)
is-stopped (Err stop.Waiting) e = refl
is-stopped (Err why) e = absurd (cc)

both : (a b : Bool) → (a && b) ≡ true → (a ≡ true) × (b ≡ true)
both true true e = (refl, refl)
both true false e = absurd (cc)
both false b e = absurd (cc)

-- what makes room is known
pub record MakesRoom (b : Inbox) (m : Message) : Type 0 where
  pub none_yet : (plain_arrival b m).answer ≡ Err stop.Waiting
  pub then_room : is_ok (plain_arrival (given_way b) m).answer ≡ true

pub room_made : (b : Inbox) (m : Message) → makes_room b m ≡ true → MakesRoom b m
room_made b m e =
    let k = both (is_waiting (plain_arrival b m).answer) (is_ok (plain_arrival (given_way b) m).answer) e in
    record { none_yet = is-stopped (plain_arrival b m).answer k.0; then_room = k.1 }

kept-of : (b : Inbox) (m : Message) (body : Body) → IsUnsequenced body ⊎ IsSequenced m body → (arrival_of b m body).answer ≡ Err stop.Waiting → is_ok (arrival_of (given_way b) m body).answer ≡ true
    → is_kept_of (given_way b) m body ≡ true
kept-of b m body (inl u) e t =
    let at : (c : Inbox) → arrival_of c m body ≡ unsequenced c m.head.channel u.0 u.1 = λ c. ap (arrival_of c m) u.2 in
    let n = new_packet b m.head.channel u.0 u.1 (ap (λ (x : DataEffect). x.answer) (sym (at b)) ∙ e) in
    ap (is_kept_of (given_way b) m) u.2 ∙ n.is_new
kept-of b m body (inr s) e t =
    s.is_kept (given_way b) ∙ kept-sequenced b m.head.channel (data_of m) (record {
      none_yet = ap (λ (x : DataEffect). x.answer) (sym (s.arrives b)) ∙ e;
      then_room = ap (λ (x : DataEffect). is_ok x.answer) (sym (s.arrives (given_way b))) ∙ t;
    })

-- something is kept of a command that makes room
pub room_kept : (b : Inbox) (m : Message) → makes_room b m ≡ true → is_kept_of (given_way b) m m.body ≡ true
room_kept b m e = let k = room_made b m e in kept-of b m m.body (kind m m.body) k.none_yet k.then_room

-- ---- the tests of a command that finds no room

full-of : (b : Inbox) (m : Message) (body : Body) → IsUnsequenced body ⊎ IsSequenced m body → (arrival_of b m body).answer ≡ Err stop.Waiting → is_full (given_way b) ≡ true
    → (arrival_of (given_way b) m body).answer ≡ Err stop.Waiting
full-of b m body (inl u) e full =
    let at : (c : Inbox) → arrival_of c m body ≡ unsequenced c m.head.channel u.0 u.1 = λ c. ap (arrival_of c m) u.2 in
    let n = new_packet b m.head.channel u.0 u.1 (ap (λ (x : DataEffect). x.answer) (sym (at b)) ∙ e) in
    ap (λ (x : DataEffect). x.answer) (at (given_way b)) ∙ n.answer ∙ ap (λ t. cond t (Err stop.Waiting) (Ok true)) full
full-of b m body (inr s) e full =
    let stopped : (sequenced b m.head.channel (data_of m)).answer ≡ Err stop.Waiting = ap (λ (x : DataEffect). x.answer) (sym (s.arrives b)) ∙ e in
    let d = is_data b m.head.channel (data_of m) stopped in
    let found = at_receiver b m.head.channel d.0 (ap (λ o. (sequenced b m.head.channel o).answer) (sym d.1) ∙ stopped) in
    ap (λ (x : DataEffect). x.answer) (s.arrives (given_way b))
    ∙ ap (λ o. (sequenced (given_way b) m.head.channel o).answer) d.1
    ∙ answer_then b m.head.channel d.0 found.0 found.1
    ∙ ap (λ t. answer_where t (given_way_receiver found.0) d.0) (full_for_all b m.head.channel d.0 found.0 found.1 full)

pub full_answer : (b : Inbox) (m : Message) → (plain_arrival b m).answer ≡ Err stop.Waiting → is_full (given_way b) ≡ true → (plain_arrival (given_way b) m).answer ≡ Err stop.Waiting
full_answer b m e full = full-of b m m.body (kind m m.body) e full

new-of : (b : Inbox) (m : Message) (body : Body) → IsUnsequenced body ⊎ IsSequenced m body → data_of m ≡ None → (arrival_of b m body).answer ≡ Err stop.Waiting → is_full (given_way b) ≡ false
    → (arrival_of (given_way b) m body).answer ≡ Ok true
new-of b m body (inl u) none e full =
    let at : (c : Inbox) → arrival_of c m body ≡ unsequenced c m.head.channel u.0 u.1 = λ c. ap (arrival_of c m) u.2 in
    let n = new_packet b m.head.channel u.0 u.1 (ap (λ (x : DataEffect). x.answer) (sym (at b)) ∙ e) in
    ap (λ (x : DataEffect). x.answer) (at (given_way b)) ∙ n.answer ∙ ap (λ t. cond t (Err stop.Waiting) (Ok true)) full
new-of b m body (inr s) none e full =
    absurd (let stopped : (sequenced b m.head.channel None).answer ≡ Err stop.Waiting = ap (λ o. (sequenced b m.head.channel o).answer) (sym none) ∙ ap (λ (x : DataEffect). x.answer) (sym (s.arrives b)) ∙ e in cc)

pub new_answer : (b : Inbox) (m : Message) → data_of m ≡ None → (plain_arrival b m).answer ≡ Err stop.Waiting → is_full (given_way b) ≡ false → (plain_arrival (given_way b) m).answer ≡ Ok true
new_answer b m none e full = new-of b m m.body (kind m m.body) none e full

pub data-sequenced : (m : Message) (c : DataCommand) → data_of m ≡ Some c → IsUnsequenced m.body ⊎ IsSequenced m m.body → IsSequenced m m.body
data-sequenced m c told (inl u) = absurd (let none : data_of m ≡ None = ap (λ body. read_of m.head body) u.2 in cc)
data-sequenced m c told (inr s) = s

-- the receiver of its channel
pub found_at : (b : Inbox) (m : Message) (c : DataCommand) → (plain_arrival b m).answer ≡ Err stop.Waiting → data_of m ≡ Some c → (r : ReceivingEnd) × IsAt b m.head.channel c r
found_at b m c e told =
    let s = data-sequenced m c told (kind m m.body) in
    at_receiver b m.head.channel c (ap (λ o. (sequenced b m.head.channel o).answer) (sym told) ∙ ap (λ (x : DataEffect). x.answer) (sym (s.arrives b)) ∙ e)

pub answer_at : (b : Inbox) (m : Message) (c : DataCommand) (r : ReceivingEnd) → data_of m ≡ Some c → IsAt b m.head.channel c r
    → (plain_arrival (given_way b) m).answer ≡ answer_where (is_full_for (given_way b) (given_way_receiver r) c) (given_way_receiver r) c
answer_at b m c r told at =
    let s = data-sequenced m c told (kind m m.body) in
    ap (λ (x : DataEffect). x.answer) (s.arrives (given_way b)) ∙ ap (λ o. (sequenced (given_way b) m.head.channel o).answer) told ∙ answer_then b m.head.channel c r at

same-some : (d e : ReceivingEnd) → ◌≡◌ {A = Option ReceivingEnd} (Some d) (Some e) → d ≡ e
same-some d e h = cc

-- what is answered once the others have given way and left room
told-by : (next : Bool) (b : Inbox) (m : Message) (c : DataCommand) (r : ReceivingEnd) → is_next r.receiver c ≡ next → data_of m ≡ Some c → IsAt b m.head.channel c r → is_full (given_way b) ≡ false
    → (plain_arrival (given_way b) m).answer ≡ answer_where next r c
told-by true b m c r next told at room =
    answer_at b m c r told at ∙ ap (λ f. answer_where f (given_way_receiver r) c) (full_for_next b m.head.channel c r at next)
told-by false b m c r next told at room =
    answer_at b m c r told at ∙ ap (λ f. answer_where f (given_way_receiver r) c) (room_for b c r next room)

pub told_in_room : (b : Inbox) (m : Message) (own : Head) (c : DataCommand) (r : ReceivingEnd) → own ≡ m.head → (plain_arrival b m).answer ≡ Err stop.Waiting → Some c ≡ data_of m
    → slice_get b.receivers own.channel ≡ Some r → is_full (given_way b) ≡ false → answer_where (is_next r.receiver c) r c ≡ (plain_arrival (given_way b) m).answer
told_in_room b m own c r is e told there room =
    let found = found_at b m c e (sym told) in
    let here : slice_get b.receivers m.head.channel ≡ Some r = ap (λ (h : Head). slice_get b.receivers h.channel) (sym is) ∙ there in
    let at : IsAt b m.head.channel c r = subst (λ (x : ReceivingEnd). IsAt b m.head.channel c x) (same-some found.0 r (sym found.1.there ∙ here)) found.1 in
    sym (told-by (is_next r.receiver c) b m c r refl (sym told) at room)
