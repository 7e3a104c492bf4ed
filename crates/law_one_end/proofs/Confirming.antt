-- A server's user is told of a connection only once the client confirmed the server's answer.
use Rattle.std.proofs.Common.{◌≡◌, ℕ, leb, ltb, length, zero, suc, ◌+◌, ◌%◌, ◌^◌, ◌<◌, ◌≤◌, ◌==◌, ◌&&◌, ◌||◌, min, Bool, true, false, cond, List, [], ◌∷◌, ◌++◌, take, slice_set, refl, sym, ap, subst, ◌∙◌, append_assoc, append-nil, inl, inr, ◌⊎◌, arith, Option, Some, None}
use Rattle.std.proofs.lemmas.Bool.Decides.{nat_tests}
use Rattle.std.proofs.lemmas.List.Quantifiers.{position-Some}
use Rattle.std.proofs.lemmas.Option.{get_or_from_slice_get}
use Rattle.std.specs.List.{slice_get, list_any, position}
use Rattle.enet_codec.specs.declared.command.Head.{Head}
use Rattle.enet_codec.specs.declared.packet.Packet.{Packet}
use Rattle.enet_codec.specs.Message.{Message, Body, IsMessage, acknowledge, verify_connect, disconnect}
use Rattle.enet_rtt.specs.Clock.{told_time, meant_time}
use Rattle.enet_rtt.specs.SendTimes.{no_sends, with_send, has_time}
use Rattle.enet_rtt.specs.declared.send_times.SendTimes.{SendTimes}
use Rattle.enet_rtt.specs.Transmission.{again, marked}
use Rattle.enet_rtt.specs.declared.transmission.Tick.{Tick as Moment}
use Rattle.enet_rtt.specs.declared.expiry.Expiry.{Expiry}
use Rattle.enet_rtt.specs.declared.expiry.Expiry.TheVariants.{No, Resend, End as Ends}
use Rattle.enet_fragment.specs.Cutting.{piece_count}
use Rattle.enet_sender.specs.CommandChoice.{fragment_limit}
use Rattle.enet_sender.specs.declared.outgoing.Acknowledged.{Acknowledged}
use Rattle.enet_sender.specs.Due.{SendingEnd}
use Rattle.enet_senders.specs.Controlling as controlling
use Rattle.enet_senders.specs.Controlling.{Commands, message_of}
use Rattle.enet_senders.specs.declared.control.Control.{Control}
use Rattle.enet_senders.specs.declared.control.Control.TheVariants as control
use Rattle.enet_senders.specs.declared.control.Numbered.{Numbered}
use Rattle.enet_senders.specs.declared.control.SentControl.{SentControl}
use Rattle.enet_receiver.specs.Members.{Has}
use Rattle.enet_outbox.specs.declared.parts.Acknowledgement.{Acknowledgement}
use Rattle.enet_outbox.specs.declared.parts.Matched.{Matched}
use Rattle.enet_outbox.specs.declared.parts.Matched.TheVariants as matched
use Rattle.enet_outbox.specs.declared.parts.Pace.{Pace}
use Rattle.enet_outbox.specs.Outbox.{Outbox, matched_by, after_acknowledgement, with_acknowledgement}
use Rattle.enet_outbox.specs.Outbox as outbox
use Rattle.enet_outbox.specs.Emission.{Filling, filled}
use Rattle.enet_outbox.proofs.Filled.{by-filling}
use Rattle.enet_peer.specs.declared.parts.PeerEvent.{PeerEvent}
use Rattle.enet_peer.specs.declared.parts.PeerEvent.TheVariants as told
use Rattle.enet_peer.specs.declared.parts.PeerState.{PeerState}
use Rattle.enet_peer.specs.declared.parts.PeerState.TheVariants as state
use Rattle.enet_peer.specs.Peering.{Peering, answering}
use Rattle.enet_peer.specs.Calls.{pace_of, gone_on, left, after_timeouts_by, expiry_of, held_back, is_held_back, moved, ticked, pinged, is_connected}
use Rattle.enet_peer.specs.CommandEffect.{Outcome, obeyed, unless_refused, answered, answered_at, is_answered_in, acknowledged, on_match, accepted as accepted_by}
use Rattle.enet_peer.specs.Endings.{freed, parting}
use Rattle.enet_peer.specs.Refusing.{full_word, heeded, told_again, told_full}
use Rattle.enet_peer.proofs.Obeying.{unless-holds}
use Rattle.enet_peer.proofs.Refusals.{heeded-holds}
use Rattle.law_connection.specs.Invariant.{is_young}
use Rattle.law_connection.specs.Steps.{Way, Asking, Now, Later, leave_by, Setting, Bandwidth, Throttle, ThrottleLimit, PingInterval, Timeout, MaySet, with_setting}
use Rattle.law_connection.proofs.Emits.{Has-from_map}
use Rattle.law_connection.proofs.Events.{accepted, took}
use Rattle.law_connection.proofs.Lists.{Has-push_cases, Has-push_left, Has-push, Has-slice_get}
use Rattle.law_connection.proofs.PeerChanges.{Core, Changes, kept-moved, kept-left, kept-set, kept-emitted, kept-heeded, kept-told_again}
use Rattle.law_one_end.specs.OneEnd.{OneEnd, Event, Submit, Emit, Come, Tick, Take, Disconnect, Set, GiveWay, TellAgain, Happens, Runs, beginning, with_emission}
use Rattle.law_one_end.specs.Confirmed.{IsConfirmed, IsToldConfirmed, AnsweringIsConfirmed}
use Rattle.law_one_end.specs.Refuted.{GuessIsRefused}
use Rattle.law_one_end.proofs.Sending.{Has-set, Has-remove}

-- ---- the times of sends
any-set : (p : ℕ → Bool) (xs : List ℕ) (k v : ℕ) → list_any p (take (suc k) (slice_set xs k v)) ≡ true → (list_any p (take k xs) ≡ true) ⊎ (p v ≡ true)
any-set p [] zero v e = absurd (let z : false ≡ true = e in cc)
any-set p [] (suc k) v e = absurd (let z : false ≡ true = e in cc)
any-set p (x ∷ xs) zero v e = inr (one (p v) e)
  where
    one : (b : Bool) → (b || false) ≡ true → b ≡ true
    one true h = refl
    one false h = h
any-set p (x ∷ xs) (suc k) v e = by (p x) (any-set p xs k v) e
  where
    by : (b : Bool) → (list_any p (take (suc k) (slice_set xs k v)) ≡ true → (list_any p (take k xs) ≡ true) ⊎ (p v ≡ true)) → (b || list_any p (take (suc k) (slice_set xs k v))) ≡ true
        → ((b || list_any p (take k xs)) ≡ true) ⊎ (p v ≡ true)
    by true rest h = inl refl
    by false rest h = rest h

any-less : (p : ℕ → Bool) (xs : List ℕ) (j k : ℕ) → j ≤ k → list_any p (take j xs) ≡ true → list_any p (take k xs) ≡ true
any-less p xs zero k low e = absurd (let z : false ≡ true = e in cc)
any-less p xs (suc j) zero low e = absurd (omega arith)
any-less p [] (suc j) (suc k) low e = e
any-less p (x ∷ xs) (suc j) (suc k) low e = by (p x) (any-less p xs j k (omega arith)) e
  where
    by : (b : Bool) → (list_any p (take j xs) ≡ true → list_any p (take k xs) ≡ true) → (b || list_any p (take j xs)) ≡ true → (b || list_any p (take k xs)) ≡ true
    by true rest h = refl
    by false rest h = rest h

-- one more send, and no other time
sent-then : (now time : ℕ) (s : SendTimes) → has_time time (with_send now s) ≡ true → (has_time time s ≡ true) ⊎ (now % 2 ^ 16 ≡ time)
sent-then now time s e = elim (any-set is-it s.times k (now % 2 ^ 16) (subst (λ n. list_any is-it (take n (slice_set s.times k (now % 2 ^ 16))) ≡ true) (let z : k + 1 ≡ suc k = omega arith in z) e)) [
  | inl old ↦ inl (any-less is-it s.times k s.count (let z : min s.count 7 ≤ s.count = grind arith in z) old)
  | inr new ↦ inr (same (now % 2 ^ 16) time new)
]
  where
    k : ℕ
    k = min s.count 7

    is-it : ℕ → Bool
    is-it t = t == time

    same : (m n : ℕ) → (m == n) ≡ true → m ≡ n
    same m n h = grind (arith, nat_tests)

never-sent : (time : ℕ) → has_time time no_sends ≡ true → ⊥
never-sent time e = (let z : false ≡ true = e in cc)

-- ---- the answer on channel 0xFF
abbrev is_answer : Control → Bool
is_answer (control.VerifyConnect verify) = true
is_answer _ = false

-- no answer but this one is queued or was sent, and each time at which it was sent has the property
record Awaits (S : ℕ → Type 0) (answer : Numbered) (c : Commands) : Type 0 where
  queued : (m : Numbered) → Has c.queued m → is_answer m.control ≡ true → m ≡ answer
  sent : (t : SentControl) → Has c.sent t → is_answer t.command.control ≡ true → (t.command ≡ answer) × ((time : ℕ) → has_time time t.times ≡ true → S time)

awaits-more : (S T : ℕ → Type 0) (answer : Numbered) (c : Commands) → ((time : ℕ) → S time → T time) → Awaits S answer c → Awaits T answer c
awaits-more S T answer c f k = record { queued = k.queued; sent = λ t h a. (let z = k.sent t h a in (z.0, λ time e. f time (z.1 time e))) }

-- what waits out its timeout
awaits-marked : (S : ℕ → Type 0) (answer : Numbered) (c : Commands) (tick : Moment) → Awaits S answer c → Awaits S answer (controlling.with_marked tick c)
awaits-marked S answer c tick k = record {
  queued = k.queued;
  sent = λ t h a. (let r = Has-from_map (controlling.marked tick) c.sent t h in
      subst (λ (y : SentControl). (y.command ≡ answer) × ((time : ℕ) → has_time time y.times ≡ true → S time)) r.2 (k.sent r.0 r.1 (ap (λ (y : SentControl). is_answer y.command.control) r.2 ∙ a)));
}

-- what is held back waits longer, and the times of its sends stay
if-sent : {A : Type 0} (f : SentControl → A) (b : Bool) (x y : SentControl) → f x ≡ f y → f (cond b x y) ≡ f y
if-sent f true x y e = e
if-sent f false x y e = refl

pub held_back-command : (tick : Moment) (x : SentControl) → (controlling.held_back tick x).command ≡ x.command
held_back-command tick x = if-sent (λ (y : SentControl). y.command) (controlling.is_late tick.now x) (record x { transmission = again tick.now (marked tick x.transmission) }) x refl

held_back-times : (tick : Moment) (x : SentControl) → (controlling.held_back tick x).times ≡ x.times
held_back-times tick x = if-sent (λ (y : SentControl). y.times) (controlling.is_late tick.now x) (record x { transmission = again tick.now (marked tick x.transmission) }) x refl

awaits-held_back : (S : ℕ → Type 0) (answer : Numbered) (c : Commands) (tick : Moment) → Awaits S answer c → Awaits S answer (controlling.with_held_back tick c)
awaits-held_back S answer c tick k = record {
  queued = k.queued;
  sent = λ t h a. (let r = Has-from_map (controlling.held_back tick) c.sent t h in
      let command : r.0.command ≡ t.command = sym (held_back-command tick r.0) ∙ ap (λ (y : SentControl). y.command) r.2 in
      let times : r.0.times ≡ t.times = sym (held_back-times tick r.0) ∙ ap (λ (y : SentControl). y.times) r.2 in
      let z = k.sent r.0 r.1 (ap (λ (y : Numbered). is_answer y.control) command ∙ a) in
      (sym command ∙ z.0, λ time e. z.1 time (ap (has_time time) times ∙ e)));
}

-- what is acknowledged is gone
awaits-acknowledged : (S : ℕ → Type 0) (answer : Numbered) (o : Outbox) (channel number : ℕ) → Awaits S answer o.control → Awaits S answer (after_acknowledgement o channel number).control
awaits-acknowledged S answer o channel number k = by (channel == 0xFF)
  where
    less : (i : Option ℕ) (t : SentControl) → Has (controlling.without_place o.control.sent i) t → Has o.control.sent t
    less None t h = h
    less (Some i) t h = Has-remove o.control.sent i t h

    at : (s : Option SendingEnd) → Awaits S answer (outbox.acknowledged_on o channel number s).control
    at None = k
    at (Some s) = k

    by : (b : Bool) → Awaits S answer (cond b (record o { control = controlling.after_acknowledgement o.control number }) (outbox.acknowledged_on o channel number (slice_get o.senders channel))).control
    by true = record { queued = k.queued; sent = λ t h a. k.sent t (less (controlling.position_of number o.control.sent) t h) a }
    by false = at (slice_get o.senders channel)

-- ---- a datagram is filled
pub data Goes (now wait : ℕ) (c : Commands) (n : controlling.Next) : Type 0 where
  Heads : (x : Numbered) (rest : List Numbered) → c.queued ≡ x ∷ rest
      → ◌≡◌ {A = controlling.Next} (record { command = x; commands = record c { queued = rest; sent = cond (controlling.is_reliable x.control) (c.sent ++ controlling.begun now wait x ∷ []) c.sent } }) n → Goes now wait c n
  Repeats : (i : ℕ) (p : SentControl) → slice_get c.sent i ≡ Some p
      → ◌≡◌ {A = controlling.Next} (record { command = p.command; commands = record c { sent = slice_set c.sent i (controlling.again now p) } }) n → Goes now wait c n

some-is : {X : Type 0} {u v : X} → Some u ≡ Some v → u ≡ v
some-is {X} {u} {v} e = cc

pub goes : (now wait : ℕ) (c : Commands) (n : controlling.Next) → controlling.next now wait c ≡ Some n → Goes now wait c n
goes now wait c n e = go (position (λ (p : SentControl). p.transmission.due) c.sent) e
  where
    head : (q : List Numbered) → c.queued ≡ q → controlling.next_queued now wait c q ≡ Some n → Goes now wait c n
    head [] t k = absurd (cc)
    head (x ∷ rest) t k = by (controlling.is_in_span c.sent x.number) k
      where
        u : controlling.Next
        u = record { command = x; commands = record c { queued = rest; sent = cond (controlling.is_reliable x.control) (c.sent ++ controlling.begun now wait x ∷ []) c.sent } }

        by : (b : Bool) → cond b (Some u) None ≡ Some n → Goes now wait c n
        by true h = Heads x rest t (some-is h)
        by false h = absurd (cc)

    resent : (i : ℕ) (p : Option SentControl) → slice_get c.sent i ≡ p → controlling.next_resent now c i p ≡ Some n → Goes now wait c n
    resent i None t k = absurd (cc)
    resent i (Some p) t k = Repeats i p t (some-is k)

    go : (w : Option ℕ) → controlling.next_of now wait c w ≡ Some n → Goes now wait c n
    go None k = head c.queued refl k
    go (Some i) k = resent i (slice_get c.sent i) refl k

-- a time had the property, or the answer is in this datagram, which goes then
abbrev SoFar : (ℕ → Type 0) → Numbered → ℕ → List Message → ℕ → Type 0
SoFar S answer now ms time = S time ⊎ ((now % 2 ^ 16 ≡ time) × Has ms (message_of answer))

record Filled (S : ℕ → Type 0) (answer : Numbered) (now : ℕ) (f : Filling) : Type 0 where
  awaits : Awaits (SoFar S answer now f.messages) answer f.outbox.control

so-far-more : (S : ℕ → Type 0) (answer : Numbered) (now : ℕ) (ms : List Message) (m : Message) (time : ℕ) → SoFar S answer now ms time → SoFar S answer now (ms ++ m ∷ []) time
so-far-more S answer now ms m time (inl old) = inl old
so-far-more S answer now ms m time (inr new) = inr (new.0, Has-push_left ms m (message_of answer) new.1)

put-more : (S : ℕ → Type 0) (answer : Numbered) (now : ℕ) (ms : List Message) (m : Message) (c : Commands) → Awaits (SoFar S answer now ms) answer c → Awaits (SoFar S answer now (ms ++ m ∷ [])) answer c
put-more S answer now ms m c k = awaits-more (SoFar S answer now ms) (SoFar S answer now (ms ++ m ∷ [])) answer c (so-far-more S answer now ms m) k

puts-control : (S : ℕ → Type 0) (answer : Numbered) (now wait : ℕ) (ms : List Message) (c : Commands) (n : controlling.Next) → Goes now wait c n → Awaits (SoFar S answer now ms) answer c → Awaits (SoFar S answer now (ms ++ message_of n.command ∷ [])) answer n.commands
puts-control S answer now wait ms c n (Heads x rest q is) k = subst (λ (z : controlling.Next). Awaits (SoFar S answer now (ms ++ message_of z.command ∷ [])) answer z.commands) is (record {
  queued = λ m h a. k.queued m (subst (λ (l : List Numbered). Has l m) (sym q) (inr h)) a;
  sent = λ t h a. by (controlling.is_reliable x.control) t h a;
})
  where
    l : List Message
    l = ms ++ message_of x ∷ []

    old : (t : SentControl) → Has c.sent t → is_answer t.command.control ≡ true → (t.command ≡ answer) × ((time : ℕ) → has_time time t.times ≡ true → SoFar S answer now l time)
    old t h a = (let z = k.sent t h a in (z.0, λ time e. so-far-more S answer now ms (message_of x) time (z.1 time e)))

    new : is_answer x.control ≡ true → (x ≡ answer) × ((time : ℕ) → has_time time (controlling.begun now wait x).times ≡ true → SoFar S answer now l time)
    new a =
        let is-it : x ≡ answer = k.queued x (subst (λ (y : List Numbered). Has y x) (sym q) (inl refl)) a in (
          is-it,
          λ time e. elim (sent-then now time no_sends e) [
            | inl never ↦ absurd (never-sent time never)
            | inr then' ↦ inr (then', subst (λ (y : Numbered). Has l (message_of y)) is-it (Has-push ms (message_of x)))
          ],
        )

    by : (b : Bool) (t : SentControl) → Has (cond b (c.sent ++ controlling.begun now wait x ∷ []) c.sent) t → is_answer t.command.control ≡ true → (t.command ≡ answer) × ((time : ℕ) → has_time time t.times ≡ true → SoFar S answer now l time)
    by false t h a = old t h a
    by true t h a = elim (Has-push_cases c.sent (controlling.begun now wait x) t h) [
      | inl there ↦ old t there a
      | inr same ↦ subst (λ (y : SentControl). (y.command ≡ answer) × ((time : ℕ) → has_time time y.times ≡ true → SoFar S answer now l time)) same (new (ap (λ (y : SentControl). is_answer y.command.control) same ∙ a))
    ]
puts-control S answer now wait ms c n (Repeats i p there is) k = subst (λ (z : controlling.Next). Awaits (SoFar S answer now (ms ++ message_of z.command ∷ [])) answer z.commands) is (record {
  queued = k.queued;
  sent = λ t h a. elim (Has-set c.sent i (controlling.again now p) t h) [
    | inl same ↦ subst (λ (y : SentControl). (y.command ≡ answer) × ((time : ℕ) → has_time time y.times ≡ true → SoFar S answer now l time)) same (new (ap (λ (y : SentControl). is_answer y.command.control) same ∙ a))
    | inr before ↦ (let z = k.sent t before a in (z.0, λ time e. so-far-more S answer now ms (message_of p.command) time (z.1 time e)))
  ];
})
  where
    l : List Message
    l = ms ++ message_of p.command ∷ []

    new : is_answer p.command.control ≡ true → (p.command ≡ answer) × ((time : ℕ) → has_time time (with_send now p.times) ≡ true → SoFar S answer now l time)
    new a =
        let z = k.sent p (Has-slice_get c.sent i p there) a in (
          z.0,
          λ time e. elim (sent-then now time p.times e) [
            | inl before ↦ so-far-more S answer now ms (message_of p.command) time (z.1 time before)
            | inr then' ↦ inr (then', subst (λ (y : Numbered). Has l (message_of y)) z.0 (Has-push ms (message_of p.command)))
          ],
        )

awaits-filled : (S : ℕ → Type 0) (answer : Numbered) (pace : Pace) (o : Outbox) → Awaits S answer o.control → Awaits (SoFar S answer pace.now (filled pace o).messages) answer (filled pace o).outbox.control
awaits-filled S answer pace o k = made.awaits
  where
    made : Filled S answer pace.now (filled pace o)
    made = by-filling pace o (Filled S answer pace.now) (record {
      closes = λ f x. record { awaits = x.awaits };
      acknowledges = λ f a rest e x. record { awaits = put-more S answer pace.now f.messages _ f.outbox.control x.awaits };
      controls = λ f n e x. record { awaits = puts-control S answer pace.now pace.timeout f.messages f.outbox.control n (goes pace.now pace.timeout f.outbox.control n e) x.awaits };
      puts_unsequenced = λ f u rest t e x. record { awaits = put-more S answer pace.now f.messages _ f.outbox.control x.awaits };
      drops_unsequenced = λ f u rest t e x. record { awaits = x.awaits };
      puts_data = λ f i s n t there due x. record { awaits = put-more S answer pace.now f.messages _ f.outbox.control x.awaits };
      drops_data = λ f i s n t there due kind x. record { awaits = x.awaits };
      keeps_room = λ f i s there wants x. record { awaits = x.awaits };
      gives_room = λ f i s n there due x. record { awaits = x.awaits };
    }) (record { awaits = awaits-more S (SoFar S answer pace.now []) answer o.control (λ time h. inl h) k })

-- ---- a server's peer that awaits its client
record Young (S : ℕ → Type 0) (answer : Numbered) (offset : ℕ) (p : Peering) : Type 0 where
  on : p.state ≡ state.Answering
  none : p.greeting ≡ None
  same : p.offset ≡ offset
  awaits : Awaits S answer p.outbox.control

-- or one that is past that, and has nothing to tell of its beginning
record Past (p : Peering) : Type 0 where
  past : is_young p.state ≡ false
  none : p.greeting ≡ None

pasts : Changes Past
pasts = record {
  quiet = λ p q e h. record { past = ap (λ (c : Core). is_young c.state) e ∙ h.past; none = ap (λ (c : Core). c.greeting) e ∙ h.none };
  controls = λ p what plain on h. record { past = h.past; none = h.none };
  ends = λ p why info here h. record { past = refl; none = h.none };
  cuts = λ p why now gone over h. record { past = refl; none = h.none };
  frees = λ p h. record { past = refl; none = refl };
  parts = λ p info h. record { past = refl; none = refl };
  disconnects = λ p info up h. record { past = refl; none = h.none };
  answers = λ p info up h. record { past = refl; none = h.none };
  waits = λ p info on h. record { past = refl; none = h.none };
  greets = λ p e h. absurd (let z : true ≡ false = sym (ap is_young e) ∙ h.past in cc);
  welcomes = λ p v terms e big word h. absurd (let z : true ≡ false = sym (ap is_young e) ∙ h.past in cc);
  acknowledges = λ p j number here h. record { past = h.past; none = h.none };
  marks = λ p tick h. record { past = h.past; none = h.none };
  refuses = λ p at h. absurd (let z : true ≡ false = sym (ap is_young at) ∙ h.past in cc);
  holds_back = λ p tick at h. record { past = h.past; none = h.none };
  gives_way = λ p on h. record { past = h.past; none = h.none };
  takes = λ p j r c on there h. record { past = h.past; none = h.none };
  takes_unsequenced = λ p j group payload on h. record { past = h.past; none = h.none };
  puts_control = λ p now timeout n due h. record { past = h.past; none = h.none };
  puts_data = λ p k occasion s n there due h. record { past = h.past; none = h.none };
  drops_data = λ p k occasion s n there due h. record { past = h.past; none = h.none };
}

abbrev Stage : (ℕ → Type 0) → Numbered → ℕ → Peering → Type 0
Stage S answer offset p = Young S answer offset p ⊎ Past p

-- one that awaits it, as it is
abbrev waiting : Peering → Peering
waiting p = record p { state = state.Answering; greeting = None }

is-waiting : (p : Peering) → p.state ≡ state.Answering → p.greeting ≡ None → waiting p ≡ p
is-waiting p on none = ap (λ (s : PeerState). record p { state = s; greeting = None }) (sym on) ∙ ap (λ (g : Option ℕ). record p { greeting = g }) (sym none)

young-more : (S T : ℕ → Type 0) (answer : Numbered) (offset : ℕ) (p : Peering) → ((time : ℕ) → S time → T time) → Stage S answer offset p → Stage T answer offset p
young-more S T answer offset p f (inl h) = inl (record { on = h.on; none = h.none; same = h.same; awaits = awaits-more S T answer p.outbox.control f h.awaits })
young-more S T answer offset p f (inr h) = inr h

-- ---- time goes on
young-ticked : (S : ℕ → Type 0) (answer : Numbered) (offset : ℕ) (p : Peering) (now : ℕ) → Young S answer offset p → Stage S answer offset (ticked p now)
young-ticked S answer offset p now h = subst (λ (x : Peering). Stage S answer offset (ticked x now)) (is-waiting p h.on h.none) (by (expiry_of (waiting p) now))
  where
    by : (x : Expiry) → Stage S answer offset (pinged (after_timeouts_by x (waiting p) now) now)
    by Ends = inr (record { past = refl; none = refl })
    by Resend = inl (record { on = refl; none = refl; same = h.same; awaits = awaits-marked S answer p.outbox.control _ h.awaits })
    by No = inl (record { on = refl; none = refl; same = h.same; awaits = h.awaits })

young-moved : (S : ℕ → Type 0) (answer : Numbered) (offset : ℕ) (short : Bool) (p : Peering) (now : ℕ) → Young S answer offset p → Stage S answer offset (moved short p now)
young-moved S answer offset short p now h = by (is_held_back short p now)
  where
    by : (b : Bool) → Stage S answer offset (cond b (held_back p now) (ticked p now))
    by true = inl (record { on = h.on; none = h.none; same = h.same; awaits = awaits-held_back S answer p.outbox.control _ h.awaits })
    by false = young-ticked S answer offset p now h

-- the user sets something
young-set : (S : ℕ → Type 0) (answer : Numbered) (offset : ℕ) (p : Peering) (s : Setting) → MaySet s p → Young S answer offset p → Young S answer offset (with_setting s p)
young-set S answer offset p s may h = subst (λ (x : Peering). Young S answer offset (with_setting s x)) (is-waiting p h.on h.none) (by s may)
  where
    by : (s : Setting) → MaySet s p → Young S answer offset (with_setting s (waiting p))
    by (Bandwidth incoming outgoing) may = record { on = refl; none = refl; same = h.same; awaits = h.awaits }
    by (Throttle interval acceleration deceleration) may = absurd (let z : false ≡ true = sym (ap is_connected h.on) ∙ may in cc)
    by (ThrottleLimit limit) may = record { on = refl; none = refl; same = h.same; awaits = h.awaits }
    by (PingInterval ms) may = record { on = refl; none = refl; same = h.same; awaits = h.awaits }
    by (Timeout limit minimum maximum) may = record { on = refl; none = refl; same = h.same; awaits = h.awaits }

-- the user ends the connection
young-left : (p q : Peering) (way : Way) (info : ℕ) → p.state ≡ state.Answering → left (leave_by way p.state) p info ≡ Some q → Past q
young-left p q way info on e = by way (subst (λ (s : PeerState). left (leave_by way s) p info ≡ Some q) on e)
  where
    gone : Some (parting p info) ≡ Some q → Past q
    gone f = subst Past (some-is f) (record { past = refl; none = refl })

    by : (way : Way) → left (leave_by way state.Answering) p info ≡ Some q → Past q
    by Asking f = gone f
    by Now f = gone f
    by Later f = gone f

-- a datagram goes
young-emitted : (S : ℕ → Type 0) (answer : Numbered) (offset : ℕ) (p : Peering) (now : ℕ) → Young S answer offset p
    → Young (SoFar S answer now (filled (pace_of p now) p.outbox).messages) answer offset (gone_on (record p { outbox = (filled (pace_of p now) p.outbox).outbox }))
young-emitted S answer offset p now h =
    subst (λ (x : Peering). Young (SoFar S answer now (filled (pace_of x now) x.outbox).messages) answer offset (gone_on (record x { outbox = (filled (pace_of x now) x.outbox).outbox }))) (is-waiting p h.on h.none)
    (record { on = refl; none = refl; same = h.same; awaits = awaits-filled S answer (pace_of p now) p.outbox h.awaits })

-- ---- a command comes
-- it is an acknowledgement of the answer that repeats the time of a send of it
record Confirms (S : ℕ → Type 0) (answer : Numbered) (offset : ℕ) (m : Message) : Type 0 where
  told : ℕ
  channel : m.head.channel ≡ 0xFF
  repeats : m.body ≡ acknowledge answer.number told
  then' : S (meant_time told (offset % 2 ^ 16))

answered-holds : (P : Peering → Type 0) (q : Peering) (m : Message) (sent : Option ℕ) (may : Bool) → ((a : Acknowledgement) → P (record q { outbox = with_acknowledgement q.outbox a })) → P q → P (answered q m sent may).after
answered-holds P q m sent may answers h = go (m.head.acknowledge && may && is_answered_in q.state m.body) sent
  where
    go : (b : Bool) (o : Option ℕ) → P (cond b (answered_at q m.head o) (record { stop = None; after = q })).after
    go false o = h
    go true None = h
    go true (Some time) = answers _

stage-answered : (S : ℕ → Type 0) (answer : Numbered) (offset : ℕ) (q : Peering) (a : Acknowledgement) → Stage S answer offset q → Stage S answer offset (record q { outbox = with_acknowledgement q.outbox a })
stage-answered S answer offset q a (inl h) = inl (record { on = h.on; none = h.none; same = h.same; awaits = h.awaits })
stage-answered S answer offset q a (inr h) = inr (record { past = h.past; none = h.none })

-- what an acknowledgement matches that matches an answer
record Matches (number time : ℕ) (c : Commands) (what : Control) : Type 0 where
  sent : SentControl
  there : Has c.sent sent
  control : sent.command.control ≡ what
  numbered : sent.command.number ≡ number
  went : controlling.went_at time sent ≡ true

found : {X : Type 0} (f : X → Bool) (xs : List X) (i : ℕ) (x : X) → position f xs ≡ Some i → slice_get xs i ≡ Some x → f x ≡ true
found f xs i x e there = ap f (sym (get_or_from_slice_get xs i x x there)) ∙ (position-Some f xs i x e).1

matches : (o : Outbox) (channel number time : ℕ) (what : Control) → matched_by o channel number time ≡ matched.Control what → (channel ≡ 0xFF) × Matches number time o.control what
matches o channel number time what e = by (channel == 0xFF) refl e
  where
    is-equal : (m n : ℕ) → (m == n) ≡ true → m ≡ n
    is-equal m n h = grind (arith, nat_tests)

    never : (n : Option Acknowledged) → outbox.as_data n ≡ matched.Control what → ⊥
    never None k = cc
    never (Some told) k = cc

    no-data : (s : Option SendingEnd) → outbox.matched_on s number time ≡ matched.Control what → ⊥
    no-data None k = cc
    no-data (Some s) k = never _ k

    one : (x : Option Control) → outbox.as_control x ≡ matched.Control what → x ≡ Some what
    one None k = absurd (cc)
    one (Some y) k = (let z : y ≡ what = cc in ap Some z)

    timely : (t : SentControl) → Has o.control.sent t → t.command.number ≡ number → (b : Bool) → controlling.went_at time t ≡ b → cond b (Some t.command.control) None ≡ Some what → Matches number time o.control what
    timely t there is true went k = record { sent = t; there = there; control = some-is k; numbered = is; went = went }
    timely t there is false went k = absurd (cc)

    here : (i : ℕ) → controlling.position_of number o.control.sent ≡ Some i → (t : Option SentControl) → slice_get o.control.sent i ≡ t → controlling.control_of time t ≡ Some what → Matches number time o.control what
    here i w None at k = absurd (cc)
    here i w (Some t) at k =
        timely t (Has-slice_get o.control.sent i t at) (is-equal t.command.number number (found (λ (p : SentControl). p.command.number == number) o.control.sent i t w at)) (controlling.went_at time t) refl k

    place : (w : Option ℕ) → controlling.position_of number o.control.sent ≡ w → controlling.control_at time o.control.sent w ≡ Some what → Matches number time o.control what
    place None w k = absurd (cc)
    place (Some i) w k = here i w (slice_get o.control.sent i) refl k

    by : (b : Bool) → (channel == 0xFF) ≡ b → cond b (outbox.as_control (controlling.acknowledged_control o.control number time)) (outbox.matched_on (slice_get o.senders channel) number time) ≡ matched.Control what
        → (channel ≡ 0xFF) × Matches number time o.control what
    by true is k = (is-equal channel 0xFF is, place (controlling.position_of number o.control.sent) refl (one (controlling.acknowledged_control o.control number time) k))
    by false is k = absurd (no-data (slice_get o.senders channel) k)

-- of an answer the time is that of a send of it
went-as : (t : SentControl) (time : ℕ) (c : Control) → t.command.control ≡ c → is_answer c ≡ true → controlling.went_at time t ≡ true → has_time time t.times ≡ true
went-as t time (control.VerifyConnect verify) is a went = subst (λ (c : Control). controlling.went_as c time t ≡ true) is went
went-as t time c is a went = absurd (let z : false ≡ true = a in cc)

-- what it makes of the peer, or it confirms the answer
abbrev After : (ℕ → Type 0) → Numbered → ℕ → Message → Peering → Type 0
After S answer offset m q = Stage S answer offset q ⊎ Confirms S answer offset m

after-answered : (S : ℕ → Type 0) (answer : Numbered) (offset : ℕ) (m : Message) (q : Peering) (a : Acknowledgement) → After S answer offset m q → After S answer offset m (record q { outbox = with_acknowledgement q.outbox a })
after-answered S answer offset m q a (inl h) = inl (stage-answered S answer offset q a h)
after-answered S answer offset m q a (inr h) = inr h

young-obeyed : (S : ℕ → Type 0) (answer : Numbered) (offset : ℕ) (p : Peering) (h : Head) (now : ℕ) (sent : Option ℕ) (body : Body) → Young S answer offset p → After S answer offset (record { head = h; body = body }) (obeyed p now sent (record { head = h; body = body })).after
young-obeyed S answer offset p h now sent body y = subst (λ (x : Peering). After S answer offset (record { head = h; body = body }) (obeyed x now sent (record { head = h; body = body })).after) (is-waiting p y.on y.none) (by body)
  where
    old : Peering
    old = waiting p

    stays : Young S answer offset old
    stays = record { on = refl; none = refl; same = y.same; awaits = y.awaits }

    -- what it would make is answered, or it is refused
    so : (body : Body) (q : Peering) → After S answer offset (record { head = h; body = body }) q
        → After S answer offset (record { head = h; body = body }) (unless_refused old (record { head = h; body = body }) (answered q (record { head = h; body = body }) sent true)).after
    so body q k =
        let m : Message = record { head = h; body = body } in
        unless-holds (After S answer offset m) old m (answered q m sent true) (inl (inl stays)) (answered-holds (After S answer offset m) q m sent true (λ a. after-answered S answer offset m q a k) k)

    by : (body : Body) → After S answer offset (record { head = h; body = body }) (obeyed old now sent (record { head = h; body = body })).after
    by (verify_connect v) = so (verify_connect v) old (inl (inl stays))
    by (disconnect info) = so (disconnect info) (freed old) (inl (inr (record { past = refl; none = refl })))
    by (acknowledge number told) = so (acknowledge number told) (accepted_by old now h.channel number time) (match (matched_by p.outbox h.channel number time) refl)
      where
        time : ℕ
        time = meant_time told (p.offset % 2 ^ 16)

        gone : Peering
        gone = acknowledged old now h.channel number time

        less : Young S answer offset gone
        less = record { on = refl; none = refl; same = y.same; awaits = awaits-acknowledged S answer p.outbox h.channel number y.awaits }

        match : (x : Matched) → matched_by p.outbox h.channel number time ≡ x → After S answer offset (record { head = h; body = acknowledge number told }) (on_match x old gone)
        match matched.Nothing e = inl (inl stays)
        match matched.Data e = inl (inl less)
        match (matched.Control (control.VerifyConnect verify)) e =
            let k = matches p.outbox h.channel number time (control.VerifyConnect verify) e in
            let z = y.awaits.sent k.1.sent k.1.there (ap is_answer k.1.control) in
            inr (record {
              told = told;
              channel = k.0;
              repeats = ap (λ (n : ℕ). acknowledge n told) (sym k.1.numbered ∙ ap (λ (n : Numbered). n.number) z.0);
              then' = subst (λ n. S (meant_time told (n % 2 ^ 16))) y.same (z.1 time (went-as k.1.sent time (control.VerifyConnect verify) k.1.control refl k.1.went));
            })
        match (matched.Control what) e = inl (inl less)
    by b = inl (inl stays)

-- a host that is full, and what it tells one that it refused
awaits-told : (S : ℕ → Type 0) (answer : Numbered) (c : Commands) → Awaits S answer (controlling.with_queued (controlling.cleared c) (control.DisconnectNow full_word))
awaits-told S answer c = record {
  queued = λ m h a. elim h [
    | inl same ↦ absurd (let z : false ≡ true = ap (λ (x : Numbered). is_answer x.control) same ∙ a in cc)
    | inr none ↦ absurd none
  ];
  sent = λ t h a. absurd h;
}

young-told : (S : ℕ → Type 0) (answer : Numbered) (offset : ℕ) (p : Peering) → Young S answer offset p → Young S answer offset (told_full p)
young-told S answer offset p y = record { on = y.on; none = y.none; same = y.same; awaits = awaits-told S answer p.outbox.control }

young-again : (S : ℕ → Type 0) (answer : Numbered) (offset : ℕ) (p : Peering) → Young S answer offset p → Young S answer offset (told_again p)
young-again S answer offset p y = by (ltb 0 (length p.outbox.control.queued))
  where
    by : (b : Bool) → Young S answer offset (cond b p (told_full p))
    by true = y
    by false = young-told S answer offset p y

young-heeded : (S : ℕ → Type 0) (answer : Numbered) (offset : ℕ) (full : Bool) (p : Peering) (now : ℕ) (sent : Option ℕ) (m : Message) → Young S answer offset p → After S answer offset m (heeded full p now sent m).after
young-heeded S answer offset full p now sent m y =
    let k = young-told S answer offset p y in
    heeded-holds (λ (o : Outcome). After S answer offset m o.after) full p now sent m (young-obeyed S answer offset p m.head now sent m.body y)
    (λ answers. inl (inl (record { on = k.on; none = k.none; same = k.same; awaits = k.awaits })))

-- ---- the run
-- the answer went at this time, among these events
record WentAt (first : OneEnd) (events : List Event) (answer : Numbered) (time : ℕ) : Type 0 where
  before : List Event
  behind : List Event
  went : ℕ
  end : OneEnd
  runs : Runs before first end
  goes : Has (filled (pace_of end.peer went) end.peer.outbox).messages (message_of answer)
  is : went % 2 ^ 16 ≡ time
  whole : events ≡ before ++ Emit went ∷ behind

went-more : (first : OneEnd) (events : List Event) (x : Event) (answer : Numbered) (time : ℕ) → WentAt first events answer time → WentAt first (events ++ x ∷ []) answer time
went-more first events x answer time w = record {
  before = w.before;
  behind = w.behind ++ x ∷ [];
  went = w.went;
  end = w.end;
  runs = w.runs;
  goes = w.goes;
  is = w.is;
  whole = ap (λ (l : List Event). l ++ x ∷ []) w.whole ∙ append_assoc w.before (Emit w.went ∷ w.behind) (x ∷ []);
}

confirmed-more : (first : OneEnd) (events : List Event) (x : Event) (answer : Numbered) → IsConfirmed first events answer → IsConfirmed first (events ++ x ∷ []) answer
confirmed-more first events x answer k = record {
  before = k.before;
  between = k.between;
  behind = k.behind ++ x ∷ [];
  went = k.went;
  end = k.end;
  runs = k.runs;
  goes = k.goes;
  message = k.message;
  channel = k.channel;
  repeats = k.repeats;
  now = k.now;
  sent = k.sent;
  whole = ap (λ (l : List Event). l ++ x ∷ []) k.whole ∙ append_assoc k.before (Emit k.went ∷ (k.between ++ c ∷ k.behind)) (x ∷ [])
      ∙ ap (λ (l : List Event). k.before ++ Emit k.went ∷ l) (append_assoc k.between (c ∷ k.behind) (x ∷ []));
}
  where
    c : Event
    c = Come k.message k.now k.sent

-- a repeated time that means that of a send is the time that was told then
told-again : (told went offset : ℕ) → told < 65536 → went % 2 ^ 16 ≡ meant_time told (offset % 2 ^ 16) → told ≡ told_time went offset
told-again told went offset low e = omega arith

message-low : (m : Message) (number told : ℕ) → IsMessage m → m.body ≡ acknowledge number told → told < 65536
message-low m number told is e = low (subst (λ (b : Body). IsMessage (record { head = m.head; body = b })) e is)
  where
    low : IsMessage (record { head = m.head; body = acknowledge number told }) → told < 65536
    low x = (let f = x.fields in let z : told < 65536 = f.1.0 in z)

confirms : (first : OneEnd) (events : List Event) (answer : Numbered) (m : Message) (now : ℕ) (sent : Option ℕ) → IsMessage m → Confirms (WentAt first events answer) answer first.peer.offset m → IsConfirmed first (events ++ Come m now sent ∷ []) answer
confirms first events answer m now sent is k = record {
  before = w.before;
  between = w.behind;
  behind = [];
  went = w.went;
  end = w.end;
  runs = w.runs;
  goes = w.goes;
  message = m;
  channel = k.channel;
  repeats = k.repeats ∙ ap (λ t. acknowledge answer.number t) (told-again k.told w.went first.peer.offset (message-low m answer.number k.told is k.repeats) w.is);
  now = now;
  sent = sent;
  whole = ap (λ (l : List Event). l ++ Come m now sent ∷ []) w.whole ∙ append_assoc w.before (Emit w.went ∷ w.behind) (Come m now sent ∷ []);
}
  where
    w : WentAt first events answer (meant_time k.told (first.peer.offset % 2 ^ 16))
    w = k.then'

abbrev NoConnect : List PeerEvent → Type 0
NoConnect es = (info : ℕ) → Has es (told.Connect info) → ⊥

-- after these events the end awaits its client or is past that, and told nothing of it, or its answer was confirmed
abbrev Stands : OneEnd → Numbered → List Event → OneEnd → Type 0
Stands first answer events e = (Stage (WentAt first events answer) answer first.peer.offset e.peer × NoConnect e.taken) ⊎ IsConfirmed first events answer

-- of a peer that goes on
goes-on : (first : OneEnd) (answer : Numbered) (events : List Event) (x : Event) (q : Peering) → Stage (WentAt first events answer) answer first.peer.offset q → Stage (WentAt first (events ++ x ∷ []) answer) answer first.peer.offset q
goes-on first answer events x q h = young-more (WentAt first events answer) (WentAt first (events ++ x ∷ []) answer) answer first.peer.offset q (went-more first events x answer) h

not-told : (es : List PeerEvent) (x : PeerEvent) → NoConnect es → ((info : ℕ) → x ≡ told.Connect info → ⊥) → NoConnect (es ++ x ∷ [])
not-told es x none other info h = elim (Has-push_cases es x (told.Connect info) h) [ inl old ↦ none info old | inr new ↦ other info new ]

stands-next : (first : OneEnd) (answer : Numbered) (events : List Event) (x : Event) (e new : OneEnd) → Runs events first e → Happens e x new → Stage (WentAt first events answer) answer first.peer.offset e.peer → NoConnect e.taken → Stands first answer (events ++ x ∷ []) new
stands-next first answer events (Submit q) e new runs h (inl y) none = absurd (
    let a = accepted (is_connected e.peer.state) (leb (length e.peer.outbox.senders) q.channel) (ltb e.peer.limits.max_packet (length q.body) || ltb fragment_limit (piece_count (length q.body) e.peer.terms.mtu)) h.0 in
    let z : false ≡ true = sym (ap is_connected y.on) ∙ a.0 in cc)
stands-next first answer events (Submit q) e new runs h (inr p) none = inl (subst (λ (z : OneEnd). Stage (WentAt first (events ++ Submit q ∷ []) answer) answer first.peer.offset z.peer × NoConnect z.taken) (sym h.1)
    (inr (record { past = p.past; none = p.none }), none))
stands-next first answer events (Emit now) e new runs h (inl y) none = inl (subst (λ (z : OneEnd). Stage (WentAt first (events ++ Emit now ∷ []) answer) answer first.peer.offset z.peer × NoConnect z.taken) (sym h) (
  young-more (SoFar (WentAt first events answer) answer now (filled (pace_of e.peer now) e.peer.outbox).messages) (WentAt first (events ++ Emit now ∷ []) answer) answer first.peer.offset (with_emission e now).peer went
      (inl (young-emitted (WentAt first events answer) answer first.peer.offset e.peer now y)),
  none,
))
  where
    went : (time : ℕ) → SoFar (WentAt first events answer) answer now (filled (pace_of e.peer now) e.peer.outbox).messages time → WentAt first (events ++ Emit now ∷ []) answer time
    went time (inl old) = went-more first events (Emit now) answer time old
    went time (inr new') = record { before = events; behind = []; went = now; end = e; runs = runs; goes = new'.1; is = new'.0; whole = refl }
stands-next first answer events (Emit now) e new runs h (inr p) none = inl (subst (λ (z : OneEnd). Stage (WentAt first (events ++ Emit now ∷ []) answer) answer first.peer.offset z.peer × NoConnect z.taken) (sym h)
    (inr (kept-emitted Past pasts e.peer now p), none))
stands-next first answer events (Come m now sent) e new runs h (inl y) none = by (young-heeded (WentAt first events answer) answer first.peer.offset h.1 e.peer now sent m y)
  where
    by : After (WentAt first events answer) answer first.peer.offset m (heeded h.1 e.peer now sent m).after → Stands first answer (events ++ Come m now sent ∷ []) new
    by (inl k) = inl (subst (λ (z : OneEnd). Stage (WentAt first (events ++ Come m now sent ∷ []) answer) answer first.peer.offset z.peer × NoConnect z.taken) (sym h.2)
        (goes-on first answer events (Come m now sent) (heeded h.1 e.peer now sent m).after k, none))
    by (inr k) = inr (confirms first events answer m now sent h.0 k)
stands-next first answer events (Come m now sent) e new runs h (inr p) none = inl (subst (λ (z : OneEnd). Stage (WentAt first (events ++ Come m now sent ∷ []) answer) answer first.peer.offset z.peer × NoConnect z.taken) (sym h.2)
    (inr (kept-heeded Past pasts h.1 e.peer m.head now sent m.body p), none))
stands-next first answer events GiveWay e new runs h s none = inl (subst (λ (z : OneEnd). Stage (WentAt first (events ++ GiveWay ∷ []) answer) answer first.peer.offset z.peer × NoConnect z.taken) (sym h.1)
    (inr (record { past = refl; none = refl }), none))
stands-next first answer events TellAgain e new runs h (inl y) none = inl (subst (λ (z : OneEnd). Stage (WentAt first (events ++ TellAgain ∷ []) answer) answer first.peer.offset z.peer × NoConnect z.taken) (sym h.1)
    (goes-on first answer events TellAgain (told_again e.peer) (inl (young-again (WentAt first events answer) answer first.peer.offset e.peer y)), none))
stands-next first answer events TellAgain e new runs h (inr p) none = inl (subst (λ (z : OneEnd). Stage (WentAt first (events ++ TellAgain ∷ []) answer) answer first.peer.offset z.peer × NoConnect z.taken) (sym h.1)
    (inr (kept-told_again Past pasts e.peer h.0 p), none))
stands-next first answer events (Tick now) e new runs h (inl y) none = inl (subst (λ (z : OneEnd). Stage (WentAt first (events ++ Tick now ∷ []) answer) answer first.peer.offset z.peer × NoConnect z.taken) (sym h.1)
    (goes-on first answer events (Tick now) (moved h.0 e.peer now) (young-moved (WentAt first events answer) answer first.peer.offset h.0 e.peer now y), none))
stands-next first answer events (Tick now) e new runs h (inr p) none = inl (subst (λ (z : OneEnd). Stage (WentAt first (events ++ Tick now ∷ []) answer) answer first.peer.offset z.peer × NoConnect z.taken) (sym h.1)
    (inr (kept-moved Past pasts h.0 e.peer now p), none))
stands-next first answer events Take e new runs h s none = inl (subst (λ (z : OneEnd). Stage (WentAt first (events ++ Take ∷ []) answer) answer first.peer.offset z.peer × NoConnect z.taken) (sym h.3)
    (goes-on first answer events Take h.1 k.0, not-told e.taken h.0 none k.1))
  where
    P : Peering → PeerEvent → Type 0
    P q x = Stage (WentAt first events answer) answer first.peer.offset q × ((info : ℕ) → x ≡ told.Connect info → ⊥)

    greets : (info : ℕ) → e.peer.greeting ≡ Some info → Stage (WentAt first events answer) answer first.peer.offset e.peer → P (record e.peer { greeting = None }) (told.Connect info)
    greets info g (inl y) = absurd (let z : ◌≡◌ {A = Option ℕ} None (Some info) = sym y.none ∙ g in cc)
    greets info g (inr p) = absurd (let z : ◌≡◌ {A = Option ℕ} None (Some info) = sym p.none ∙ g in cc)

    receives : (x : Packet) (rest : List Packet) → Stage (WentAt first events answer) answer first.peer.offset e.peer → P (record e.peer { inbox = record e.peer.inbox { untaken = rest } }) (told.Receive x)
    receives x rest (inl y) = (inl (record { on = y.on; none = y.none; same = y.same; awaits = y.awaits }), λ info f. cc)
    receives x rest (inr p) = (inr (record { past = p.past; none = p.none }), λ info f. cc)

    ends : e.peer.state ≡ state.Ended → Stage (WentAt first events answer) answer first.peer.offset e.peer → P (record e.peer { state = state.Free }) (told.Disconnect e.peer.info)
    ends at (inl y) = absurd (let z : state.Answering ≡ state.Ended = sym y.on ∙ at in cc)
    ends at (inr p) = (inr (record { past = refl; none = p.none }), λ info f. cc)

    k : P h.1 h.0
    k = took P e.peer h.1 h.0 h.2 (λ info g. greets info g s) (λ x rest g u. receives x rest s) (λ g u at. ends at s)
stands-next first answer events (Disconnect way info) e new runs h (inl y) none = inl (subst (λ (z : OneEnd). Stage (WentAt first (events ++ Disconnect way info ∷ []) answer) answer first.peer.offset z.peer × NoConnect z.taken) (sym h.2)
    (inr (young-left e.peer h.0 way info y.on h.1), none))
stands-next first answer events (Disconnect way info) e new runs h (inr p) none = inl (subst (λ (z : OneEnd). Stage (WentAt first (events ++ Disconnect way info ∷ []) answer) answer first.peer.offset z.peer × NoConnect z.taken) (sym h.2)
    (inr (kept-left Past pasts e.peer h.0 way info h.1 p), none))
stands-next first answer events (Set setting) e new runs h (inl y) none = inl (subst (λ (z : OneEnd). Stage (WentAt first (events ++ Set setting ∷ []) answer) answer first.peer.offset z.peer × NoConnect z.taken) (sym h.1)
    (goes-on first answer events (Set setting) (with_setting setting e.peer) (inl (young-set (WentAt first events answer) answer first.peer.offset e.peer setting h.0 y)), none))
stands-next first answer events (Set setting) e new runs h (inr p) none = inl (subst (λ (z : OneEnd). Stage (WentAt first (events ++ Set setting ∷ []) answer) answer first.peer.offset z.peer × NoConnect z.taken) (sym h.1)
    (inr (kept-set Past pasts e.peer setting h.0 p), none))

runs-push : (events : List Event) (x : Event) (first e new : OneEnd) → Runs events first e → Happens e x new → Runs (events ++ x ∷ []) first new
runs-push [] x first e new r h = (new, subst (λ (z : OneEnd). Happens z x new) (sym r) h, refl)
runs-push (y ∷ events) x first e new r h = (r.0, r.1, runs-push events x r.0 e new r.2 h)

stands-runs : (first : OneEnd) (answer : Numbered) (done events : List Event) (e new : OneEnd) → Runs done first e → Runs events e new → Stands first answer done e → Stands first answer (done ++ events) new
stands-runs first answer done [] e new before r s = subst (λ (l : List Event). Stands first answer l new) (sym (append-nil done)) (subst (Stands first answer done) r s)
stands-runs first answer done (x ∷ events) e new before r s =
    subst (λ (l : List Event). Stands first answer l new) (append_assoc done (x ∷ []) events)
    (stands-runs first answer (done ++ x ∷ []) events r.0 new (runs-push done x first e r.0 before r.1) r.2 (by s))
  where
    by : Stands first answer done e → Stands first answer (done ++ x ∷ []) r.0
    by (inl k) = stands-next first answer done x e r.0 before r.1 k.0 k.1
    by (inr k) = inr (confirmed-more first done x answer k)

-- so it is of a peer that begins with its answer
told-confirmed : (p : Peering) (answer : Numbered) (events : List Event) (e : OneEnd) → p.state ≡ state.Answering → p.greeting ≡ None → p.outbox.control.queued ≡ answer ∷ [] → p.outbox.control.sent ≡ [] → Runs events (beginning p) e → IsToldConfirmed p events e
told-confirmed p answer events e on none queued sent runs info h = (answer, subst (λ (l : List Numbered). Has l answer) (sym queued) (inl refl), by (stands-runs (beginning p) answer [] events (beginning p) e refl runs (inl (inl young, λ n k. k))))
  where
    one : (m : Numbered) → Has (answer ∷ []) m → m ≡ answer
    one m (inl same) = sym same
    one m (inr none') = absurd none'

    young : Young (WentAt (beginning p) [] answer) answer p.offset p
    young = record {
      on = on;
      none = none;
      same = refl;
      awaits = record {
        queued = λ m k a. one m (subst (λ (l : List Numbered). Has l m) queued k);
        sent = λ t k a. absurd (subst (λ (l : List SentControl). Has l t) sent k);
      };
    }

    by : Stands (beginning p) answer events e → IsConfirmed (beginning p) events answer
    by (inl k) = absurd (k.1 info h)
    by (inr k) = k

pub answering-confirmed : AnsweringIsConfirmed
answering-confirmed now offsets offer server limits events e runs = told-confirmed (answering now offsets offer server limits) _ events e refl refl refl refl runs

-- ---- what is ruled out
second : (m : Message) (then' : ℕ) (sent : Option ℕ) (between behind : List Event) (c : Event) → Come m then' sent ∷ Take ∷ [] ≡ between ++ c ∷ behind → (c ≡ Come m then' sent) ⊎ (c ≡ Take)
second m then' sent [] behind c e = (let f : Come m then' sent ≡ c = cc in inl (sym f))
second m then' sent (x ∷ []) behind c e = (let f : Take ≡ c = cc in inr (sym f))
second m then' sent (x ∷ y ∷ between) behind c e = absurd (nothing between (let f : [] ≡ between ++ c ∷ behind = cc in f))
  where
    nothing : (xs : List Event) → [] ≡ xs ++ c ∷ behind → ⊥
    nothing [] g = cc
    nothing (z ∷ xs) g = cc

pub guess-refused : GuessIsRefused
guess-refused p answer now then' sent m other k = at k.before k.whole
  where
    c : Event
    c = Come k.message k.now k.sent

    come : (c ≡ Come m then' sent) ⊎ (c ≡ Take) → now ≡ k.went → ⊥
    come (inr f) g = cc
    come (inl f) g = (let same : k.message ≡ m = cc in other (ap (λ (x : Message). x.body) (sym same) ∙ k.repeats ∙ ap (λ t. acknowledge answer.number (told_time t p.offset)) (sym g)))

    at : (before : List Event) → Emit now ∷ Come m then' sent ∷ Take ∷ [] ≡ before ++ Emit k.went ∷ (k.between ++ c ∷ k.behind) → ⊥
    at [] e =
        let g : now ≡ k.went = cc in
        let f : Come m then' sent ∷ Take ∷ [] ≡ k.between ++ c ∷ k.behind = cc in
        come (second m then' sent k.between k.behind c f) g
    at (x ∷ []) e = cc
    at (x ∷ y ∷ []) e = cc
    at (x ∷ y ∷ z ∷ before) e = nothing before (let f : [] ≡ before ++ Emit k.went ∷ (k.between ++ c ∷ k.behind) = cc in f)
      where
        nothing : (xs : List Event) → [] ≡ xs ++ Emit k.went ∷ (k.between ++ c ∷ k.behind) → ⊥
        nothing [] g = cc
        nothing (w ∷ xs) g = cc
