-- What goes in a round comes, and is acknowledged.
use Rattle.std.proofs.Common.{◌≡◌, ℕ, zero, suc, ◌+◌, ◌%◌, ◌<◌, ◌≤◌, ◌&&◌, ◌==◌, Bool, true, false, cond, List, [], ◌∷◌, ◌++◌, length, map, refl, sym, ap, subst, ◌∙◌, inl, inr, ◌⊎◌, arith, Some, append_assoc, append-nil}
use Rattle.std.proofs.lemmas.Bool.{eq-eqb}
use Rattle.std.proofs.lemmas.Bool.Decides.{nat_tests}
use Rattle.std.proofs.lemmas.List.{length-append}
use Rattle.std.specs.List.{slice_get, slice_set}
use Rattle.enet_seq.specs.Numbering.{wire}
use Rattle.enet_fragment.specs.declared.data.DataCommand.{DataCommand}
use Rattle.enet_receiver.specs.DataOutcome.{acknowledged}
use Rattle.enet_sender.specs.declared.outgoing.Occasion.{Occasion}
use Rattle.enet_sender.specs.Sender.{Sender, Next, next, again, begun, resent, first_sent, is_more, skipped}
use Rattle.enet_sender.specs.declared.sent.Sent.{Sent}
use Rattle.law_connection.specs.Link.{PutOut, Answer, is_late}
use Rattle.law_connection.specs.WireLink.{WireLink, sends, drops, puts_out, with_reach, arrives, logs_answer, answered}
use Rattle.law_connection.specs.LinkSteps.{Has, Event, Submit, Send, Drop, Mark, PutsOut, Arrive, ArriveAnswered, PutsAnswer, Acknowledge, GivesUp, StopSending, StopReceiving, DropAnswers, Happens, Runs, Comes}
use Rattle.law_connection.proofs.CarriageLemmas.{Has-append_right}
use Rattle.law_connection.proofs.Firsts.{drop_first, without-first, Has-from_drop}
use Rattle.law_connection.proofs.LinkRuns.{Sound-happens, Sound-runs}
use Rattle.law_connection.proofs.Lists.{Has-push, Has-push_left, Has-push_cases, Has-slice_get}
use Rattle.law_connection.proofs.Shown.{Images, IsRising, Sound}
use Rattle.law_connection.proofs.SoundSender.{next_cases}
use Rattle.law_progress.specs.Links.{Waits, AreShort, outstanding_at, outstanding}
use Rattle.law_progress.specs.Rounds.{Fills, comes, all_come, Carries, CarriesMany, answer_of, hears, all_heard}
use Rattle.law_progress.proofs.Answered as answering
use Rattle.law_progress.proofs.Trips.{fresh-in_time, Has-map, Runs-append, Images-has}

abbrev pub nums : List Sent → List ℕ
nums sent = map (λ (p : Sent). p.command.number) sent

-- a link comes from another by something that can happen
abbrev pub Reaches : ℕ → WireLink → WireLink → Type 0
Reaches mtu v w = (es : List Event) × Runs mtu es v w

pub then-reaches : (mtu : ℕ) (v u w : WireLink) → Reaches mtu v u → Reaches mtu u w → Reaches mtu v w
then-reaches mtu v u w a b = (a.0 ++ b.0, Runs-append mtu a.0 b.0 v u w a.1 b.1)

pub one-reaches : (mtu : ℕ) (e : Event) (v w : WireLink) → Happens mtu e v w → Reaches mtu v w
one-reaches mtu e v w h = (e ∷ [], (w, h, refl))

-- ---- what goes into a datagram
record Step (o : Sender) (n : Next) : Type 0 where
  kept : (x : ℕ) → Has (nums o.sent) x → Has (nums n.sender.sent) x
  own : n.command.reliable ≡ true → Has (nums n.sender.sent) n.command.number
  from : (p : Sent) → Has n.sender.sent p → Has o.sent p ⊎ ((n.command.reliable ≡ true) × (p.command.number ≡ n.command.number))
  queued : length n.sender.queued ≤ length o.queued
  least : outstanding_at n.sender ≤ outstanding_at o

-- to send again changes no number
pub set-nums : (xs : List Sent) (i now : ℕ) (q : Sent) → slice_get xs i ≡ Some q → nums (slice_set xs i (again now q)) ≡ nums xs
set-nums [] i now q t = refl
set-nums (x ∷ xs) zero now q t = let it : x ≡ q = cc in ap (λ (y : Sent). y.command.number ∷ nums xs) (sym it)
set-nums (x ∷ xs) (suc i) now q t = ap (λ (l : List ℕ). x.command.number ∷ l) (set-nums xs i now q t)

set-from : (xs : List Sent) (i now : ℕ) (q p : Sent) → slice_get xs i ≡ Some q → Has (slice_set xs i (again now q)) p → Has xs p ⊎ (p.command.number ≡ q.command.number)
set-from [] i now q p t h = absurd h
set-from (x ∷ xs) zero now q p t (inl is) = inr (ap (λ (y : Sent). y.command.number) (sym is))
set-from (x ∷ xs) zero now q p t (inr h) = inl (inr h)
set-from (x ∷ xs) (suc i) now q p t (inl is) = inl (inl is)
set-from (x ∷ xs) (suc i) now q p t (inr h) = elim (set-from xs i now q p t h) [ inl k ↦ inl (inr k) | inr e ↦ inr e ]

pub set-length : (xs : List Sent) (i : ℕ) (p : Sent) → length (slice_set xs i p) ≡ length xs
set-length [] i p = refl
set-length (x ∷ xs) zero p = refl
set-length (x ∷ xs) (suc i) p = let rest = set-length xs i p in omega arith

pub Has-nums : (xs : List Sent) (p : Sent) → Has xs p → Has (nums xs) p.command.number
Has-nums xs p h = Has-map (λ (q : Sent). q.command.number) xs p h

pub Has-more : (xs ys : List Sent) (x : ℕ) → Has (nums xs) x → Has (nums (xs ++ ys)) x
Has-more [] ys x h = absurd h
Has-more (y ∷ xs) ys x (inl e) = inl e
Has-more (y ∷ xs) ys x (inr h) = inr (Has-more xs ys x h)

step-of : (mtu : ℕ) (v : WireLink) (occasion : Occasion) (n : Next) → Sound mtu v → v.is_sending ≡ true → next wire occasion v.outgoing ≡ Some n → Step v.outgoing n
step-of mtu v occasion n s sending e = elim (next_cases occasion v.outgoing n e) [
  | inl r ↦ subst (λ (x : Next). Step v.outgoing x) (sym r.is) (again-step r.place r.which r.there)
  | inr b ↦ subst (λ (x : Next). Step v.outgoing x) (sym b.is) (first-step b.head b.rest b.queued b.head.reliable refl)
]
  where
    o : Sender
    o = v.outgoing

    again-step : (i : ℕ) (q : Sent) → slice_get o.sent i ≡ Some q → Step o (resent occasion.now o i q)
    again-step i q there =
        let has : Has o.sent q = Has-slice_get o.sent i q there in
        let im = Images-has mtu s.link.carried s.link.unacked o.sent q (s.shows.images sending) has in
        let meant = im.2 in
        let kind : q.command.reliable ≡ true = ap (λ (c : DataCommand). c.reliable) meant.command ∙ meant.reliable in
        let same = set-nums o.sent i occasion.now q there in
        let size = set-length o.sent i (again occasion.now q) in
        record {
          kept = λ x h. subst (λ (l : List ℕ). Has l x) (sym same) h;
          own = λ t. subst (λ (l : List ℕ). Has l q.command.number) (sym same) (Has-nums o.sent q has);
          from = λ p h. elim (set-from o.sent i occasion.now q p there h) [ inl k ↦ inl k | inr is ↦ inr (kind, is) ];
          queued = omega arith;
          least = omega arith;
        }

    first-step : (c : DataCommand) (rest : List DataCommand) → o.queued ≡ c ∷ rest → (b : Bool) → c.reliable ≡ b → Step o (first_sent occasion.now occasion.timeout o c rest)
    first-step c rest is b kind =
        let less : length o.queued ≡ suc (length rest) = ap (λ (l : List DataCommand). length l) is in
        record {
          kept = λ x h. kept b kind x h;
          own = λ t. own b kind t;
          from = λ p h. from b kind p h;
          queued = omega arith;
          least = (let size = pushed c.reliable in omega arith);
        }
      where
        p0 : Sent
        p0 = begun occasion.now occasion.timeout c

        pushed : (b : Bool) → length (cond b (o.sent ++ p0 ∷ []) o.sent) ≤ length o.sent + 1
        pushed true = (let size = length-append o.sent (p0 ∷ []) in omega arith)
        pushed false = omega arith

        kept : (b : Bool) → c.reliable ≡ b → (x : ℕ) → Has (nums o.sent) x → Has (nums (cond c.reliable (o.sent ++ p0 ∷ []) o.sent)) x
        kept true k x h = subst (λ r. Has (nums (cond r (o.sent ++ p0 ∷ []) o.sent)) x) (sym k) (Has-more o.sent (p0 ∷ []) x h)
        kept false k x h = subst (λ r. Has (nums (cond r (o.sent ++ p0 ∷ []) o.sent)) x) (sym k) h

        own : (b : Bool) → c.reliable ≡ b → c.reliable ≡ true → Has (nums (cond c.reliable (o.sent ++ p0 ∷ []) o.sent)) c.number
        own true k t = subst (λ r. Has (nums (cond r (o.sent ++ p0 ∷ []) o.sent)) c.number) (sym k) (Has-nums (o.sent ++ p0 ∷ []) p0 (Has-push o.sent p0))
        own false k t = absurd (let f : true ≡ false = sym t ∙ k in cc)

        from : (b : Bool) → c.reliable ≡ b → (p : Sent) → Has (cond c.reliable (o.sent ++ p0 ∷ []) o.sent) p → Has o.sent p ⊎ ((c.reliable ≡ true) × (p.command.number ≡ c.number))
        from true k p h = elim (Has-push_cases o.sent p0 p (subst (λ r. Has (cond r (o.sent ++ p0 ∷ []) o.sent) p) k h)) [
          | inl m ↦ inl m
          | inr is ↦ inr (k, ap (λ (y : Sent). y.command.number) (sym is))
        ]
        from false k p h = inl (subst (λ r. Has (cond r (o.sent ++ p0 ∷ []) o.sent) p) k h)

skipped-length : (cs : List DataCommand) → length (skipped cs) ≤ length cs
skipped-length [] = omega arith
skipped-length (c ∷ cs) = let rest = skipped-length cs in elim (is_more c) as (λ b. length (cond b (skipped cs) (c ∷ cs)) ≤ suc (length cs)) [
  | true ↦ omega arith
  | false ↦ omega arith
]

-- a datagram that is being filled: what goes into it waits for its acknowledgement, and nothing else that didn't before
record Filled (mtu : ℕ) (start u : WireLink) : Type 0 where
  run : Reaches mtu start u
  sound : Sound mtu u
  sending : u.is_sending ≡ true
  open' : u.is_open ≡ start.is_open
  submitted : u.submitted ≡ start.submitted
  answers : u.answers ≡ start.answers
  waits : (c : DataCommand) → Has u.making c → c.reliable ≡ true → Has (nums u.outgoing.sent) c.number
  from : (p : Sent) → Has u.outgoing.sent p → Has start.outgoing.sent p ⊎ ((c : DataCommand) × Has u.making c × (c.reliable ≡ true) × (p.command.number ≡ c.number))
  queued : length u.outgoing.queued ≤ length start.outgoing.queued
  least : outstanding u ≤ outstanding start

filled-send : (mtu : ℕ) (start u : WireLink) (occasion : Occasion) (n : Next) → 28 < mtu → next wire occasion u.outgoing ≡ Some n → Filled mtu start u → Filled mtu start (sends u n)
filled-send mtu start u occasion n big due k =
    let t = step-of mtu u occasion n k.sound k.sending due in
    let happens : Happens mtu (Send occasion) u (sends u n) = record { due = n; sending = k.sending; is_due = due; after = refl } in
    record {
      run = then-reaches mtu start u (sends u n) k.run (one-reaches mtu (Send occasion) u (sends u n) happens);
      sound = Sound-happens mtu (Send occasion) u (sends u n) big k.sound happens;
      sending = k.sending;
      open' = k.open';
      submitted = k.submitted;
      answers = k.answers;
      waits = λ c h rel. elim (Has-push_cases u.making n.command c h) [
        | inl m ↦ t.kept c.number (k.waits c m rel)
        | inr is ↦ subst (λ (x : DataCommand). Has (nums n.sender.sent) x.number) is (t.own (ap (λ (x : DataCommand). x.reliable) is ∙ rel))
      ];
      from = λ p h. elim (t.from p h) [
        | inl m ↦ elim (k.from p m) [
          | inl j ↦ inl j
          | inr w ↦ inr (w.0, Has-push_left u.making n.command w.0 w.1, w.2, w.3)
        ]
        | inr w ↦ inr (n.command, Has-push u.making n.command, w.0, w.1)
      ];
      queued = (let a = k.queued in let b = t.queued in omega arith);
      least = (let a = k.least in let b = t.least in omega arith);
    }

filled-drop : (mtu : ℕ) (start u : WireLink) (occasion : Occasion) (n : Next) → 28 < mtu → next wire occasion u.outgoing ≡ Some n → n.command.reliable ≡ false → Filled mtu start u → Filled mtu start (drops u n)
filled-drop mtu start u occasion n big due plain k =
    let t = step-of mtu u occasion n k.sound k.sending due in
    let happens : Happens mtu (Drop occasion) u (drops u n) = record { due = n; sending = k.sending; is_due = due; unreliable = plain; after = refl } in
    let shorter : length (skipped n.sender.queued) ≤ length n.sender.queued = skipped-length n.sender.queued in
    record {
      run = then-reaches mtu start u (drops u n) k.run (one-reaches mtu (Drop occasion) u (drops u n) happens);
      sound = Sound-happens mtu (Drop occasion) u (drops u n) big k.sound happens;
      sending = k.sending;
      open' = k.open';
      submitted = k.submitted;
      answers = k.answers;
      waits = λ c h rel. t.kept c.number (k.waits c h rel);
      from = λ p h. elim (t.from p h) [
        | inl m ↦ k.from p m
        | inr w ↦ absurd (let f : true ≡ false = sym w.0 ∙ plain in cc)
      ];
      queued = (let a = k.queued in let b = t.queued in omega arith);
      least = (let a = k.least in let b = t.least in omega arith);
    }

filled-event : (mtu : ℕ) (start : WireLink) (e : Event) (u w : WireLink) → 28 < mtu → Fills e → Happens mtu e u w → Filled mtu start u → Filled mtu start w
filled-event mtu start (Send o) u w big f h k = subst (λ z. Filled mtu start z) (sym h.after) (filled-send mtu start u o h.due big h.is_due k)
filled-event mtu start (Drop o) u w big f h k = subst (λ z. Filled mtu start z) (sym h.after) (filled-drop mtu start u o h.due big h.is_due h.unreliable k)
filled-event mtu start (Submit p) u w big f h k = absurd f
filled-event mtu start (Mark t) u w big f h k = absurd f
filled-event mtu start PutsOut u w big f h k = absurd f
filled-event mtu start (Arrive c m b) u w big f h k = absurd f
filled-event mtu start (ArriveAnswered c m b) u w big f h k = absurd f
filled-event mtu start (PutsAnswer n r) u w big f h k = absurd f
filled-event mtu start (Acknowledge a) u w big f h k = absurd f
filled-event mtu start GivesUp u w big f h k = absurd f
filled-event mtu start (StopSending l) u w big f h k = absurd f
filled-event mtu start (StopReceiving l a b) u w big f h k = absurd f
filled-event mtu start DropAnswers u w big f h k = absurd f

fill : (mtu : ℕ) (start : WireLink) (es : List Event) (u w : WireLink) → 28 < mtu → ((e : Event) → Has es e → Fills e) → Runs mtu es u w → Filled mtu start u → Filled mtu start w
fill mtu start [] u w big f r k = subst (λ z. Filled mtu start z) r k
fill mtu start (e ∷ es) u w big f r k = fill mtu start es r.0 w big (λ x h. f x (inr h)) r.2 (filled-event mtu start e u r.0 big (f e (inl refl)) r.1 k)

-- ---- what was put out comes
record AllCame (mtu : ℕ) (cs : List DataCommand) (u w : WireLink) : Type 0 where
  run : Reaches mtu u w
  outgoing : w.outgoing ≡ u.outgoing
  making : w.making ≡ u.making
  sending : w.is_sending ≡ u.is_sending
  open' : w.is_open ≡ u.is_open
  submitted : w.submitted ≡ u.submitted
  old : (x : ℕ) → Has u.answers x → Has w.answers x
  new : (c : DataCommand) → Has cs c → c.reliable ≡ true → Has w.answers c.number

all-came : (mtu most : ℕ) (cs : List DataCommand) (u : WireLink) → 28 < mtu → Sound mtu u → u.is_sending ≡ true → u.is_open ≡ true → AreShort most u.submitted
    → ((c : DataCommand) → Has cs c → Has u.commands (with_reach u.greatest c)) → ((c : DataCommand) → Has cs c → is_late u.greatest u.greatest c.number ≡ false)
    → ((c : DataCommand) → Has cs c → c.reliable ≡ true → Has (nums u.outgoing.sent) c.number) → AllCame mtu cs u (all_come most u cs)
all-came mtu most [] u big s sending up short logged timely waits =
    record { run = ([], refl); outgoing = refl; making = refl; sending = refl; open' = refl; submitted = refl; old = λ x h. h; new = λ c h. absurd h }
all-came mtu most (c ∷ cs) u big s sending up short logged timely waits =
    by (λ b sn. all-came mtu most cs (arrives u most c false b) big sn sending up short (λ x h. logged x (inr h)) (λ x h. timely x (inr h)) (λ x h. waits x (inr h))) c.reliable refl
  where
    e : PutOut
    e = with_reach u.greatest c

    comes-now : Comes e u
    comes-now = record { logged = logged c (inl refl); in_time = timely c (inl refl) }

    by : ((b : Bool) → Sound mtu (arrives u most c false b) → AllCame mtu cs (arrives u most c false b) (all_come most (arrives u most c false b) cs)) → (b : Bool) → c.reliable ≡ b → AllCame mtu (c ∷ cs) u (all_come most u (c ∷ cs))
    by go true kind =
        let w : Waits u e = record { logged = logged c (inl refl); reliable = kind; waits = waits c (inl refl) kind; in_time = timely c (inl refl) } in
        let rule = answering.answered mtu most u s sending up short e w in
        let asked : (c.reliable && acknowledged wire most u.incoming c false) ≡ true = λ i. kind i && rule i in
        let next' : WireLink = arrives u most c false true in
        let is : comes most u c ≡ next' = ap (λ b. arrives u most c false b) asked in
        let step : Happens mtu (ArriveAnswered e most false) u next' = record { comes = comes-now; reliable = kind; rule = λ o. rule; after = refl } in
        let rest = go true (Sound-happens mtu (ArriveAnswered e most false) u next' big s step) in
        subst (λ z. AllCame mtu (c ∷ cs) u (all_come most z cs)) (sym is) (record {
          run = then-reaches mtu u next' (all_come most next' cs) (one-reaches mtu (ArriveAnswered e most false) u next' step) rest.run;
          outgoing = rest.outgoing;
          making = rest.making;
          sending = rest.sending;
          open' = rest.open';
          submitted = rest.submitted;
          old = λ x h. rest.old x (Has-push_left u.answers c.number x h);
          new = λ x h rel. elim h [
            | inl is ↦ subst (λ (y : DataCommand). Has (all_come most next' cs).answers y.number) is (rest.old c.number (Has-push u.answers c.number))
            | inr k ↦ rest.new x k rel
          ];
        })
    by go false kind =
        let asked : (c.reliable && acknowledged wire most u.incoming c false) ≡ false = λ i. kind i && acknowledged wire most u.incoming c false in
        let next' : WireLink = arrives u most c false false in
        let is : comes most u c ≡ next' = ap (λ b. arrives u most c false b) asked in
        let step : Happens mtu (Arrive e most false) u next' = record { comes = comes-now; after = refl } in
        let rest = go false (Sound-happens mtu (Arrive e most false) u next' big s step) in
        subst (λ z. AllCame mtu (c ∷ cs) u (all_come most z cs)) (sym is) (record {
          run = then-reaches mtu u next' (all_come most next' cs) (one-reaches mtu (Arrive e most false) u next' step) rest.run;
          outgoing = rest.outgoing;
          making = rest.making;
          sending = rest.sending;
          open' = rest.open';
          submitted = rest.submitted;
          old = rest.old;
          new = λ x h rel. elim h [
            | inl is ↦ absurd (let f : true ≡ false = sym rel ∙ ap (λ (y : DataCommand). y.reliable) (sym is) ∙ kind in cc)
            | inr k ↦ rest.new x k rel
          ];
        })

-- ---- datagrams, one after another
pub record Went (mtu : ℕ) (start u : WireLink) : Type 0 where
  pub run : Reaches mtu start u
  pub sound : Sound mtu u
  pub sending : u.is_sending ≡ true
  pub open' : u.is_open ≡ true
  pub between : u.making ≡ []
  pub submitted : u.submitted ≡ start.submitted
  -- what waits now has waited before, or its acknowledgement waits to go
  pub from : (p : Sent) → Has u.outgoing.sent p → Has start.outgoing.sent p ⊎ Has u.answers p.command.number
  pub queued : length u.outgoing.queued ≤ length start.outgoing.queued
  pub least : outstanding u ≤ outstanding start

went-one : (mtu most : ℕ) (start u w : WireLink) → 28 < mtu → AreShort most start.submitted → Went mtu start u → Carries mtu most u w → Went mtu start w
went-one mtu most start u w big short k c = subst (λ z. Went mtu start z) (sym c.after) made-comes
  where
    made : WireLink
    made = c.made

    out : WireLink
    out = puts_out made

    f : Filled mtu u made
    f = fill mtu u c.filling u made big c.fills c.runs (record {
      run = ([], refl);
      sound = k.sound;
      sending = k.sending;
      open' = refl;
      submitted = refl;
      answers = refl;
      waits = λ x h. absurd (subst (λ l. Has l x) k.between h);
      from = λ p h. inl h;
      queued = omega arith;
      least = omega arith;
    })

    s : Sound mtu out
    s = Sound-happens mtu PutsOut made out big f.sound refl

    logged : (x : DataCommand) → Has made.making x → Has out.commands (with_reach out.greatest x)
    logged x h = Has-append_right made.commands (map (with_reach made.greatest) made.making) (with_reach made.greatest x) (Has-map (with_reach made.greatest) made.making x h)

    timely : (x : DataCommand) → Has made.making x → is_late out.greatest out.greatest x.number ≡ false
    timely x h =
        let e : PutOut = with_reach out.greatest x in
        let m = s.shows.commands e (logged x h) in
        let as_meant : PutOut = record { command = m.meant; sent_then = e.sent_then } in
        let is = s.numbers.commands as_meant m.there in
        let number : x.number ≡ m.meant.number % 65536 = ap (λ (y : DataCommand). y.number) m.command in
        ap (λ z. is_late out.greatest out.greatest z) number ∙ fresh-in_time out.greatest m.meant.number is.number (let a = is.span in omega arith)

    came : AllCame mtu made.making out (all_come most out made.making)
    came = all-came mtu most made.making out big s f.sending (f.open' ∙ k.open') (subst (λ qs. AreShort most qs) (sym (f.submitted ∙ k.submitted)) short) logged timely f.waits

    made-comes : Went mtu start (all_come most out made.making)
    made-comes =
        let same : (all_come most out made.making).outgoing ≡ made.outgoing = came.outgoing in
        record {
          run = then-reaches mtu start u (all_come most out made.making) k.run (then-reaches mtu u made (all_come most out made.making) f.run (then-reaches mtu made out (all_come most out made.making) (one-reaches mtu PutsOut made out refl) came.run));
          sound = Sound-runs mtu came.run.0 out (all_come most out made.making) big s came.run.1;
          sending = came.sending ∙ f.sending;
          open' = came.open' ∙ f.open' ∙ k.open';
          between = came.making;
          submitted = came.submitted ∙ f.submitted ∙ k.submitted;
          from = λ p h. elim (f.from p (subst (λ (o : Sender). Has o.sent p) same h)) [
            | inl m ↦ elim (k.from p m) [
              | inl j ↦ inl j
              | inr j ↦ inr (came.old p.command.number (subst (λ l. Has l p.command.number) (sym f.answers) j))
            ]
            | inr x ↦ inr (subst (λ z. Has (all_come most out made.making).answers z) (sym x.3) (came.new x.0 x.1 x.2))
          ];
          queued = subst (λ (o : Sender). length o.queued ≤ length start.outgoing.queued) (sym same) (let a = f.queued in let b = k.queued in omega arith);
          least = subst (λ (o : Sender). outstanding_at o ≤ outstanding start) (sym same) (let a = f.least in let b = k.least in omega arith);
        }

pub went-all : (mtu most n : ℕ) (start w : WireLink) → 28 < mtu → AreShort most start.submitted → Went mtu start start → CarriesMany mtu most n start w → Went mtu start w
went-all mtu most zero start w big short k c = subst (λ z. Went mtu start z) (sym c) k
went-all mtu most (suc n) start w big short k c = went-one mtu most start c.0 w big short (went-all mtu most n start c.0 big short k c.1) c.2

-- ---- acknowledgements go and come
pub answers-reach : (mtu : ℕ) (as' : List ℕ) (u : WireLink) → u.answers ≡ as' → Reaches mtu u (record u { answers = []; acks = u.acks ++ map (answer_of u.greatest) as' })
answers-reach mtu [] u e = ([], λ i. record u { answers = e i; acks = sym (append-nil u.acks) i })
answers-reach mtu (a ∷ rest) u e =
    let x : WireLink = logs_answer u a rest in
    let k = answers-reach mtu rest x refl in
    let same = append_assoc u.acks (answer_of u.greatest a ∷ []) (map (answer_of u.greatest) rest) in
    let step : Happens mtu (PutsAnswer a rest) u x = record { oldest = e; after = refl } in
    subst (λ l. Reaches mtu u (record u { answers = []; acks = l })) same (then-reaches mtu u x (record x { answers = []; acks = x.acks ++ map (answer_of x.greatest) rest }) (one-reaches mtu (PutsAnswer a rest) u x step) k)

-- what waits is in time
pub waits-in_time : (mtu : ℕ) (u : WireLink) (p : Sent) → Sound mtu u → u.is_sending ≡ true → Has u.outgoing.sent p → is_late u.greatest u.greatest p.command.number ≡ false
waits-in_time mtu u p s sending h =
    let im = Images-has mtu s.link.carried s.link.unacked u.outgoing.sent p (s.shows.images sending) h in
    let near = s.numbers.unacked im.0 im.1 in
    let near1 = near.1 in
    let near2 = near.2 in
    let g = s.shows.greatest in
    let number : p.command.number ≡ im.0 % 65536 = ap (λ (x : DataCommand). x.number) im.2.command ∙ ap (λ x. x % 65536) im.2.number in
    ap (λ z. is_late u.greatest u.greatest z) number ∙ fresh-in_time u.greatest im.0 (omega arith) (omega arith)

-- once the first command of a number is gone, none has that number
pub none-left : (mtu last x : ℕ) (cs : List _) (ns : List ℕ) (sent : List Sent) → IsRising ns → ((m : ℕ) → Has ns m → (m ≤ last) × (last < m + 8192)) → Images mtu cs ns sent
    → (p : Sent) → Has (drop_first (λ (q : Sent). q.command.number == x) sent) p → p.command.number ≡ x → ⊥
none-left mtu last x cs [] [] rising near im p h e = h
none-left mtu last x cs [] (q ∷ sent) rising near im p h e = im
none-left mtu last x cs (n ∷ ns) [] rising near im p h e = im
none-left mtu last x cs (n ∷ ns) (q ∷ sent) rising near im p h e =
    elim (q.command.number == x) as (λ b. (q.command.number == x) ≡ b → Has (cond b sent (q ∷ drop_first (λ (r : Sent). r.command.number == x) sent)) p → ⊥) [
      | true ↦ λ t k.
          let own = im.0 in
          let other = Images-has mtu cs ns sent p im.1 k in
          let here : q.command.number ≡ n % 65536 = ap (λ (y : DataCommand). y.number) own.command ∙ ap (λ y. y % 65536) own.number in
          let there : p.command.number ≡ other.0 % 65536 = ap (λ (y : DataCommand). y.number) other.2.command ∙ ap (λ y. y % 65536) other.2.number in
          let above = rising.0 other.0 other.1 in
          let a = near n (inl refl) in
          let b = near other.0 (inr other.1) in
          apart n other.0 (sym here ∙ is-equal q.command.number t ∙ sym e ∙ there) above b.0 a.1
      | false ↦ λ t k. elim k [
        | inl is ↦ unlike q.command.number t (ap (λ (y : Sent). y.command.number) is ∙ e)
        | inr m ↦ none-left mtu last x cs ns sent rising.1 (λ y j. near y (inr j)) im.1 p m e
      ]
    ] refl h
  where
    is-equal : (k : ℕ) → (k == x) ≡ true → k ≡ x
    is-equal k t = grind (arith, nat_tests)

    unlike : (k : ℕ) → (k == x) ≡ false → k ≡ x → ⊥
    unlike k t i = grind (arith, nat_tests)

    apart : (a b : ℕ) → a % 65536 ≡ b % 65536 → a < b → b ≤ last → last < a + 8192 → ⊥
    apart a b same less high low = omega arith

-- all acknowledgements have come
pub record Heard (mtu : ℕ) (as' : List Answer) (u w : WireLink) : Type 0 where
  pub run : Reaches mtu u w
  pub sending : w.is_sending ≡ u.is_sending
  pub open' : w.is_open ≡ u.is_open
  pub making : w.making ≡ u.making
  pub submitted : w.submitted ≡ u.submitted
  pub queued : w.outgoing.queued ≡ u.outgoing.queued
  pub sent : (p : Sent) → Has w.outgoing.sent p → Has u.outgoing.sent p
  pub none : (p : Sent) → Has w.outgoing.sent p → Has as' (answer_of u.greatest p.command.number) → ⊥
  pub least : length w.outgoing.sent ≤ length u.outgoing.sent
  pub fewer : (p : Sent) → Has u.outgoing.sent p → Has as' (answer_of u.greatest p.command.number) → length w.outgoing.sent < length u.outgoing.sent

-- what is dropped, and what stays
drop-least : (f : Sent → Bool) (sent : List Sent) → length (drop_first f sent) ≤ length sent
drop-least f [] = omega arith
drop-least f (q ∷ sent) = let k = drop-least f sent in elim (f q) as (λ b. length (cond b sent (q ∷ drop_first f sent)) ≤ suc (length sent)) [ true ↦ omega arith | false ↦ omega arith ]

drop-fewer : (f : Sent → Bool) (sent : List Sent) (p : Sent) → Has sent p → f p ≡ true → length (drop_first f sent) < length sent
drop-fewer f [] p h e = absurd h
drop-fewer f (q ∷ sent) p h e = by (λ k. drop-fewer f sent p k e) (f q) refl h
  where
    by : (Has sent p → length (drop_first f sent) < length sent) → (b : Bool) → f q ≡ b → Has (q ∷ sent) p → length (cond b sent (q ∷ drop_first f sent)) < suc (length sent)
    by rest true t k = omega arith
    by rest false t (inl is) = absurd (let z : true ≡ false = sym e ∙ ap f (sym is) ∙ t in cc)
    by rest false t (inr k) = (let l = rest k in omega arith)

drop-stays : (f : Sent → Bool) (sent : List Sent) (p : Sent) → Has sent p → f p ≡ false → Has (drop_first f sent) p
drop-stays f [] p h e = absurd h
drop-stays f (q ∷ sent) p h e = by (λ k. drop-stays f sent p k e) (f q) refl h
  where
    by : (Has sent p → Has (drop_first f sent) p) → (b : Bool) → f q ≡ b → Has (q ∷ sent) p → Has (cond b sent (q ∷ drop_first f sent)) p
    by rest true t (inl is) = absurd (let z : true ≡ false = sym t ∙ ap f is ∙ e in cc)
    by rest true t (inr k) = k
    by rest false t (inl is) = inl is
    by rest false t (inr k) = inr (rest k)

pub heard-all : (mtu : ℕ) (as' : List Answer) (u : WireLink) → 28 < mtu → Sound mtu u → u.is_sending ≡ true → u.making ≡ [] → ((a : Answer) → Has as' a → Has u.acks a) → Heard mtu as' u (all_heard u as')
heard-all mtu [] u big s sending between logged =
    record { run = ([], refl); sending = refl; open' = refl; making = refl; submitted = refl; queued = refl; sent = λ p h. h; none = λ p h k. k; least = omega arith; fewer = λ p h k. absurd k }
heard-all mtu (a ∷ rest) u big s sending between logged =
    by (heard-all mtu rest u big s sending between (λ x h. logged x (inr h))) (λ sx. heard-all mtu rest (answered u a) big sx sending between (λ x h. logged x (inr h))) (is_late u.greatest a.sent_then a.number) refl
  where
    by : Heard mtu rest u (all_heard u rest) → (Sound mtu (answered u a) → Heard mtu rest (answered u a) (all_heard (answered u a) rest)) → (b : Bool) → is_late u.greatest a.sent_then a.number ≡ b → Heard mtu (a ∷ rest) u (all_heard u (a ∷ rest))
    by k go true late =
        let is : hears u a ≡ u = ap (λ b. cond b u (answered u a)) late in
        subst (λ z. Heard mtu (a ∷ rest) u (all_heard z rest)) (sym is) (record {
          run = k.run;
          sending = k.sending;
          open' = k.open';
          making = k.making;
          submitted = k.submitted;
          queued = k.queued;
          sent = k.sent;
          none = λ p h. elim [
            | inl e ↦
                let timely = waits-in_time mtu u p s sending (k.sent p h) in
                let mine : is_late u.greatest a.sent_then a.number ≡ is_late u.greatest u.greatest p.command.number = ap (λ (x : Answer). is_late u.greatest x.sent_then x.number) e in
                (let f : true ≡ false = sym late ∙ mine ∙ timely in absurd (cc))
            | inr j ↦ k.none p h j
          ];
          least = k.least;
          fewer = λ p h. elim [
            | inl e ↦
                let timely = waits-in_time mtu u p s sending h in
                let mine : is_late u.greatest a.sent_then a.number ≡ is_late u.greatest u.greatest p.command.number = ap (λ (x : Answer). is_late u.greatest x.sent_then x.number) e in
                (let f : true ≡ false = sym late ∙ mine ∙ timely in absurd (cc))
            | inr j ↦ k.fewer p h j
          ];
        })
    by stays go false timely =
        let x : WireLink = answered u a in
        let step : Happens mtu (Acknowledge a) u x = record { between = between; logged = logged a (inl refl); in_time = timely; after = refl } in
        let sx = Sound-happens mtu (Acknowledge a) u x big s step in
        let k = go sx in
        let is : hears u a ≡ x = ap (λ b. cond b u (answered u a)) timely in
        let fewer : x.outgoing.sent ≡ drop_first (λ (q : Sent). q.command.number == a.number) u.outgoing.sent = without-first (λ (q : Sent). q.command.number == a.number) u.outgoing.sent in
        subst (λ z. Heard mtu (a ∷ rest) u (all_heard z rest)) (sym is) (record {
          run = then-reaches mtu u x (all_heard x rest) (one-reaches mtu (Acknowledge a) u x step) k.run;
          sending = k.sending;
          open' = k.open';
          making = k.making;
          submitted = k.submitted;
          queued = k.queued;
          sent = λ p h. Has-from_drop (λ (q : Sent). q.command.number == a.number) u.outgoing.sent p (subst (λ l. Has l p) fewer (k.sent p h));
          none = λ p h. elim [
            | inl e ↦
                let there = subst (λ l. Has l p) fewer (k.sent p h) in
                let near = s.numbers.unacked in
                none-left mtu s.link.sent a.number s.link.carried s.link.unacked u.outgoing.sent s.shows.rising (λ m j. (let n = near m j in (n.1, n.2))) (s.shows.images sending) p there
                (ap (λ (y : Answer). y.number) (sym e))
            | inr j ↦ k.none p h j
          ];
          least = (let l = k.least in let d = at-most in omega arith);
          fewer = λ p h. elim [
            | inl e ↦ (let l = k.least in let d = less p h (eq-eqb p.command.number a.number (ap (λ (y : Answer). y.number) (sym e))) in omega arith)
            | inr j ↦ goes k p h j (p.command.number == a.number) refl
          ];
        })
      where
        test : Sent → Bool
        test q = q.command.number == a.number

        is_drop : (answered u a).outgoing.sent ≡ drop_first test u.outgoing.sent
        is_drop = without-first test u.outgoing.sent

        at-most : length (answered u a).outgoing.sent ≤ length u.outgoing.sent
        at-most = subst (λ (l : List Sent). length l ≤ length u.outgoing.sent) (sym is_drop) (drop-least test u.outgoing.sent)

        less : (p : Sent) → Has u.outgoing.sent p → (p.command.number == a.number) ≡ true → length (answered u a).outgoing.sent < length u.outgoing.sent
        less p h t = subst (λ (l : List Sent). length l < length u.outgoing.sent) (sym is_drop) (drop-fewer test u.outgoing.sent p h t)

        goes : (k : Heard mtu rest (answered u a) (all_heard (answered u a) rest)) (p : Sent) → Has u.outgoing.sent p → Has rest (answer_of u.greatest p.command.number) → (b : Bool) → (p.command.number == a.number) ≡ b
            → length (all_heard (answered u a) rest).outgoing.sent < length u.outgoing.sent
        goes k p h j true t = (let l = k.least in let d = less p h t in omega arith)
        goes k p h j false t =
            let there : Has (answered u a).outgoing.sent p = subst (λ (l : List Sent). Has l p) (sym is_drop) (drop-stays test u.outgoing.sent p h t) in
            let l = k.fewer p there j in
            let d = at-most in
            omega arith
