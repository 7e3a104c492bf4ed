-- One command goes, comes and is acknowledged, and nothing is lost.
use Rattle.std.proofs.Common.{◌≡◌, ℕ, zero, suc, ◌+◌, ◌-◌, ◌%◌, ◌^◌, ◌<◌, ◌≤◌, ◌==◌, eqb, ltb, Bool, true, false, cond, List, [], ◌∷◌, ◌++◌, length, map, refl, sym, ap, subst, ◌∙◌, inl, inr, ◌⊎◌, arith, Some}
use Rattle.std.proofs.lemmas.Bool.Decides.{nat_tests}
use Rattle.std.proofs.lemmas.List.{length-append}
use Rattle.std.specs.List.{slice_get, slice_set}
use Rattle.enet_seq.specs.Numbering.{wire}
use Rattle.enet_fragment.specs.declared.data.DataCommand.{DataCommand}
use Rattle.enet_sender.specs.CommandChoice.{ChosenPacket}
use Rattle.enet_sender.specs.declared.outgoing.Occasion.{Occasion}
use Rattle.enet_sender.specs.Sender.{Sender, Next, next, again, begun, position_of, without_place}
use Rattle.enet_sender.specs.declared.sent.Sent.{Sent}
use Rattle.law_connection.specs.Link.{PutOut, Answer, is_late}
use Rattle.law_connection.specs.WireLink.{WireLink, sends, puts_out, with_reach, arrives, logs_answer, answered}
use Rattle.law_connection.specs.LinkSteps.{Has, Event, Send, PutsOut, Arrive, ArriveAnswered, PutsAnswer, Acknowledge, Happens, Runs, Comes}
use Rattle.law_connection.proofs.CarriageLemmas.{Has-append_left, Has-append_right}
use Rattle.law_connection.proofs.Firsts.{drop_first, without-first, Has-from_drop}
use Rattle.law_connection.proofs.LinkLemmas.{number_below_true}
use Rattle.law_connection.proofs.LinkRuns.{Sound-happens}
use Rattle.law_connection.proofs.Lists.{Has-push, Has-push_cases}
use Rattle.law_connection.proofs.Shown.{Images, ImageOf, Sound}
use Rattle.law_connection.proofs.SoundSender.{next_cases}
use Rattle.law_progress.specs.Links.{Waits, AreShort, IsUp, outstanding_at, outstanding, AreTimed, IsCalm, AreCalm}
use Rattle.law_progress.proofs.Answered as answering
use Rattle.law_progress.proofs.Answered.{numbers-sent}

-- a calm run, from one link to another
pub record Calm (mtu most : ℕ) (v w : WireLink) : Type 0 where
  pub events : List Event
  pub runs : Runs mtu events v w
  pub calm : AreCalm most events

pub Calm-none : (mtu most : ℕ) (v : WireLink) → Calm mtu most v v
Calm-none mtu most v = record { events = []; runs = refl; calm = λ e h. absurd h }

pub Calm-first : (mtu most : ℕ) (e : Event) (v u w : WireLink) → IsCalm most e → Happens mtu e v u → Calm mtu most u w → Calm mtu most v w
Calm-first mtu most e v u w calm h rest = record {
  events = e ∷ rest.events;
  runs = (u, h, rest.runs);
  calm = λ x k. first x k;
}
  where
    first : (x : Event) → Has (e ∷ rest.events) x → IsCalm most x
    first x (inl is) = subst (λ y. IsCalm most y) is calm
    first x (inr k) = rest.calm x k

pub Runs-append : (mtu : ℕ) (a b : List Event) (v u w : WireLink) → Runs mtu a v u → Runs mtu b u w → Runs mtu (a ++ b) v w
Runs-append mtu [] b v u w r s = subst (λ x. Runs mtu b x w) (sym r) s
Runs-append mtu (e ∷ a) b v u w r s = (r.0, r.1, Runs-append mtu a b r.0 u w r.2 s)

pub Calm-then : (mtu most : ℕ) (v u w : WireLink) → Calm mtu most v u → Calm mtu most u w → Calm mtu most v w
Calm-then mtu most v u w a b = record {
  events = a.events ++ b.events;
  runs = Runs-append mtu a.events b.events v u w a.runs b.runs;
  calm = λ x k. both a.events x k a.calm;
}
  where
    both : (es : List Event) (x : Event) → Has (es ++ b.events) x → AreCalm most es → IsCalm most x
    both [] x k all = b.calm x k
    both (e ∷ es) x (inl is) all = all x (inl is)
    both (e ∷ es) x (inr k) all = both es x k (λ y j. all y (inr j))

-- what was just put out is in time
pub fresh-in_time : (sent n : ℕ) → n ≤ sent → sent ≤ n + 8192 → is_late sent sent (n % 65536) ≡ false
fresh-in_time sent n low high =
    let e = number_below_true n sent low (omega arith) in
    ap (λ x. ltb 32768 (sent - x)) e ∙ near (sent - n) (omega arith)
  where
    near : (k : ℕ) → k ≤ 8192 → ltb 32768 k ≡ false
    near k h = grind (arith, nat_tests)

pub Has-map : {X Y : Type 0} (f : X → Y) (xs : List X) (x : X) → Has xs x → Has (map f xs) (f x)
Has-map f [] x h = absurd h
Has-map f (y ∷ xs) x (inl e) = inl (ap f e)
Has-map f (y ∷ xs) x (inr h) = inr (Has-map f xs x h)

-- all acknowledgements that wait are put out
record PutAcks (mtu most : ℕ) (w : WireLink) (as' : List ℕ) : Type 0 where
  after : WireLink
  run : Calm mtu most w after
  answers : after.answers ≡ []
  outgoing : after.outgoing ≡ w.outgoing
  greatest : after.greatest ≡ w.greatest
  making : after.making ≡ w.making
  sending : after.is_sending ≡ w.is_sending
  open' : after.is_open ≡ w.is_open
  submitted : after.submitted ≡ w.submitted
  old : (a : Answer) → Has w.acks a → Has after.acks a
  new : (n : ℕ) → Has as' n → Has after.acks (record { number = n; sent_then = w.greatest })

puts-acks : (mtu most : ℕ) (w : WireLink) (as' : List ℕ) → w.answers ≡ as' → PutAcks mtu most w as'
puts-acks mtu most w [] e = record { after = w; run = Calm-none mtu most w; answers = e; outgoing = refl; greatest = refl; making = refl; sending = refl; open' = refl; submitted = refl; old = λ a h. h; new = λ n h. absurd h }
puts-acks mtu most w (a ∷ rest) e =
    let u = logs_answer w a rest in
    let k = puts-acks mtu most u rest refl in
    let mine : Answer = record { number = a; sent_then = w.greatest } in
    record {
      after = k.after;
      run = Calm-first mtu most (PutsAnswer a rest) w u k.after tt (record { oldest = e; after = refl }) k.run;
      answers = k.answers;
      outgoing = k.outgoing;
      greatest = k.greatest;
      making = k.making;
      sending = k.sending;
      open' = k.open';
      submitted = k.submitted;
      old = λ b h. k.old b (Has-append_left w.acks (mine ∷ []) b h);
      new = λ n h. each k n h;
    }
  where
    each : (k : PutAcks mtu most (logs_answer w a rest) rest) → (n : ℕ) → Has (a ∷ rest) n → Has k.after.acks (record { number = n; sent_then = w.greatest })
    each k n (inl is) = k.old (record { number = n; sent_then = w.greatest }) (subst (λ z. Has (w.acks ++ (record { number = a; sent_then = w.greatest }) ∷ []) (record { number = z; sent_then = w.greatest })) is (Has-push w.acks (record { number = a; sent_then = w.greatest })))
    each k n (inr h) = k.new n h

-- an acknowledgement takes one command away
pub removes-one : (n : ℕ) (sent : List Sent) → Has (map (λ (p : Sent). p.command.number) sent) n → length (without_place sent (position_of n sent)) + 1 ≡ length sent
removes-one n sent h = ap (λ (l : List Sent). length l + 1) (without-first (λ (p : Sent). p.command.number == n) sent) ∙ go sent h
  where
    go : (xs : List Sent) → Has (map (λ (p : Sent). p.command.number) xs) n → length (drop_first (λ (p : Sent). eqb p.command.number n) xs) + 1 ≡ length xs
    go [] h = absurd h
    go (x ∷ xs) h = elim (eqb x.command.number n) as (λ b. eqb x.command.number n ≡ b → length (cond b xs (x ∷ drop_first (λ (p : Sent). eqb p.command.number n) xs)) + 1 ≡ suc (length xs)) [
      | true ↦ λ t. omega arith
      | false ↦ λ t. (let rest = go xs (later h t) in omega arith)
    ] refl
      where
        later : Has (map (λ (p : Sent). p.command.number) (x ∷ xs)) n → eqb x.command.number n ≡ false → Has (map (λ (p : Sent). p.command.number) xs) n
        later (inl e) t = absurd (unlike x.command.number e t)
          where
            unlike : (m : ℕ) → m ≡ n → eqb m n ≡ false → ⊥
            unlike m e t = grind (arith, nat_tests)
        later (inr k) t = k

length-set' : (xs : List Sent) (i : ℕ) (p : Sent) → length (slice_set xs i p) ≡ length xs
length-set' [] i p = refl
length-set' (x ∷ xs) zero p = refl
length-set' (x ∷ xs) (suc i) p = let rest = length-set' xs i p in omega arith

pub Images-has : (mtu : ℕ) (cs : List ChosenPacket) (ns : List ℕ) (sent : List Sent) (p : Sent) → Images mtu cs ns sent → Has sent p → (n : ℕ) × Has ns n × ImageOf mtu cs n p
Images-has mtu cs [] [] p i h = absurd h
Images-has mtu cs [] (d ∷ sent) p i h = absurd i
Images-has mtu cs (n ∷ ns) [] p i h = absurd h
Images-has mtu cs (n ∷ ns) (d ∷ sent) p i (inl e) = subst (λ (x : Sent). (m : ℕ) × Has (n ∷ ns) m × ImageOf mtu cs m x) e (n, inl refl, i.0)
Images-has mtu cs (n ∷ ns) (d ∷ sent) p i (inr h) = let k = Images-has mtu cs ns sent p i.1 h in (k.0, inr k.1, k.2)

-- what is outstanding after a send: as much after one of a reliable command, one less after one of an unreliable one
pub record AfterSend (o : Sender) (n : Next) : Type 0 where
  pub reliable : n.command.reliable ≡ true → outstanding_at n.sender ≡ outstanding_at o
  pub unreliable : n.command.reliable ≡ false → outstanding_at n.sender + 1 ≡ outstanding_at o

by-send : (mtu : ℕ) (v : WireLink) (occasion : Occasion) (n : Next) → Sound mtu v → v.is_sending ≡ true → next wire occasion v.outgoing ≡ Some n → AfterSend v.outgoing n
by-send mtu v occasion n s sending e = elim (next_cases occasion v.outgoing n e) [
  | inl r ↦
      let o = v.outgoing in
      let im = Images-has mtu s.link.carried s.link.unacked o.sent r.which (s.shows.images sending) (has-at o.sent r.place r.which r.there) in
      let meant = im.2 in
      let kind : r.which.command.reliable ≡ true = ap (λ (c : DataCommand). c.reliable) meant.command ∙ meant.reliable in
      let is = r.is in
      let same : outstanding_at n.sender ≡ outstanding_at o = ap (λ (x : Next). outstanding_at x.sender) r.is ∙ ap (λ k. length o.queued + k) (length-set' o.sent r.place (again occasion.now r.which)) in
      record {
        reliable = λ t. same;
        unreliable = λ t. absurd (let f : true ≡ false = sym kind ∙ ap (λ (x : Next). x.command.reliable) (sym r.is) ∙ t in cc);
      }
  | inr b ↦
      let o = v.outgoing in
      let q : length o.queued ≡ suc (length b.rest) = ap (λ (l : List DataCommand). length l) b.queued in
      let command : n.command.reliable ≡ b.head.reliable = ap (λ (x : Next). x.command.reliable) b.is in
      let after : outstanding_at n.sender ≡ length b.rest + length (cond b.head.reliable (o.sent ++ begun occasion.now occasion.timeout b.head ∷ []) o.sent) = ap (λ (x : Next). outstanding_at x.sender) b.is in
      let pushed : length (o.sent ++ begun occasion.now occasion.timeout b.head ∷ []) ≡ length o.sent + 1 = length-append o.sent (begun occasion.now occasion.timeout b.head ∷ []) in
      record {
        reliable = λ t. (let z : length (cond b.head.reliable (o.sent ++ begun occasion.now occasion.timeout b.head ∷ []) o.sent) ≡ length o.sent + 1 =
            ap (λ r. length (cond r (o.sent ++ begun occasion.now occasion.timeout b.head ∷ []) o.sent)) (sym command ∙ t) ∙ pushed in omega arith);
        unreliable = λ t. (let z : length (cond b.head.reliable (o.sent ++ begun occasion.now occasion.timeout b.head ∷ []) o.sent) ≡ length o.sent =
            ap (λ r. length (cond r (o.sent ++ begun occasion.now occasion.timeout b.head ∷ []) o.sent)) (sym command ∙ t) in omega arith);
      }
]
  where
    has-at : (xs : List Sent) (k : ℕ) (x : Sent) → slice_get xs k ≡ Some x → Has xs x
    has-at [] k x e = absurd (cc)
    has-at (y ∷ ys) zero x e = inl (cc)
    has-at (y ∷ ys) (suc k) x e = inr (has-at ys k x e)

-- what is sent comes of what was sent, or goes now
abbrev pub ComesOf : Occasion → List Sent → List Sent → Type 0
ComesOf occasion old new = (p : Sent) → Has new p → (p.transmission.timeout ≡ occasion.timeout) ⊎ ((q : Sent) × Has old q × (p.transmission.timeout ≡ q.transmission.timeout))

by-send_times : (occasion : Occasion) (o : Sender) (n : Next) → next wire occasion o ≡ Some n → ComesOf occasion o.sent n.sender.sent
by-send_times occasion o n e = elim (next_cases occasion o n e) [
  | inl r ↦ λ p h. inr (set o.sent r.place r.which r.there p (subst (λ (x : Next). Has x.sender.sent p) r.is h))
  | inr b ↦ λ p h. pushed b.head.reliable b.head p (subst (λ (x : Next). Has x.sender.sent p) b.is h)
]
  where
    set : (xs : List Sent) (i : ℕ) (q : Sent) → slice_get xs i ≡ Some q → (p : Sent) → Has (slice_set xs i (again occasion.now q)) p → (x : Sent) × Has xs x × (p.transmission.timeout ≡ x.transmission.timeout)
    set [] i q t p h = absurd h
    set (x ∷ xs) zero q t p (inl is) = (x, inl refl, (let it : x ≡ q = cc in ap (λ (y : Sent). y.transmission.timeout) (sym is) ∙ ap (λ (y : Sent). y.transmission.timeout) (sym it)))
    set (x ∷ xs) zero q t p (inr h) = (p, inr h, refl)
    set (x ∷ xs) (suc i) q t p (inl is) = (p, inl is, refl)
    set (x ∷ xs) (suc i) q t p (inr h) = let k = set xs i q t p h in (k.0, inr k.1, k.2)

    pushed : (r : Bool) (c : DataCommand) (p : Sent) → Has (cond r (o.sent ++ begun occasion.now occasion.timeout c ∷ []) o.sent) p → (p.transmission.timeout ≡ occasion.timeout) ⊎ ((q : Sent) × Has o.sent q × (p.transmission.timeout ≡ q.transmission.timeout))
    pushed false c p h = inr (p, h, refl)
    pushed true c p h = elim (Has-push_cases o.sent (begun occasion.now occasion.timeout c) p h) [
      | inl k ↦ inr (p, k, refl)
      | inr is ↦ inl (ap (λ (y : Sent). y.transmission.timeout) (sym is))
    ]

-- one command less is outstanding
pub record Nearer (mtu most : ℕ) (v : WireLink) : Type 0 where
  pub after : WireLink
  pub run : Calm mtu most v after
  pub up : IsUp after
  pub submitted : after.submitted ≡ v.submitted
  pub less : outstanding after + 1 ≡ outstanding v
  pub timed : AreTimed v.outgoing.sent → AreTimed after.outgoing.sent

-- what is due goes, comes and is acknowledged
pub trip : (mtu most : ℕ) (v : WireLink) (occasion : Occasion) (n : Next) → 28 < mtu → Sound mtu v → IsUp v → AreShort most v.submitted → occasion.timeout < 2 ^ 32 → next wire occasion v.outgoing ≡ Some n → Nearer mtu most v
trip mtu most v occasion n big s up short brief due =
    elim n.command.reliable as (λ b. n.command.reliable ≡ b → Nearer mtu most v) [ true ↦ λ r. answered_trip r | false ↦ λ r. plain_trip r ] refl
  where
    v1 : WireLink
    v1 = sends v n

    v2 : WireLink
    v2 = puts_out v1

    sent1 : Happens mtu (Send occasion) v v1
    sent1 = record { due = n; sending = up.sending; is_due = due; after = refl }

    s1 : Sound mtu v1
    s1 = Sound-happens mtu (Send occasion) v v1 big s sent1

    s2 : Sound mtu v2
    s2 = Sound-happens mtu PutsOut v1 v2 big s1 refl

    e : PutOut
    e = with_reach v1.greatest n.command

    logged : Has v2.commands e
    logged = Has-append_right v.commands (map (with_reach v1.greatest) (v.making ++ n.command ∷ [])) e (Has-map (with_reach v1.greatest) (v.making ++ n.command ∷ []) n.command (Has-push v.making n.command))

    in_time : is_late v2.greatest e.sent_then e.command.number ≡ false
    in_time =
        let k = s2.shows.commands e logged in
        let f : PutOut = record { command = k.meant; sent_then = e.sent_then } in
        let out = s2.numbers.commands f k.there in
        let number : n.command.number ≡ k.meant.number % 65536 = ap (λ (x : DataCommand). x.number) k.command in
        ap (λ z. is_late v1.greatest v1.greatest z) number ∙ fresh-in_time v1.greatest k.meant.number out.number (let a = out.span in omega arith)

    comes : Comes e v2
    comes = record { logged = logged; in_time = in_time }

    timed : AreTimed v.outgoing.sent → AreTimed n.sender.sent
    timed all p h = elim (by-send_times occasion v.outgoing n due p h) [
      | inl is ↦ subst (λ k. k < 2 ^ 32) (sym is) brief
      | inr q ↦ subst (λ k. k < 2 ^ 32) (sym q.2) (all q.0 q.1)
    ]

    plain_trip : n.command.reliable ≡ false → Nearer mtu most v
    plain_trip kind =
        let v3 = arrives v2 most n.command false false in
        let step : Happens mtu (Arrive e most false) v2 v3 = record { comes = comes; after = refl } in
        record {
          after = v3;
          run = Calm-first mtu most (Send occasion) v v1 v3 tt sent1 (Calm-first mtu most PutsOut v1 v2 v3 tt refl (Calm-first mtu most (Arrive e most false) v2 v3 v3 (refl, refl) step (Calm-none mtu most v3)));
          up = record { sending = up.sending; open' = up.open'; between = refl };
          submitted = refl;
          less = (by-send mtu v occasion n s up.sending due).unreliable kind;
          timed = timed;
        }

    answered_trip : n.command.reliable ≡ true → Nearer mtu most v
    answered_trip kind =
        let x = n.command.number in
        let l1 = s1.link in
        let pend = s1.shows.making n.command (Has-push v.making n.command) in
        let meant_kind : pend.meant.reliable ≡ true = ap (λ (c : DataCommand). c.reliable) (sym pend.command) ∙ kind in
        let unacked = pend.reliable meant_kind in
        let number : x ≡ pend.meant.number % 65536 = ap (λ (c : DataCommand). c.number) pend.command in
        let numbers = numbers-sent mtu l1.carried l1.unacked v1.outgoing.sent (s1.shows.images up.sending) in
        let waits : Has (map (λ (p : Sent). p.command.number) n.sender.sent) x = subst (λ ns. Has ns x) (sym numbers) (subst (λ z. Has (map (λ k. k % 65536) l1.unacked) z) (sym number) (Has-map (λ k. k % 65536) l1.unacked pend.meant.number unacked)) in
        let w : Waits v2 e = record { logged = logged; reliable = kind; waits = waits; in_time = in_time } in
        let rule = answering.answered mtu most v2 s2 up.sending up.open' short e w in
        let v3 = arrives v2 most n.command false true in
        let step : Happens mtu (ArriveAnswered e most false) v2 v3 = record { comes = comes; reliable = kind; rule = λ o. rule; after = refl } in
        let k = puts-acks mtu most v3 v3.answers refl in
        let v4 = k.after in
        let a : Answer = record { number = x; sent_then = v3.greatest } in
        let there : Has v4.acks a = k.new x (Has-push v.answers x) in
        let v5 = answered v4 a in
        let still : is_late v4.greatest a.sent_then a.number ≡ false = ap (λ z. is_late z v3.greatest x) k.greatest ∙ in_time in
        let last : Happens mtu (Acknowledge a) v4 v5 = record { between = k.making; logged = there; in_time = still; after = refl } in
        let run3 : Calm mtu most v v3 = Calm-first mtu most (Send occasion) v v1 v3 tt sent1 (Calm-first mtu most PutsOut v1 v2 v3 tt refl (Calm-first mtu most (ArriveAnswered e most false) v2 v3 v3 (refl, refl) step (Calm-none mtu most v3))) in
        let out : v4.outgoing ≡ n.sender = k.outgoing in
        let gone : length (without_place v4.outgoing.sent (position_of x v4.outgoing.sent)) + 1 ≡ length v4.outgoing.sent = removes-one x v4.outgoing.sent (subst (λ (o : Sender). Has (map (λ (p : Sent). p.command.number) o.sent) x) (sym out) waits) in
        let same = (by-send mtu v occasion n s up.sending due).reliable kind in
        let queued : length v4.outgoing.queued ≡ length n.sender.queued = ap (λ (o : Sender). length o.queued) out in
        let sent : length v4.outgoing.sent ≡ length n.sender.sent = ap (λ (o : Sender). length o.sent) out in
        record {
          after = v5;
          run = Calm-then mtu most v v3 v5 run3 (Calm-then mtu most v3 v4 v5 k.run (Calm-first mtu most (Acknowledge a) v4 v5 v5 tt last (Calm-none mtu most v5)));
          up = record { sending = k.sending ∙ up.sending; open' = k.open' ∙ up.open'; between = k.making };
          submitted = k.submitted;
          less = (let z : length (without_place v4.outgoing.sent (position_of x v4.outgoing.sent)) + 1 ≡ length n.sender.sent = gone ∙ sent in omega arith);
          timed = λ all p h. timed all p (subst (λ (o : Sender). Has o.sent p) out (Has-from_drop (λ (q : Sent). q.command.number == x) v4.outgoing.sent p (subst (λ (l : List Sent). Has l p) (without-first (λ (q : Sent). q.command.number == x) v4.outgoing.sent) h)));
        }
