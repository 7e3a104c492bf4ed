-- How the greatest number sent grows along a run of a link.
use Rattle.std.proofs.Common.{◌≡◌, ℕ, ◌+◌, ◌%◌, ◌<◌, ◌≤◌, Bool, true, false, cond, List, [], ◌∷◌, ◌++◌, length, map, refl, sym, ap, subst, ◌∙◌, inl, inr, arith, append_assoc, Some}
use Rattle.std.proofs.lemmas.Bool.Decides.{nat_tests}
use Rattle.std.proofs.lemmas.List.{append-nil, map-append, length-append, length-map}
use Rattle.std.specs.Prelude.{nat_lt}
use Rattle.enet_seq.specs.Windows.{ahead}
use Rattle.enet_seq.specs.Numbering.{wire}
use Rattle.enet_fragment.specs.declared.data.DataCommand.{DataCommand}
use Rattle.enet_sender.specs.declared.outgoing.Occasion.{Occasion}
use Rattle.enet_sender.specs.Sender.{Sender, Next, next}
use Rattle.law_connection.specs.Greatest.{greatest_after, greatest_over}
use Rattle.law_connection.specs.FirstSends.{first_sends, first_sends_of, numbers_sent}
use Rattle.law_connection.specs.Link.{PutOut}
use Rattle.law_connection.specs.WireLink.{WireLink, with_reach, submits, sends, drops, marks, puts_out, arrives, logs_answer, answered, gives_up, stops_sending, stops_receiving, drops_answers}
use Rattle.law_connection.specs.LinkSteps.{Event, Submit, Send, Drop, Mark, PutsOut, Arrive, ArriveAnswered, PutsAnswer, Acknowledge, GivesUp, StopSending, StopReceiving, DropAnswers, Happens, Runs, fresh_link}
use Rattle.law_connection.proofs.Counting.{counted}
use Rattle.law_connection.proofs.QueueLemmas.{reliable_count}
use Rattle.law_connection.proofs.Shown.{Sound}
use Rattle.law_connection.proofs.SoundSender.{next_cases}
use Rattle.law_connection.proofs.LinkRuns.{Sound-fresh, Sound-happens, Sound-runs}

-- one number

pub step : (greatest number : ℕ) → (greatest ≤ greatest_after greatest number) × (greatest_after greatest number < greatest + 32768)
step greatest number = by (nat_lt d 32768) refl
  where
    d : ℕ
    d = ahead (greatest % 65536) number

    by : (b : Bool) → nat_lt d 32768 ≡ b → (greatest ≤ cond b (greatest + d) greatest) × (cond b (greatest + d) greatest < greatest + 32768)
    by true e = let low : d < 32768 = (let t = e in grind (arith, nat_tests)) in (omega arith, omega arith)
    by false e = (omega arith, omega arith)

-- one event

-- a first send takes one command from the queue, and a resend none
fewer : (occasion : Occasion) (o : Sender) (n : Next) → next wire occasion o ≡ Some n → (reliable_count n.sender.queued ≤ reliable_count o.queued) × (reliable_count o.queued ≤ reliable_count n.sender.queued + 1)
fewer occasion o n e = elim (next_cases occasion o n e) [
  | inl r ↦ (let same : reliable_count n.sender.queued ≡ reliable_count o.queued = ap (λ (x : Next). reliable_count x.sender.queued) r.is in (omega arith, omega arith))
  | inr b ↦ (let c : DataCommand = b.head in
      let after' : reliable_count n.sender.queued ≡ reliable_count b.rest = ap (λ (x : Next). reliable_count x.sender.queued) b.is in
      let before' : reliable_count o.queued ≡ cond c.reliable (reliable_count b.rest + 1) (reliable_count b.rest) = ap reliable_count b.queued in
      by c.reliable after' before')
]
  where
    by : (r : Bool) {a b m : ℕ} → a ≡ m → b ≡ cond r (m + 1) m → (a ≤ b) × (b ≤ a + 1)
    by true x y = (omega arith, omega arith)
    by false x y = (omega arith, omega arith)

-- what one event adds
abbrev Grows : Event → WireLink → WireLink → Type 0
Grows e v w = (w.greatest ≡ v.greatest + first_sends e v w) × (first_sends e v w ≤ 1)

still : (v w : WireLink) → w.greatest ≡ v.greatest → (w.greatest ≡ v.greatest + 0) × (let none : ℕ = 0 in none ≤ 1)
still v w e = (omega arith, omega arith)

grows-sends : (mtu : ℕ) (v : WireLink) (occasion : Occasion) (n : Next) → Sound mtu v → Sound mtu (sends v n) → v.is_sending ≡ true → next wire occasion v.outgoing ≡ Some n
    → Grows (Send occasion) v (sends v n)
grows-sends mtu v occasion n s t sending due =
    let a = counted mtu v s sending in
    let b = counted mtu (sends v n) t sending in
    let f = fewer occasion v.outgoing n due in
    let f0 = f.0 in
    let f1 = f.1 in
    (omega arith, omega arith)

grows-happens : (mtu : ℕ) (e : Event) (v w : WireLink) → 28 < mtu → Sound mtu v → Happens mtu e v w → Grows e v w
grows-happens mtu (Submit packet) v w big s h = still v w (ap (λ (x : WireLink). x.greatest) h.after)
grows-happens mtu (Send occasion) v w big s h =
    let t : Sound mtu w = Sound-happens mtu (Send occasion) v w big s h in
    subst (λ x. Grows (Send occasion) v x) (sym h.after) (grows-sends mtu v occasion h.due s (subst (Sound mtu) h.after t) h.sending h.is_due)
grows-happens mtu (Drop occasion) v w big s h = still v w (ap (λ (x : WireLink). x.greatest) h.after)
grows-happens mtu (Mark tick) v w big s h = still v w (ap (λ (x : WireLink). x.greatest) h.after)
grows-happens mtu PutsOut v w big s h = still v w (ap (λ (x : WireLink). x.greatest) h)
grows-happens mtu (Arrive command most full) v w big s h = still v w (ap (λ (x : WireLink). x.greatest) h.after)
grows-happens mtu (ArriveAnswered command most full) v w big s h = still v w (ap (λ (x : WireLink). x.greatest) h.after)
grows-happens mtu (PutsAnswer number rest) v w big s h = still v w (ap (λ (x : WireLink). x.greatest) h.after)
grows-happens mtu (Acknowledge answer) v w big s h = still v w (ap (λ (x : WireLink). x.greatest) h.after)
grows-happens mtu GivesUp v w big s h = still v w (ap (λ (x : WireLink). x.greatest) h)
grows-happens mtu (StopSending left) v w big s h = still v w (ap (λ (x : WireLink). x.greatest) h.after)
grows-happens mtu (StopReceiving left kept gone) v w big s h = still v w (ap (λ (x : WireLink). x.greatest) h.after)
grows-happens mtu DropAnswers v w big s h = still v w (ap (λ (x : WireLink). x.greatest) h)

-- a run

grows-runs : (mtu : ℕ) (es : List Event) (v w : WireLink) → 28 < mtu → Sound mtu v → (r : Runs mtu es v w) → w.greatest ≡ v.greatest + first_sends_of mtu es v w r
grows-runs mtu [] v w big s r = let e : v.greatest ≡ w.greatest = ap (λ (x : WireLink). x.greatest) r in omega arith
grows-runs mtu (e ∷ es) v w big s r =
    let u : WireLink = r.0 in
    let one = (grows-happens mtu e v u big s r.1).0 in
    let rest = grows-runs mtu es u w big (Sound-happens mtu e v u big s r.1) r.2 in
    omega arith

pub grows : (mtu : ℕ) (es : List Event) (e : Event) (v w : WireLink) → 28 < mtu → Runs mtu es fresh_link v → Happens mtu e v w → Grows e v w
grows mtu es e v w big r h = grows-happens mtu e v w big (Sound-runs mtu es fresh_link v big (Sound-fresh mtu) r) h

pub counts : (mtu : ℕ) (es : List Event) (w : WireLink) → 28 < mtu → (r : Runs mtu es fresh_link w) → w.greatest ≡ first_sends_of mtu es fresh_link w r
counts mtu es w big r = let g = grows-runs mtu es fresh_link w big (Sound-fresh mtu) r in omega arith

-- the log alone tells it

over-append : (greatest : ℕ) (ms ns : List ℕ) → greatest_over greatest (ms ++ ns) ≡ greatest_over (greatest_over greatest ms) ns
unfolding greatest_over
over-append greatest [] ns = refl
over-append greatest (m ∷ ms) ns = over-append (greatest_after greatest m) ms ns

over-one : (greatest n : ℕ) → greatest_over greatest (n ∷ []) ≡ greatest_after greatest n
unfolding greatest_over
over-one greatest n = refl

over-none : (greatest : ℕ) → greatest_over greatest [] ≡ greatest
unfolding greatest_over
over-none greatest = refl

-- the link's greatest number is that of all numbers sent, and is at most as many
record Told (v : WireLink) : Type 0 where
  is : v.greatest ≡ greatest_over 0 (numbers_sent v)
  few : v.greatest ≤ length v.commands + length v.making

same-told : (v w : WireLink) → w.greatest ≡ v.greatest → w.commands ≡ v.commands → w.making ≡ v.making → Told v → Told w
same-told v w g c m t =
    let few = t.few in
    let a : length w.commands ≡ length v.commands = ap length c in
    let b : length w.making ≡ length v.making = ap length m in
    record {
      is = g ∙ t.is ∙ (λ i. greatest_over 0 (map (λ (p : PutOut). p.command.number) (sym c i) ++ map (λ (x : DataCommand). x.number) (sym m i)));
      few = omega arith;
    }

sends-told : (v : WireLink) (n : Next) → (sends v n).greatest ≤ v.greatest + 1 → Told v → Told (sends v n)
sends-told v n up t =
    let x : ℕ = n.command.number in
    let old : List ℕ = map (λ (p : PutOut). p.command.number) v.commands in
    let made : List ℕ = map (λ (c : DataCommand). c.number) v.making in
    let few = t.few in
    let more : length (v.making ++ n.command ∷ []) ≡ length v.making + 1 = length-append v.making (n.command ∷ []) in
    record {
      is = ap (λ g. greatest_after g x) t.is ∙ sym (over-one (greatest_over 0 (old ++ made)) x) ∙ sym (over-append 0 (old ++ made) (x ∷ []))
          ∙ ap (greatest_over 0) (append_assoc old made (x ∷ []) ∙ ap (λ l. old ++ l) (sym (map-append (λ (c : DataCommand). c.number) v.making (n.command ∷ []))));
      few = omega arith;
    }

marked-numbers : (sent_then : ℕ) (cs : List DataCommand) → map (λ (p : PutOut). p.command.number) (map (with_reach sent_then) cs) ≡ map (λ (c : DataCommand). c.number) cs
marked-numbers sent_then [] = refl
marked-numbers sent_then (c ∷ cs) = λ i. c.number ∷ marked-numbers sent_then cs i

puts-told : (v : WireLink) → Told v → Told (puts_out v)
puts-told v t =
    let old : List ℕ = map (λ (p : PutOut). p.command.number) v.commands in
    let new : List PutOut = map (with_reach v.greatest) v.making in
    let few = t.few in
    let size : length (v.commands ++ new) ≡ length v.commands + length new = length-append v.commands new in
    let made : length new ≡ length v.making = length-map v.making (with_reach v.greatest) in
    record {
      is = t.is ∙ ap (greatest_over 0) (ap (λ l. old ++ l) (sym (marked-numbers v.greatest v.making)) ∙ sym (map-append (λ (p : PutOut). p.command.number) v.commands new) ∙ sym (append-nil (map (λ (p : PutOut). p.command.number) (v.commands ++ new))));
      few = omega arith;
    }

told-happens : (mtu : ℕ) (e : Event) (v w : WireLink) → 28 < mtu → Sound mtu v → Happens mtu e v w → Told v → Told w
told-happens mtu (Submit packet) v w big s h t = subst Told (sym h.after) (same-told v (submits mtu v packet) refl refl refl t)
told-happens mtu (Send occasion) v w big s h t =
    let g = grows-happens mtu (Send occasion) v w big s h in
    let g0 = g.0 in let g1 = g.1 in
    let up : w.greatest ≤ v.greatest + 1 = omega arith in
    subst Told (sym h.after) (sends-told v h.due (subst (λ (x : WireLink). x.greatest ≤ v.greatest + 1) h.after up) t)
told-happens mtu (Drop occasion) v w big s h t = subst Told (sym h.after) (same-told v (drops v h.due) refl refl refl t)
told-happens mtu (Mark tick) v w big s h t = subst Told (sym h.after) (same-told v (marks v tick) refl refl refl t)
told-happens mtu PutsOut v w big s h t = subst Told (sym h) (puts-told v t)
told-happens mtu (Arrive command most full) v w big s h t = subst Told (sym h.after) (same-told v (arrives v most command.command full false) refl refl refl t)
told-happens mtu (ArriveAnswered command most full) v w big s h t = subst Told (sym h.after) (same-told v (arrives v most command.command full true) refl refl refl t)
told-happens mtu (PutsAnswer number rest) v w big s h t = subst Told (sym h.after) (same-told v (logs_answer v number rest) refl refl refl t)
told-happens mtu (Acknowledge answer) v w big s h t = subst Told (sym h.after) (same-told v (answered v answer) refl refl refl t)
told-happens mtu GivesUp v w big s h t = subst Told (sym h) (same-told v (gives_up v) refl refl refl t)
told-happens mtu (StopSending left) v w big s h t = subst Told (sym h.after) (same-told v (stops_sending v left) refl refl refl t)
told-happens mtu (StopReceiving left kept gone) v w big s h t = subst Told (sym h.after) (same-told v (stops_receiving v left kept) refl refl refl t)
told-happens mtu DropAnswers v w big s h t = subst Told (sym h) (same-told v (drops_answers v) refl refl refl t)

told-runs : (mtu : ℕ) (es : List Event) (v w : WireLink) → 28 < mtu → Sound mtu v → Runs mtu es v w → Told v → Told w
told-runs mtu [] v w big s r t = subst Told r t
told-runs mtu (e ∷ es) v w big s r t = told-runs mtu es r.0 w big (Sound-happens mtu e v r.0 big s r.1) r.2 (told-happens mtu e v r.0 big s r.1 t)

told : (mtu : ℕ) (es : List Event) (w : WireLink) → 28 < mtu → Runs mtu es fresh_link w → Told w
told mtu es w big r = told-runs mtu es fresh_link w big (Sound-fresh mtu) r (record { is = sym (over-none 0); few = omega arith })

pub reckoned : (mtu : ℕ) (es : List Event) (w : WireLink) → 28 < mtu → Runs mtu es fresh_link w → w.greatest ≡ greatest_over 0 (numbers_sent w)
reckoned mtu es w big r = (told mtu es w big r).is

pub bounded : (mtu : ℕ) (es : List Event) (w : WireLink) → 28 < mtu → Runs mtu es fresh_link w → w.greatest ≤ length w.commands + length w.making
bounded mtu es w big r = (told mtu es w big r).few
