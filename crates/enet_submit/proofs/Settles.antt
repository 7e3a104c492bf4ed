-- What the end of the queue rests on: facts about lists.
use Rattle.std.proofs.Common.{◌≡◌, ◌≢◌, ℕ, suc, ◌+◌, ◌<◌, ◌≤◌, ◌==◌, ◌⊎◌, inl, inr, ⊎_elim, cond, List, [], ◌∷◌, ◌++◌, length, sum, get_or, sym, refl, ap, ◌∙◌, subst, append_assoc, append-nil, lt_of_not-le, length-append, arith, eq-eqb, ne_eqb}
use Rattle.std.specs.List.{All, Contains}
use Rattle.std.proofs.lemmas.List.Elements.{filter-append, All-nil, All-cons, All-contains, Contains-append_cases, Contains-get_or}
use Rattle.std.proofs.lemmas.List.{get_or_append_left, nil_from_length}
use Rattle.std.proofs.lemmas.List.Sums.{sum_by-cons}
use native.Mathlib.Decide.{ℕ_discrete, dec_lt}
use mathlib.Core.Option.{some}
use lib.ListN.{get_elem?}
use Rattle.crossbeam_queue.proofs.Lists.{at_longer, at_last}
use Rattle.enet_submit.specs.declared.order.Submission.{Submission}
use Rattle.enet_submit.specs.declared.rule.SeatLog.{SeatLog}
use Rattle.enet_submit.specs.declared.rule.View.{View}
use Rattle.enet_submit.specs.declared.rule.View.TheVariants.{Draining, Sending}
use Rattle.enet_submit.specs.declared.token.Seat.{Seat}
use Rattle.enet_submit.specs.declared.token.Finished.{Finished}
use Rattle.enet_submit.specs.declared.token.Drain.{Drain}
use Rattle.enet_submit.specs.declared.queue.SubmitQueue.{SubmitQueue}
use Rattle.crossbeam_queue.specs.Passes.{view}
use Rattle.crossbeam_queue.specs.Fifo.{Held}
use Rattle.enet_submit.specs.History.{of, IsHistory}
use Rattle.enet_submit.specs.Parcels.{left_of}
use Rattle.enet_submit.specs.Rule.{log, Among, Shows, seats_in, sent_in, taken_in, informed}
use Rattle.enet_submit.specs.Private.Rule.{finished_in}
use Rattle.enet_submit.specs.Words.{EachFrom, HasSent, AllBack, DrainSees, IsFinishedOf, seats_of, taken, seat_of, all_sent}

-- ---- seats in a row
each_more : (P : ℕ → Seat → Type 0) (k : ℕ) (xs : List Seat) (x : Seat) → EachFrom k P xs → P (k + length xs) x → EachFrom k P (xs ++ x ∷ [])
each_more P k [] x all p = (subst (λ n. P n x) (omega arith) p, tt)
each_more P k (y ∷ ys) x all p = (all.0, each_more P (k + 1) ys x all.1 (subst (λ n. P n x) (omega arith) p))

pub each_next : (P : ℕ → Seat → Type 0) (k : ℕ) (xs ys : List Seat) (x : Seat) → length xs ≡ k → ys ≡ xs ++ x ∷ [] → EachFrom 0 P xs → P k x → EachFrom 0 P ys
each_next P k xs ys x n e all p = subst (EachFrom 0 P) (sym e) (each_more P 0 xs x all (subst (λ m. P m x) (omega arith) p))

pub each_kept : (P Q : ℕ → Seat → Type 0) (k : ℕ) (xs : List Seat) → ((n : ℕ) (s : Seat) → P n s → Q n s) → EachFrom k P xs → EachFrom k Q xs
each_kept P Q k [] f all = tt
each_kept P Q k (x ∷ xs) f all = (f k x all.0, each_kept P Q (k + 1) xs f all.1)

pub all_from_each : (P : Seat → Type 0) (Q : ℕ → Seat → Type 0) (k : ℕ) (xs : List Seat) → ((n : ℕ) (s : Seat) → Q n s → P s) → EachFrom k Q xs → All P xs
all_from_each P Q k [] f all = All-nil P
all_from_each P Q k (x ∷ xs) f all = All-cons P x xs (f k x all.0) (all_from_each P Q (k + 1) xs f all.1)

-- ---- the drain takes in one more
pub joined_view : (v v' w : View) (t m : ℕ) (got : List Submission) (s n : ℕ) → v ≡ Draining t m got (finished_in v) → w ≡ Sending s n (sent_in w) → v' ≡ informed v w
    → (v' ≡ Draining t m got (finished_in v')) × (finished_in v' ≡ finished_in v ++ log s (sent_in w) ∷ [])
joined_view v v' w t m got s n e f r =
    let z : v' ≡ Draining t m got (finished_in v ++ log s (sent_in w) ∷ []) = r ∙ (λ i. informed (e i) (f i)) in
    let k : finished_in v' ≡ finished_in v ++ log s (sent_in w) ∷ [] = ap finished_in z in
    (z ∙ ap (λ (y : List SeatLog). Draining t m got y) (sym k), k)

pub All_front : (P : Finished → Type 0) (xs ys zs : List Finished) → zs ≡ xs ++ ys → All P zs → All P xs
All_front P xs ys zs e all k d lt = let E : get_or zs k d ≡ get_or xs k d = ap (λ l. get_or l k d) e ∙ get_or_append_left xs ys d k lt in
    let n : length zs ≡ length (xs ++ ys) = ap length e in
    subst P E (all k d (omega (arith, length-append xs ys)))

only_one : (x f : Finished) → Contains (x ∷ []) f → f ≡ x
only_one x f c = let z : c.0 ≡ 0 = omega (arith, c.1) in sym (subst (λ k. get_or (x ∷ []) k f ≡ f) z c.2)

-- what was known or is still to be joined is known or still to be joined
pub still : (before after : List Finished) (last : Finished) (known known' : List SeatLog) → before ≡ after ++ last ∷ [] → known' ≡ known ++ log (seat_of last) (all_sent last) ∷ []
    → (f : Finished) → Contains before f ⊎ Among (log (seat_of f) (all_sent f)) known → Contains after f ⊎ Among (log (seat_of f) (all_sent f)) known'
still before after last known known' e k f = ⊎_elim
    (λ (c : Contains before f). ⊎_elim
    (λ (a : Contains after f). inl a)
    (λ (a : Contains (last ∷ []) f).
    let is : last ≡ f = sym (only_one last f a) in
    inr (length known, ap (λ l. get_elem? l (length known)) k ∙ (at_last known (log (seat_of last) (all_sent last)) (length known) refl ∙ ap (λ (y : Finished). some (log (seat_of y) (all_sent y))) is)))
    (Contains-append_cases after (last ∷ []) f (subst (λ l. Contains l f) e c)))
    (λ (a : Among (log (seat_of f) (all_sent f)) known). inr (a.0, ap (λ l. get_elem? l a.0) k ∙ at_longer known (log (seat_of last) (all_sent last) ∷ []) a.0 (log (seat_of f) (all_sent f)) a.1))

pub none_left : {K : Type 0} (xs : List Finished) (f : Finished) (n m : ℕ) → (n ≡ 0) × (m ≡ 0) → n ≡ length xs → Contains xs f ⊎ K → K
none_left xs f n m z e h = ⊎_elim (λ (c : Contains xs f). absurd (omega (arith, c.1, z.0))) (λ k. k) h

-- ---- the account
total_from : ℕ → List ℕ → (ℕ → ℕ) → ℕ
total_from k [] f = 0
total_from k (x ∷ xs) f = f k + total_from (k + 1) xs f

sum_total : (k : ℕ) (xs : List ℕ) (f : ℕ → ℕ) → ((j : ℕ) → j < length xs → get_or xs j 0 ≡ f (k + j)) → sum xs ≡ total_from k xs f
unfolding total_from
sum_total k [] f e = refl
sum_total k (x ∷ xs) f e =
    let first = sum_by-cons (λ (n : ℕ). n) x xs in
    let here : x ≡ f k = e 0 (omega arith) ∙ ap f (omega arith) in
    let rest = sum_total (k + 1) xs f (λ j lt. e (suc j) (omega arith) ∙ ap f (omega arith)) in
    omega arith

total_zero : (k : ℕ) (xs : List ℕ) (f : ℕ → ℕ) → ((j : ℕ) → f j ≡ 0) → total_from k xs f ≡ 0
unfolding total_from
total_zero k [] f z = refl
total_zero k (x ∷ xs) f z = let a = total_zero (k + 1) xs f z in let b = z k in omega arith

total_same : (k : ℕ) (xs : List ℕ) (s : ℕ) (f g : ℕ → ℕ) → ((j : ℕ) → j ≢ s → g j ≡ f j) → s < k → total_from k xs g ≡ total_from k xs f
unfolding total_from
total_same k [] s f g e lt = refl
total_same k (x ∷ xs) s f g e lt = let a = total_same (k + 1) xs s f g e (omega arith) in let b = e k (λ z. absurd (omega arith)) in omega arith

total_step : (k : ℕ) (xs : List ℕ) (s : ℕ) (f g : ℕ → ℕ) → ((j : ℕ) → j ≢ s → g j ≡ f j) → g s ≡ f s + 1 → k ≤ s → s < k + length xs → total_from k xs g ≡ total_from k xs f + 1
unfolding total_from
total_step k [] s f g e one le lt = absurd (omega arith)
total_step k (x ∷ xs) s f g e one le lt =
    elim (ℕ_discrete k s) [
      | yes q ↦
          let a = total_same (k + 1) xs s f g e (omega arith) in
          let b : g k ≡ g s = ap g q in
          let c : f k ≡ f s = ap f q in
          omega arith
      | no d ↦ let a = total_step (k + 1) xs s f g e one (let d' : k ≢ s = d in omega arith) (omega arith) in let b = e k d in omega arith
    ]

-- how many items there are, by seats
of_other : (s : ℕ) (x : Submission) (h : List Submission) → s ≢ x.seat → of s (x ∷ h) ≡ of s h
of_other s x h n = ap (λ b. cond b (x ∷ of s h) (of s h)) (ne_eqb x.seat s (λ z. n (sym z)))

of_here : (x : Submission) (h : List Submission) → of x.seat (x ∷ h) ≡ x ∷ of x.seat h
of_here x h = ap (λ b. cond b (x ∷ of x.seat h) (of x.seat h)) (eq-eqb x.seat x.seat refl)

by_seats : (h : List Submission) (t : ℕ) (xs : List ℕ) → ((s : ℕ) → t ≤ s → of s h ≡ []) → t ≤ length xs → total_from 0 xs (λ s. length (of s h)) ≡ length h
by_seats [] t xs none le = total_zero 0 xs (λ s. 0) (λ j. refl)
by_seats (x ∷ h) t xs none le =
    let lt : x.seat < t = lt_of_not-le (λ q. let z : length (of x.seat (x ∷ h)) ≡ 0 = ap length (none x.seat q) in let y : length (of x.seat (x ∷ h)) ≡ length (x ∷ of x.seat h) = ap length (of_here x h) in absurd (omega arith)) in
    let rest = by_seats h t xs (λ s q. sym (of_other s x h (λ z. absurd (omega arith))) ∙ none s q) le in
    let step = total_step 0 xs x.seat (λ s. length (of s h)) (λ s. length (of s (x ∷ h))) (λ j n. ap length (of_other j x h n)) (ap length (of_here x h) ∙ omega arith) (omega arith) (omega arith) in
    omega arith

pub sum_of_counts : (h : List Submission) (t : ℕ) (xs : List ℕ) → ((s : ℕ) → t ≤ s → of s h ≡ []) → t ≤ length xs → ((s : ℕ) → s < length xs → get_or xs s 0 ≡ length (of s h)) → sum xs ≡ length h
sum_of_counts h t xs none le each = sum_total 0 xs (λ s. length (of s h)) (λ j lt. each j lt ∙ ap (λ s. length (of s h)) (omega arith)) ∙ by_seats h t xs none le

-- ---- the end
back_empty : (a b l : List Submission) → a ++ b ≡ l → length l ≡ length a → b ≡ []
back_empty a b l e n = let m : length (a ++ b) ≡ length l = ap length e in nil_from_length b (omega (arith, length-append a b))

front_whole : (a b l : List Submission) → a ++ b ≡ l → length l ≡ length a → a ≡ l
front_whole a b l e n = sym (append-nil a) ∙ (ap (λ y. a ++ y) (sym (back_empty a b l e n)) ∙ e)

front_empty : (a b : List Submission) → a ++ b ≡ [] → a ≡ []
front_empty a b e = let m : length (a ++ b) ≡ 0 = ap length e in nil_from_length a (omega (arith, length-append a b))

rest_empty : (a b : List Submission) → a ++ b ≡ [] → b ≡ []
rest_empty a b e = let m : length (a ++ b) ≡ 0 = ap length e in nil_from_length b (omega (arith, length-append a b))

-- a list in which no seat has an item is empty
no_item : (items : List Submission) → ((s : ℕ) → of s items ≡ []) → items ≡ []
no_item [] none = refl
no_item (x ∷ xs) none =
    let z : length (of x.seat (x ∷ xs)) ≡ 0 = ap length (none x.seat) in
    let y : length (of x.seat (x ∷ xs)) ≡ length (x ∷ of x.seat xs) = ap length (of_here x xs) in
    absurd (omega arith)

module _ (n : ℕ) (got : List Submission) (known : List SeatLog) (items : List Submission) (sh : Shows (Draining n n got known) items) where
  goes_on : (s : ℕ) → of s (sh.0 ++ items) ≡ of s got ++ of s items
  goes_on s = ap (λ y. of s (y ++ items)) (sym sh.3) ∙ filter-append (λ (x : Submission). x.seat == s) got items

  pub seen : IsHistory n (got ++ items)
  seen = subst (λ y. IsHistory n (y ++ items)) (sym sh.3) sh.1

  pub got_within : (s : ℕ) → n ≤ s → of s got ≡ []
  got_within s le = front_empty (of s got) (of s items) (sym (goes_on s) ∙ sh.1.of_these_seats s le)

  one_list : (s : ℕ) (l m : List Submission) → Among (log s l) known → Among (log s m) known → l ≡ m
  one_list s l m a b = sym (sh.2 s l (inr a)) ∙ sh.2 s m (inr b)

  module _ (fs : List Finished) (back : (s : ℕ) → s < n → HasSent s (length (of s got)) fs) (among : (f : Finished) → Contains fs f → Among (log (seat_of f) (all_sent f)) known) where
    theirs : (s : ℕ) → (lt : s < n) → Among (log s (all_sent (back s lt).0)) known
    theirs s lt = let b = back s lt in subst (λ k. Among (log k (all_sent b.0)) known) b.2 (among b.0 b.1)

    pub all_taken : (f : Finished) → Contains fs f → seat_of f < n → of (seat_of f) got ≡ all_sent f
    all_taken f c lt =
        let s : ℕ = seat_of f in
        let b = back s lt in
        let same = one_list s (all_sent f) (all_sent b.0) (among f c) (theirs s lt) in
        front_whole (of s got) (of s items) (all_sent f) (sym (goes_on s) ∙ sh.2 s (all_sent f) (inr (among f c))) (ap length same ∙ b.3)

    none_of : (s : ℕ) → Dec (s < n) → of s items ≡ []
    none_of s (yes lt) = let b = back s lt in back_empty (of s got) (of s items) (all_sent b.0) (sym (goes_on s) ∙ sh.2 s (all_sent b.0) (inr (theirs s lt))) b.3
    none_of s (no ge) = rest_empty (of s got) (of s items) (sym (goes_on s) ∙ sh.1.of_these_seats s (omega arith))

    pub none_held : length items ≡ 0
    none_held = ap length (no_item items (λ s. none_of s (dec_lt s n)))

pub to_all : (P : Finished → Type 0) (fs : List Finished) → ((f : Finished) → Contains fs f → P f) → All P fs
to_all P fs h = λ k d lt. h (get_or fs k d) (Contains-get_or fs k d lt)

-- what is left of packets for several peers was not taken yet
shows_left : (n : ℕ) (all got left : List Submission) (known : List SeatLog) (items : List Submission) → got ++ left ≡ all → Shows (Draining n n all known) items → Shows (Draining n n got known) (left ++ items)
shows_left n all got left known items e sh =
    let same : sh.0 ++ items ≡ got ++ (left ++ items) = ap (λ (zs : List Submission). zs ++ items) (sym sh.3 ∙ sym e) ∙ append_assoc got left items in
    (got, subst (IsHistory n) same sh.1, λ s l k. ap (of s) (sym same) ∙ sh.2 s l k, refl)

-- what is known once each seat is back
pub record Ended (q : SubmitQueue) (d : Drain) (fs : List Finished) : Type 0 where
  pub total : sum d.counts ≡ length (taken d)
  pub each : All (λ f. of (seat_of f) (taken d) ≡ all_sent f) fs
  pub empty : Held 0 (DrainSees q d)

pub ended : (q : SubmitQueue) (d : Drain) (fs : List Finished) (w : View) (held : List Submission) → length d.counts ≡ 16 → seats_in (view d.pass) ≡ seats_of q → All (IsFinishedOf q) fs → AllBack q d fs
    → w ≡ Draining (seats_in (view d.pass)) (seats_in (view d.pass)) (taken_in (view d.pass)) (finished_in w) → Shows w held → ((f : Finished) → Contains fs f → Among (log (seat_of f) (all_sent f)) (finished_in w))
    → Ended q d fs
ended q d fs w held len own theirs back is shows among =
    let n : ℕ = seats_in (view d.pass) in
    let got : List Submission = taken d in
    let known : List SeatLog = finished_in w in
    let left : List Submission = left_of d.seat d.number d.rest in
    let sh : Shows (Draining n n got known) (left ++ held) = shows_left n (taken_in (view d.pass)) got left known held d.ends (subst (λ (v : View). Shows v held) is shows) in
    let all : (s : ℕ) → s < n → HasSent s (length (of s got)) fs = λ s lt. back s (omega (arith, own)) in
    record {
      total = sum_of_counts got n d.counts (got_within n got known (left ++ held) sh) (omega (arith, d.few, len)) (λ s lt. d.counted s (omega (arith, len)));
      each = to_all (λ f. of (seat_of f) got ≡ all_sent f) fs (λ f is.
          let its : IsFinishedOf q f = All-contains (IsFinishedOf q) fs f theirs is in
          all_taken n got known (left ++ held) sh fs all among f is (omega (arith, f.within, its.1, own)));
      empty = (left ++ held, none_held n got known (left ++ held) sh fs all among, subst (λ m. IsHistory m (got ++ (left ++ held))) own (seen n got known (left ++ held) sh));
    }
