-- Each step keeps the rule.
use Rattle.std.proofs.Common.{◌≡◌, ◌≢◌, ℕ, zero, suc, ◌+◌, ◌<◌, ◌≤◌, ◌==◌, ◌⊎◌, inl, inr, ⊎_elim, cond, List, [], ◌∷◌, ◌++◌, length, set, sym, refl, ap, ◌∙◌, subst, append_assoc, append-nil, lt_of_not-le, length-append, arith, eq-eqb, ne_eqb}
use Rattle.std.proofs.lemmas.List.Elements.{filter-append}
use Rattle.std.proofs.lemmas.List.Concat.{flat_map-append}
use native.Mathlib.Decide.{ℕ_discrete}
use mathlib.Core.Option.{some, some-injective, some-ne-none}
use lib.ListN.{get_elem?}
use Rattle.crossbeam_queue.specs.Fifo.{Pushes, Pops, Forks, Merges, Learns, Held}
use Rattle.crossbeam_queue.proofs.Lists.{at_set}
use Rattle.enet_submit.specs.declared.order.Submission.{Submission}
use Rattle.enet_submit.specs.declared.order.Order.{Order}
use Rattle.enet_submit.specs.declared.order.Parcel.{Parcel}
use Rattle.enet_submit.specs.declared.rule.SeatLog.{SeatLog}
use Rattle.enet_submit.specs.declared.rule.View.{View}
use Rattle.enet_submit.specs.declared.rule.View.TheVariants.{Draining, Sending, Spent}
use Rattle.enet_submit.specs.History.{of, CountsFrom, IsHistory}
use Rattle.enet_submit.specs.Parcels.{numbered, spelled, contents}
use Rattle.enet_submit.specs.Requests.{orders_of}
use Rattle.enet_submit.specs.Words.{submission}
use Rattle.enet_submit.specs.Rule.{with_sent, with_taken, log, Among, Knows, Agrees, Invariant, Holds, ShowsIn, Submitted, Took, Shows, TakenIs, TakenComesFirst, seats_in, sent_in, taken_in, widened, made_one, new_seat, informed}

-- ---- lists
pub of_append : (s : ℕ) (a b : List Submission) → of s (a ++ b) ≡ of s a ++ of s b
of_append s a b = filter-append (λ x. x.seat == s) a b

of_one_same : (s : ℕ) (x : Submission) → x.seat ≡ s → of s (x ∷ []) ≡ x ∷ []
of_one_same s x e = ap (λ b. cond b (x ∷ []) []) (eq-eqb x.seat s e)

of_one_other : (s : ℕ) (x : Submission) → x.seat ≢ s → of s (x ∷ []) ≡ []
of_one_other s x n = ap (λ b. cond b (x ∷ []) []) (ne_eqb x.seat s n)

pub of_more_same : (s : ℕ) (h : List Submission) (x : Submission) → x.seat ≡ s → of s (h ++ x ∷ []) ≡ of s h ++ x ∷ []
of_more_same s h x e = of_append s h (x ∷ []) ∙ ap (λ l. of s h ++ l) (of_one_same s x e)

pub of_more_other : (s : ℕ) (h : List Submission) (x : Submission) → x.seat ≢ s → of s (h ++ x ∷ []) ≡ of s h
of_more_other s h x n = of_append s h (x ∷ []) ∙ (ap (λ l. of s h ++ l) (of_one_other s x n) ∙ append-nil (of s h))

Counts_more : (k : ℕ) (xs : List Submission) (x : Submission) → CountsFrom k xs → x.number ≡ k + length xs → CountsFrom k (xs ++ x ∷ [])
Counts_more k [] x c e = (omega arith, tt)
Counts_more k (y ∷ ys) x c e = (c.0, Counts_more (k + 1) ys x c.1 (omega arith))

Counts_at : (k : ℕ) (xs : List Submission) (x : Submission) (ys : List Submission) → CountsFrom k (xs ++ x ∷ ys) → x.number ≡ k + length xs
Counts_at k [] x ys c = omega arith
Counts_at k (y ∷ xs) x ys c = let r = Counts_at (k + 1) xs x ys c.1 in omega arith

at_push : {A : Type 0} (l : List A) (a b : A) (j : ℕ) → get_elem? (l ++ a ∷ []) j ≡ some b → ((j < length l) × (get_elem? l j ≡ some b)) ⊎ ((j ≡ length l) × (a ≡ b))
at_push [] a b zero e = inr (refl, some-injective a b e)
at_push [] a b (suc j) e = absurd (some-ne-none b (sym e))
at_push (x ∷ xs) a b zero e = inl (omega arith, e)
at_push (x ∷ xs) a b (suc j) e = ⊎_elim (λ (t : (j < length xs) × (get_elem? xs j ≡ some b)). inl (omega arith, t.1)) (λ (t : (j ≡ length xs) × (a ≡ b)). inr (ap suc t.0, t.1)) (at_push xs a b j e)

-- ---- a history that goes on
numbered_more : (s : ℕ) (h : List Submission) (x : Submission) → Dec (x.seat ≡ s) → CountsFrom 0 (of s h) → x.number ≡ length (of x.seat h) → CountsFrom 0 (of s (h ++ x ∷ []))
numbered_more s h x (yes e) c n =
    let q : length (of x.seat h) ≡ length (of s h) = ap (λ k. length (of k h)) e in
    subst (CountsFrom 0) (sym (of_more_same s h x e)) (Counts_more 0 (of s h) x c (omega arith))
numbered_more s h x (no d) c n = subst (CountsFrom 0) (sym (of_more_other s h x d)) c

short_more : (s : ℕ) (h : List Submission) (x : Submission) → Dec (x.seat ≡ s) → length (of s h) ≤ 4294967295 → length (of x.seat h) < 4294967295 → length (of s (h ++ x ∷ [])) ≤ 4294967295
short_more s h x (yes e) c n =
    let q : length (of x.seat h) ≡ length (of s h) = ap (λ k. length (of k h)) e in
    let r : length (of s (h ++ x ∷ [])) ≡ length (of s h ++ x ∷ []) = ap length (of_more_same s h x e) in
    omega (arith, length-append (of s h) (x ∷ []))
short_more s h x (no d) c n = let r : length (of s (h ++ x ∷ [])) ≡ length (of s h) = ap length (of_more_other s h x d) in omega arith

sound_more : (t : ℕ) (h : List Submission) (x : Submission) → IsHistory t h → x.seat < t → x.number ≡ length (of x.seat h) → length (of x.seat h) < 4294967295 → IsHistory t (h ++ x ∷ [])
sound_more t h x old lt num room = record {
  of_these_seats = λ s le. of_more_other s h x (λ e. absurd (omega arith)) ∙ old.of_these_seats s le;
  numbered = λ s. numbered_more s h x (ℕ_discrete x.seat s) (old.numbered s) num;
  countable = λ s. short_more s h x (ℕ_discrete x.seat s) (old.countable s) room;
}

-- ---- what a look shows
total_is : (drain total : ℕ) (taken : List Submission) (pass : ℕ) (v : View) → v ≢ Spent → Agrees drain total taken pass v → total ≡ seats_in v
total_is d t a p (Draining n m got known) ne h = sym h.1
total_is d t a p (Sending s n l) ne h = sym h
total_is d t a p Spent ne h = absurd (ne refl)

taken_is : (drain total : ℕ) (taken : List Submission) (pass : ℕ) (v : View) → Agrees drain total taken pass v → TakenIs v taken
taken_is d t a p (Draining n m got known) h = h.2
taken_is d t a p (Sending s n l) h = tt
taken_is d t a p Spent h = tt

pub learns : (port : ℕ) (v : View) → v ≢ Spent → Learns Invariant port v (Shows v)
learns port v ne items views b at = let a = b.agrees port v at in (
  b.taken,
  subst (λ t. IsHistory t (b.taken ++ items)) (total_is b.drain b.seats b.taken port v ne a) b.history,
  (λ s l c. (b.known port v at s l c).1),
  taken_is b.drain b.seats b.taken port v a,
)

-- after the step the pass has the new view
set_there : (l : List View) (i : ℕ) (a b : View) → get_elem? l i ≡ some a → get_elem? (set l i b) i ≡ some b
set_there [] i a b e = absurd (some-ne-none a (sym e))
set_there (x ∷ xs) zero a b e = refl
set_there (x ∷ xs) (suc i) a b e = set_there xs i a b e

-- ---- a push
push_one : (port s t : ℕ) (l : List Submission) (x : Submission) → s < t → x.seat ≡ s → x.number ≡ length l → length l < 4294967295
    → (items : List Submission) (views : List View) → Invariant items views → get_elem? views port ≡ some (Sending s t l) → Invariant (items ++ x ∷ []) (set views port (Sending s t (l ++ x ∷ [])))
push_one port s t l x lt is num room items views b at =
    let mine = b.known port (Sending s t l) at s l (refl, refl) in
    let total : t ≡ b.seats = b.agrees port (Sending s t l) at in
    let h : List Submission = b.taken ++ items in
    let here : of x.seat h ≡ l = ap (λ k. of k h) is ∙ mine.1 in
    let size : length (of x.seat h) ≡ length l = ap length here in
    let more : (b.taken ++ items) ++ x ∷ [] ≡ b.taken ++ (items ++ x ∷ []) = append_assoc b.taken items (x ∷ []) in
    let w : View = Sending s t (l ++ x ∷ []) in
    record {
      drain = b.drain;
      seats = b.seats;
      taken = b.taken;
      owner = b.owner;
      history = subst (IsHistory b.seats) more (sound_more b.seats h x b.history (omega arith) (num ∙ sym size) (omega arith));
      agrees = λ j u e. ⊎_elim (λ (q : (j ≡ port) × (w ≡ u)). subst (Agrees b.drain b.seats b.taken j) q.1 total) (λ (q : (j ≢ port) × (get_elem? views j ≡ some u)). b.agrees j u q.1) (at_set views port j w u e);
      known = λ j u e k m c. ⊎_elim
          (λ (q : (j ≡ port) × (w ≡ u)).
          let c' : Knows w k m = subst (λ (y : View). Knows y k m) (sym q.1) c in (
            (ap b.owner c'.0 ∙ mine.0) ∙ sym q.0,
            subst (λ (y : List Submission). of k y ≡ m) more (of_more_same k h x (is ∙ sym c'.0) ∙ (ap (λ (y : List Submission). y ++ x ∷ []) (ap (λ y. of y h) c'.0 ∙ mine.1) ∙ sym c'.1)),
          ))
          (λ (q : (j ≢ port) × (get_elem? views j ≡ some u)).
          let old = b.known j u q.1 k m c in (
            old.0,
            subst (λ (y : List Submission). of k y ≡ m) more (of_more_other k h x (λ same. q.0 (sym old.0 ∙ (ap b.owner (sym same ∙ is) ∙ mine.0))) ∙ old.1),
          ))
          (at_set views port j w u e);
    }

set_set : (l : List View) (i : ℕ) (a b : View) → set (set l i a) i b ≡ set l i b
set_set [] i a b = refl
set_set (x ∷ xs) zero a b = refl
set_set (x ∷ xs) (suc i) a b = ap (λ l. x ∷ l) (set_set xs i a b)

set_same : (l : List View) (i : ℕ) (a : View) → get_elem? l i ≡ some a → set l i a ≡ l
set_same [] i a e = refl
set_same (x ∷ xs) zero a e = ap (λ y. y ∷ xs) (sym (some-injective x a e))
set_same (x ∷ xs) (suc i) a e = ap (λ l. x ∷ l) (set_same xs i a e)

-- several orders, one after another
push_all : (port s t : ℕ) (os : List Order) (l items : List Submission) (views : List View) → s < t → length l + length os ≤ 4294967295
    → Invariant items views → get_elem? views port ≡ some (Sending s t l) → Invariant (items ++ numbered s (length l) os) (set views port (Sending s t (l ++ numbered s (length l) os)))
push_all port s t [] l items views lt room b at =
    subst (λ (zs : List Submission). Invariant zs (set views port (Sending s t (l ++ [])))) (sym (append-nil items))
    (subst (λ (zs : List Submission). Invariant items (set views port (Sending s t zs))) (sym (append-nil l))
    (subst (λ (vs : List View). Invariant items vs) (sym (set_same views port (Sending s t l) at)) b))
push_all port s t (o ∷ os) l items views lt room b at =
    let x : Submission = submission s (length l) o in
    let w : View = Sending s t (l ++ x ∷ []) in
    let ys : List Submission = numbered s (length l + 1) os in
    let one : Invariant (items ++ x ∷ []) (set views port w) = push_one port s t l x lt refl refl (omega arith) items views b at in
    let long : length (l ++ x ∷ []) ≡ length l + 1 = length-append l (x ∷ []) in
    let rest : Invariant ((items ++ x ∷ []) ++ numbered s (length (l ++ x ∷ [])) os) (set (set views port w) port (Sending s t ((l ++ x ∷ []) ++ numbered s (length (l ++ x ∷ [])) os))) =
    push_all port s t os (l ++ x ∷ []) (items ++ x ∷ []) (set views port w) lt (omega (arith, long)) one (set_there views port (Sending s t l) w at) in
    let named : Invariant ((items ++ x ∷ []) ++ ys) (set (set views port w) port (Sending s t ((l ++ x ∷ []) ++ ys))) =
    subst (λ (n : ℕ). Invariant ((items ++ x ∷ []) ++ numbered s n os) (set (set views port w) port (Sending s t ((l ++ x ∷ []) ++ numbered s n os)))) long rest in
    subst (λ (vs : List View). Invariant (items ++ x ∷ ys) vs) (set_set views port w (Sending s t (l ++ x ∷ ys)))
    (subst (λ (zs : List Submission). Invariant (items ++ x ∷ ys) (set (set views port w) port (Sending s t zs))) (append_assoc l (x ∷ []) ys)
    (subst (λ (zs : List Submission). Invariant zs (set (set views port w) port (Sending s t ((l ++ x ∷ []) ++ ys)))) (append_assoc items (x ∷ []) ys) named))

contents-more : (items : List Parcel) (x : Parcel) → contents (items ++ x ∷ []) ≡ contents items ++ spelled x
contents-more items x = flat_map-append spelled items (x ∷ []) ∙ ap (λ (zs : List Submission). contents items ++ zs) (append-nil (spelled x))

pub pushes : (n port s t : ℕ) (l : List Submission) (x : Parcel) → s < t → x.seat ≡ s → x.number ≡ length l → length l + length (orders_of x.request) ≤ 4294967295
    → Pushes Holds n port (Sending s t l) x (Submitted (Sending s t l) x)
pushes n port s t l x lt is num room items views free b at =
    let os : List Order = orders_of x.request in
    let e : numbered s (length l) os ≡ spelled x = sym (ap (λ (k : ℕ). numbered k x.number os) is ∙ ap (λ (k : ℕ). numbered s k os) num) in
    let w : View = Sending s t (l ++ spelled x) in
    let all : Invariant (contents items ++ spelled x) (set views port w) =
    subst (λ (zs : List Submission). Invariant (contents items ++ zs) (set views port (Sending s t (l ++ zs)))) e (push_all port s t os l (contents items) views lt room b at) in
    let after : Holds (items ++ x ∷ []) (set views port w) = subst (λ (zs : List Submission). Invariant zs (set views port w)) (sym (contents-more items x)) all in
    (w, after, (refl, (contents items, learns port w (λ z. cc) (contents items ++ spelled x) (set views port w) all (set_there views port (Sending s t l) w at))))

-- ---- a pop
agrees_other : (drain total : ℕ) (a b : List Submission) (j : ℕ) (u : View) → j ≢ drain → Agrees drain total a j u → Agrees drain total b j u
agrees_other d t a b j (Draining n m got known) ne h = absurd (ne h.0)
agrees_other d t a b j (Sending s n l) ne h = h
agrees_other d t a b j Spent ne h = tt

of_head : (x : Submission) (xs : List Submission) → of x.seat (x ∷ xs) ≡ x ∷ of x.seat xs
of_head x xs = ap (λ b. cond b (x ∷ of x.seat xs) (of x.seat xs)) (eq-eqb x.seat x.seat refl)

of_seam : (a : List Submission) (x : Submission) (xs : List Submission) → of x.seat (a ++ x ∷ xs) ≡ of x.seat a ++ x ∷ of x.seat xs
of_seam a x xs = of_append x.seat a (x ∷ xs) ∙ ap (λ l. of x.seat a ++ l) (of_head x xs)

pub seam_within : (t : ℕ) (a : List Submission) (x : Submission) (xs : List Submission) → IsHistory t (a ++ x ∷ xs) → x.seat < t
seam_within t a x xs s = lt_of_not-le (λ le.
    let e : length (of x.seat a ++ x ∷ of x.seat xs) ≡ length (of x.seat (a ++ x ∷ xs)) = ap length (sym (of_seam a x xs)) in
    let z : length (of x.seat (a ++ x ∷ xs)) ≡ 0 = ap length (s.of_these_seats x.seat le) in
    absurd (omega (arith, length-append (of x.seat a) (x ∷ of x.seat xs))))

pub seam_number : (t : ℕ) (a : List Submission) (x : Submission) (xs : List Submission) → IsHistory t (a ++ x ∷ xs) → (x.number ≡ length (of x.seat a)) × (x.number < 4294967295)
seam_number t a x xs s =
    let n = Counts_at 0 (of x.seat a) x (of x.seat xs) (subst (CountsFrom 0) (of_seam a x xs) (s.numbered x.seat)) in
    let e : length (of x.seat a ++ x ∷ of x.seat xs) ≡ length (of x.seat (a ++ x ∷ xs)) = ap length (sym (of_seam a x xs)) in
    let z : length (of x.seat (a ++ x ∷ xs)) ≤ 4294967295 = s.countable x.seat in
    (omega arith, omega (arith, length-append (of x.seat a) (x ∷ of x.seat xs)))

pop_one : (port t m : ℕ) (got : List Submission) (known : List SeatLog) (x : Submission) (items : List Submission) (views : List View) → Invariant (x ∷ items) views → get_elem? views port ≡ some (Draining t m got known)
    → Invariant items (set views port (Draining t m (got ++ x ∷ []) known))
pop_one port t m got known x items views b at =
    let mine = b.agrees port (Draining t m got known) at in
    let w : View = Draining t m (got ++ x ∷ []) known in
    let again : b.taken ++ x ∷ items ≡ (b.taken ++ x ∷ []) ++ items = sym (append_assoc b.taken (x ∷ []) items) in
    let total : t ≡ b.seats = mine.1 in
    record {
      drain = b.drain;
      seats = b.seats;
      taken = b.taken ++ x ∷ [];
      owner = b.owner;
      history = subst (IsHistory b.seats) again b.history;
      agrees = λ j u e. ⊎_elim (λ (q : (j ≡ port) × (w ≡ u)). subst (Agrees b.drain b.seats (b.taken ++ x ∷ []) j) q.1 (q.0 ∙ mine.0, total, ap (λ l. l ++ x ∷ []) mine.2))
          (λ (q : (j ≢ port) × (get_elem? views j ≡ some u)). agrees_other b.drain b.seats b.taken (b.taken ++ x ∷ []) j u (λ d. q.0 (d ∙ sym mine.0)) (b.agrees j u q.1)) (at_set views port j w u e);
      known = λ j u e k l c. ⊎_elim
          (λ (q : (j ≡ port) × (w ≡ u)).
          let old = b.known port (Draining t m got known) at k l (subst (λ (y : View). Knows y k l) (sym q.1) c) in
          (old.0 ∙ sym q.0, subst (λ (y : List Submission). of k y ≡ l) again old.1))
          (λ (q : (j ≢ port) × (get_elem? views j ≡ some u)).
          let old = b.known j u q.1 k l c in
          (old.0, subst (λ (y : List Submission). of k y ≡ l) again old.1))
          (at_set views port j w u e);
    }

pop_all : (port t m : ℕ) (known : List SeatLog) (xs got items : List Submission) (views : List View) → Invariant (xs ++ items) views → get_elem? views port ≡ some (Draining t m got known)
    → Invariant items (set views port (Draining t m (got ++ xs) known))
pop_all port t m known [] got items views b at =
    subst (λ (zs : List Submission). Invariant items (set views port (Draining t m zs known))) (sym (append-nil got))
    (subst (λ (vs : List View). Invariant items vs) (sym (set_same views port (Draining t m got known) at)) b)
pop_all port t m known (x ∷ xs) got items views b at =
    let w : View = Draining t m (got ++ x ∷ []) known in
    let one : Invariant (xs ++ items) (set views port w) = pop_one port t m got known x (xs ++ items) views b at in
    let rest : Invariant items (set (set views port w) port (Draining t m ((got ++ x ∷ []) ++ xs) known)) =
    pop_all port t m known xs (got ++ x ∷ []) items (set views port w) one (set_there views port (Draining t m got known) w at) in
    subst (λ (vs : List View). Invariant items vs) (set_set views port w (Draining t m (got ++ x ∷ xs) known))
    (subst (λ (zs : List Submission). Invariant items (set (set views port w) port (Draining t m zs known))) (append_assoc got (x ∷ []) xs) rest)

pub pops : (port t m : ℕ) (got : List Submission) (known : List SeatLog) → Pops Holds port (Draining t m got known) (Took (Draining t m got known))
pops port t m got known x items views b at =
    let w : View = Draining t m (got ++ spelled x) known in
    let after : Invariant (contents items) (set views port w) = pop_all port t m known (spelled x) got (contents items) views b at in
    (w, after, (refl, (contents items, learns port w (λ z. cc) (contents items) (set views port w) after (set_there views port (Draining t m got known) w at))))

-- ---- a pass is split
-- before the first seat is made, only the drain knows how many there are to be
agrees_wider : (drain total : ℕ) (taken : List Submission) (j port : ℕ) (u : View) → j ≢ drain → Agrees drain total taken j u
    → {owner : ℕ → ℕ} → ((s : ℕ) (l : List Submission) → Knows u s l → owner s ≡ j) → ((s : ℕ) → owner s ≡ port) → j ≢ port → Agrees drain (total + 1) taken j u
agrees_wider d t a j p (Draining n m got known) ne h mine all other = absurd (ne h.0)
agrees_wider d t a j p (Sending s n l) ne h mine all other = absurd (other (sym (mine s l (refl, refl)) ∙ all s))
agrees_wider d t a j p Spent ne h mine all other = tt

-- one more seat is to come
pub widens : (port t : ℕ) → Forks Invariant port (Draining t 0 [] []) (Draining (t + 1) 0 [] []) Spent
widens port t items views b at =
    let v : View = Draining t 0 [] [] in
    let w : View = Draining (t + 1) 0 [] [] in
    let mine = b.agrees port v at in
    let total : t ≡ b.seats = mine.1 in
    let Old : ℕ → View → Type 0 = λ j u. Agrees b.drain (b.seats + 1) b.taken j u × ((s : ℕ) (l : List Submission) → Knows u s l → (b.owner s ≡ j) × (of s (b.taken ++ items) ≡ l)) in
    let all : (j : ℕ) (u : View) → get_elem? (set views port w ++ Spent ∷ []) j ≡ some u → Old j u = λ j u e.
    ⊎_elim
    (λ (p : (j < length (set views port w)) × (get_elem? (set views port w) j ≡ some u)).
    ⊎_elim (λ (q : (j ≡ port) × (w ≡ u)). subst (Old j) q.1 ((q.0 ∙ mine.0, omega arith, mine.2), λ s l c. let o = b.known port v at s l c in (o.0 ∙ sym q.0, o.1)))
    (λ (q : (j ≢ port) × (get_elem? views j ≡ some u)). (agrees_wider b.drain b.seats b.taken j port u (λ d. q.0 (d ∙ sym mine.0)) (b.agrees j u q.1) (λ s l c. (b.known j u q.1 s l c).0) (λ s. (b.known port v at s [] (inl (omega arith, refl))).0) q.0, b.known j u q.1))
    (at_set views port j w u p.1))
    (λ (p : (j ≡ length (set views port w)) × (Spent ≡ u)). subst (Old j) p.1 (tt, λ s l c. absurd c))
    (at_push (set views port w) Spent u j e) in
    record {
      drain = b.drain;
      seats = b.seats + 1;
      taken = b.taken;
      owner = b.owner;
      history = record { of_these_seats = λ s le. b.history.of_these_seats s (omega arith); numbered = b.history.numbered; countable = b.history.countable };
      agrees = λ j u e. (all j u e).0;
      known = λ j u e. (all j u e).1;
    }

-- a seat is handed from one pass to another
abbrev moved : (ℕ → ℕ) → ℕ → ℕ → ℕ → ℕ
moved owner m to k = cond (k == m) to (owner k)

moved_here : (owner : ℕ → ℕ) (m to k : ℕ) → k ≡ m → moved owner m to k ≡ to
moved_here owner m to k e = ap (λ b. cond b to (owner k)) (eq-eqb k m e)

moved_else : (owner : ℕ → ℕ) (m to k : ℕ) → k ≢ m → moved owner m to k ≡ owner k
moved_else owner m to k e = ap (λ b. cond b to (owner k)) (ne_eqb k m e)

-- a seat is made
pub makes : (port t m : ℕ) → Forks Invariant port (Draining t m [] []) (Draining t (m + 1) [] []) (Sending m t [])
makes port t m items views b at =
    let v : View = Draining t m [] [] in
    let w : View = Draining t (m + 1) [] [] in
    let new : View = Sending m t [] in
    let vs : List View = set views port w in
    let h : List Submission = b.taken ++ items in
    let owner : ℕ → ℕ = moved b.owner m (length vs) in
    let mine = b.agrees port v at in
    let total : t ≡ b.seats = mine.1 in
    let free = b.known port v at m [] (inl (omega arith, refl)) in
    let Fits : ℕ → View → Type 0 = λ j u. Agrees b.drain b.seats b.taken j u × ((s : ℕ) (l : List Submission) → Knows u s l → (owner s ≡ j) × (of s h ≡ l)) in
    let all : (j : ℕ) (u : View) → get_elem? (vs ++ new ∷ []) j ≡ some u → Fits j u = λ j u e.
    ⊎_elim
    (λ (p : (j < length vs) × (get_elem? vs j ≡ some u)).
    ⊎_elim
    (λ (q : (j ≡ port) × (w ≡ u)). subst (Fits j) q.1 (
      (q.0 ∙ mine.0, total, mine.2),
      λ s l c. ⊎_elim
          (λ (o : (m + 1 ≤ s) × (l ≡ [])).
          let old = b.known port v at s l (inl (omega arith, o.1)) in
          (moved_else b.owner m (length vs) s (λ z. absurd (omega arith)) ∙ (old.0 ∙ sym q.0), old.1))
          (λ (o : Among (log s l) []). absurd (some-ne-none (log s l) (sym o.1)))
          c,
    ))
    (λ (q : (j ≢ port) × (get_elem? views j ≡ some u)). (
      b.agrees j u q.1,
      λ s l c.
          let old = b.known j u q.1 s l c in
          (moved_else b.owner m (length vs) s (λ z. q.0 (sym old.0 ∙ (ap b.owner z ∙ free.0))) ∙ old.0, old.1),
    ))
    (at_set views port j w u p.1))
    (λ (p : (j ≡ length vs) × (new ≡ u)). subst (Fits j) p.1
    (total, λ s l c. (moved_here b.owner m (length vs) s c.0 ∙ sym p.0, ap (λ k. of k h) c.0 ∙ (free.1 ∙ sym c.1))))
    (at_push vs new u j e) in
    record {
      drain = b.drain;
      seats = b.seats;
      taken = b.taken;
      owner = owner;
      history = b.history;
      agrees = λ j u e. (all j u e).0;
      known = λ j u e. (all j u e).1;
    }

-- ---- passes are joined
among_more : (xs : List SeatLog) (a x : SeatLog) → Among x (xs ++ a ∷ []) → Among x xs ⊎ (a ≡ x)
among_more xs a x o = ⊎_elim (λ (p : (o.0 < length xs) × (get_elem? xs o.0 ≡ some x)). inl (o.0, p.1)) (λ (p : (o.0 ≡ length xs) × (a ≡ x)). inr p.1) (at_push xs a x o.0 o.1)

-- the drain takes in a seat
pub finishes : (port t m : ℕ) (got : List Submission) (known : List SeatLog) (other s n : ℕ) (sent : List Submission)
    → Merges Invariant port (Draining t m got known) other (Sending s n sent) (Draining t m got (known ++ log s sent ∷ [])) Spent
finishes port t m got known other s n sent items views b at apart theirs =
    let v : View = Draining t m got known in
    let w : View = Draining t m got (known ++ log s sent ∷ []) in
    let u₀ : View = Sending s n sent in
    let vs : List View = set views port w in
    let h : List Submission = b.taken ++ items in
    let owner : ℕ → ℕ = moved b.owner s port in
    let mine = b.agrees port v at in
    let total : t ≡ b.seats = mine.1 in
    let was : get_elem? views other ≡ some u₀ = ⊎_elim (λ (x : (other ≡ port) × (w ≡ u₀)). absurd (apart x.0)) (λ (x : (other ≢ port) × (get_elem? views other ≡ some u₀)). x.1) (at_set views port other w u₀ theirs) in
    let given = b.known other u₀ was s sent (refl, refl) in
    let Fits : ℕ → View → Type 0 = λ j u. Agrees b.drain b.seats b.taken j u × ((k : ℕ) (l : List Submission) → Knows u k l → (owner k ≡ j) × (of k h ≡ l)) in
    let kept : (j k : ℕ) (l : List Submission) → (b.owner k ≡ j) × (of k h ≡ l) → j ≢ other → (owner k ≡ j) × (of k h ≡ l) = λ j k l old ne. (moved_else b.owner s port k (λ z. ne (sym old.0 ∙ (ap b.owner z ∙ given.0))) ∙ old.0, old.1) in
    let all : (j : ℕ) (u : View) → get_elem? (set vs other Spent) j ≡ some u → Fits j u = λ j u e.
    ⊎_elim
    (λ (p : (j ≡ other) × (Spent ≡ u)). subst (Fits j) p.1 (tt, λ k l c. absurd c))
    (λ (p : (j ≢ other) × (get_elem? vs j ≡ some u)).
    ⊎_elim
    (λ (q : (j ≡ port) × (w ≡ u)). subst (Fits j) q.1 (
      (q.0 ∙ mine.0, total, mine.2),
      λ k l c. ⊎_elim
          (λ (o : (m ≤ k) × (l ≡ [])). let old = b.known port v at k l (inl o) in kept j k l (old.0 ∙ sym q.0, old.1) p.0)
          (λ (o : Among (log k l) (known ++ log s sent ∷ [])).
          ⊎_elim
          (λ (r : Among (log k l) known). let old = b.known port v at k l (inr r) in kept j k l (old.0 ∙ sym q.0, old.1) p.0)
          (λ (r : log s sent ≡ log k l).
          let ks : k ≡ s = ap (λ (y : SeatLog). y.seat) (sym r) in
          (moved_here b.owner s port k ks ∙ sym q.0, ap (λ y. of y h) ks ∙ (given.1 ∙ ap (λ (y : SeatLog). y.sent) r)))
          (among_more known (log s sent) (log k l) o))
          c,
    ))
    (λ (q : (j ≢ port) × (get_elem? views j ≡ some u)). (b.agrees j u q.1, λ k l c. kept j k l (b.known j u q.1 k l c) p.0))
    (at_set views port j w u p.1))
    (at_set vs other j Spent u e) in
    record {
      drain = b.drain;
      seats = b.seats;
      taken = b.taken;
      owner = owner;
      history = b.history;
      agrees = λ j u e. (all j u e).0;
      known = λ j u e. (all j u e).1;
    }

-- ---- the opening
pub begins : Invariant [] (Draining 0 0 [] [] ∷ [])
begins =
    let Fits : ℕ → View → Type 0 = λ j u. Agrees 0 0 [] j u × ((k : ℕ) (l : List Submission) → Knows u k l → (0 ≡ j) × ([] ≡ l)) in
    let v : View = Draining 0 0 [] [] in
    let first : Fits 0 v = ((refl, refl, refl), λ k l c. (refl, ⊎_elim (λ (o : (0 ≤ k) × (l ≡ [])). sym o.1) (λ (o : Among (log k l) []). absurd (some-ne-none (log k l) (sym o.1))) c)) in
    let all : (j : ℕ) (u : View) → get_elem? ([] ++ v ∷ []) j ≡ some u → Fits j u = λ j u e.
    ⊎_elim (λ (p : (j < 0) × (get_elem? [] j ≡ some u)). absurd (omega arith)) (λ (p : (j ≡ 0) × (v ≡ u)). subst (λ (y : ℕ × View). Fits y.0 y.1) (λ i. (sym p.0 i, p.1 i)) first) (at_push [] v u j e) in
    record {
      drain = 0;
      seats = 0;
      taken = [];
      owner = λ k. 0;
      history = record { of_these_seats = λ s le. refl; numbered = λ s. tt; countable = λ s. omega arith };
      agrees = λ j u e. (all j u e).0;
      known = λ j u e. (all j u e).1;
    }

-- ---- the same for a pass whose view is known by an equation
pub submits : (n port : ℕ) (v : View) (s t : ℕ) (x : Parcel) → v ≡ Sending s t (sent_in v) → s < t → x.seat ≡ s → x.number ≡ length (sent_in v) → length (sent_in v) + length (orders_of x.request) ≤ 4294967295
    → Pushes Holds n port v x (Submitted v x) × Learns Holds port v (ShowsIn v)
submits n port v s t x e lt is num room = (
  subst (λ (y : View). Pushes Holds n port y x (Submitted y x)) (sym e) (pushes n port s t (sent_in v) x lt is num room),
  λ items views b at. learns port v (λ z. cc) (contents items) views b at,
)

pub takes : (port : ℕ) (v : View) (t m : ℕ) (known : List SeatLog) → v ≡ Draining t m (taken_in v) known → Pops Holds port v (Took v) × Learns Holds port v (ShowsIn v)
takes port v t m known e = (
  subst (λ (y : View). Pops Holds port y (Took y)) (sym e) (pops port t m (taken_in v) known),
  λ items views b at. learns port v (λ z. cc) (contents items) views b at,
)

pub one_more : (port : ℕ) (v : View) (t : ℕ) → v ≡ Draining t 0 [] [] → Forks Holds port v (widened v) Spent
one_more port v t e = subst (λ (y : View). Forks Holds port y (widened y) Spent) (sym e) (λ items views b at. widens port t (contents items) views b at)

pub new_one : (port : ℕ) (v : View) (t m : ℕ) → v ≡ Draining t m [] [] → Forks Holds port v (made_one v) (new_seat v)
new_one port v t m e = subst (λ (y : View). Forks Holds port y (made_one y) (new_seat y)) (sym e) (λ items views b at. makes port t m (contents items) views b at)

pub joins : (port : ℕ) (v : View) (t m : ℕ) (got : List Submission) (known : List SeatLog) (other : ℕ) (w : View) (s n : ℕ) (sent : List Submission)
    → v ≡ Draining t m got known → w ≡ Sending s n sent → Merges Holds port v other w (informed v w) Spent
joins port v t m got known other w s n sent e f =
    subst (λ (y : View × View). Merges Holds port y.0 other y.1 (informed y.0 y.1) Spent) (λ i. (sym e i, sym f i))
    (λ items views b at apart theirs. finishes port t m got known other s n sent (contents items) views b at apart theirs)

pub looks : (port : ℕ) (v : View) (t m : ℕ) (got : List Submission) (known : List SeatLog) → v ≡ Draining t m got known → Learns Holds port v (ShowsIn v)
looks port v t m got known e items views b at = learns port v (λ z. cc) (contents items) views b at

-- ---- the law on every moment
pub taken_first : TakenComesFirst
taken_first held views b i seats made taken finished at j seat n sent there =
    let mine = b.agrees i (Draining seats made taken finished) at in
    let same : sent ≡ of seat (taken ++ held) = sym (b.known j (Sending seat n sent) there seat sent (refl, refl)).1 ∙ ap (λ (l : List Submission). of seat (l ++ held)) (sym mine.2) in
    (same, (of seat held, same ∙ of_append seat taken held))

-- ---- what a seat sees
-- behind what was taken the items held make a history, in which the seat's part is its list
abbrev pub Sees : ℕ → ℕ → List Submission → List Submission → Type 0
Sees n s sent held = (taken : List Submission) × IsHistory n (taken ++ held) × (of s (taken ++ held) ≡ sent)

seat_sees : (v : View) (s t n : ℕ) (l held : List Submission) → v ≡ Sending s t l → t ≡ n → Shows v held → Sees n s l held
seat_sees v s t n l held e m sh = (sh.0, subst (λ k. IsHistory k (sh.0 ++ held)) (ap seats_in e ∙ m) sh.1, sh.2 s l (subst (λ (y : View). Knows y s l) (sym e) (refl, refl)))

pub seat_found_full : (v : View) (s n cap : ℕ) → v ≡ Sending s (seats_in v) (sent_in v) → seats_in v ≡ n → Held cap (ShowsIn v) → Held cap (λ held. Sees n s (sent_in v) (contents held))
seat_found_full v s n cap e m h = (h.0, h.1, seat_sees v s (seats_in v) n (sent_in v) (contents h.0) e m h.2)

abbrev pub SubmittedAll : View → List Submission → View → Type 0
SubmittedAll v xs w = (w ≡ with_sent v xs) × ((before : List Submission) × Shows w (before ++ xs))

sent_more : (v w : View) (s : ℕ) (xs : List Submission) → v ≡ Sending s (seats_in v) (sent_in v) → SubmittedAll v xs w → w ≡ Sending s (seats_in v) (sent_in v ++ xs)
sent_more v w s xs e r = r.0 ∙ ap (λ (u : View). with_sent u xs) e

numbered-length : (s k : ℕ) (os : List Order) → length (numbered s k os) ≡ length os
numbered-length s k [] = refl
numbered-length s k (o ∷ os) = ap suc (numbered-length s (k + 1) os)

-- the seat that submitted more
pub seat_after : (v w : View) (s k : ℕ) (os : List Order) → v ≡ Sending s (seats_in v) (sent_in v) → SubmittedAll v (numbered s k os) w
    → (w ≡ Sending s (seats_in w) (sent_in w)) × (seats_in w ≡ seats_in v) × (length (sent_in w) ≡ length (sent_in v) + length os)
seat_after v w s k os e r =
    let z : w ≡ Sending s (seats_in v) (sent_in v ++ numbered s k os) = sent_more v w s (numbered s k os) e r in (
      z ∙ (λ i. Sending s (sym (ap seats_in z) i) (sym (ap sent_in z) i)),
      ap seats_in z,
      ap (λ (u : View). length (sent_in u)) z ∙ omega (arith, length-append (sent_in v) (numbered s k os), numbered-length s k os),
    )

pub seat_pushed : (v w : View) (s n : ℕ) (xs ys : List Submission) → v ≡ Sending s (seats_in v) (sent_in v) → seats_in v ≡ n → xs ≡ ys → SubmittedAll v xs w
    → (before : List Submission) × Sees n s (sent_in w) (before ++ ys)
seat_pushed v w s n xs ys e m same r =
    let z : w ≡ Sending s (seats_in v) (sent_in v ++ xs) = sent_more v w s xs e r in
    let z' : w ≡ Sending s (seats_in v) (sent_in w) = z ∙ ap (λ (l : List Submission). Sending s (seats_in v) l) (sym (ap sent_in z)) in
    (r.1.0, subst (λ (i : List Submission). Sees n s (sent_in w) (r.1.0 ++ i)) same (seat_sees w s (seats_in v) n (sent_in w) (r.1.0 ++ xs) z' m r.1.1))

-- ---- what a drain knows after a pop
abbrev pub TookAll : View → List Submission → View → Type 0
TookAll v xs w = (w ≡ with_taken v xs) × ((rest : List Submission) × Shows w rest)

pub drain_after : (v w : View) (xs : List Submission) → v ≡ Draining (seats_in v) (seats_in v) (taken_in v) [] → TookAll v xs w
    → (w ≡ Draining (seats_in w) (seats_in w) (taken_in w) []) × (seats_in w ≡ seats_in v) × (taken_in w ≡ taken_in v ++ xs) × ((rest : List Submission) × IsHistory (seats_in w) (taken_in w ++ rest))
drain_after v w xs e r =
    let z : w ≡ Draining (seats_in v) (seats_in v) (taken_in v ++ xs) [] = r.0 ∙ ap (λ (u : View). with_taken u xs) e in
    let got : taken_in w ≡ r.1.1.0 = subst (λ (u : View). TakenIs u r.1.1.0 → taken_in u ≡ r.1.1.0) (sym z) (λ t. t) r.1.1.3 in (
      z ∙ (λ i. Draining (sym (ap seats_in z) i) (sym (ap seats_in z) i) (sym (ap taken_in z) i) []),
      ap seats_in z,
      ap taken_in z,
      (r.1.0, subst (λ (t : List Submission). IsHistory (seats_in w) (t ++ r.1.0)) (sym got) r.1.1.1),
    )

-- what it found where nothing was held
pub drain_found : (v : View) (n : ℕ) (held : List Parcel) → v ≡ Draining (seats_in v) (seats_in v) (taken_in v) [] → seats_in v ≡ n → ShowsIn v held → IsHistory n (taken_in v ++ contents held)
drain_found v n held e same sh =
    let got : taken_in v ≡ sh.0 = subst (λ (u : View). TakenIs u sh.0 → taken_in u ≡ sh.0) (sym e) (λ t. t) sh.3 in
    subst (λ (m : ℕ). IsHistory m (taken_in v ++ contents held)) same (subst (λ (t : List Submission). IsHistory (seats_in v) (t ++ contents held)) (sym got) sh.1)
