-- What is taken of packets for several peers, one order after another.
use Rattle.std.proofs.Common.{◌≡◌, ℕ, ◌+◌, ◌-◌, ◌<◌, true, false, IfNone, IfSome, OnSome, Option, Some, None, List, [], ◌∷◌, ◌++◌, length, map, take, drop, get_or, set, sym, refl, ap, ◌∙◌, subst, append_assoc, append-nil, length-append, arith}
use Rattle.std.proofs.Math.Seq.{take-append_seam}
use Rattle.std.proofs.lemmas.List.{nil_from_length, get_or-set_same, get_or-set_other}
use native.Mathlib.Decide.{ℕ_discrete}
use Rattle.std.specs.Option.{is_some}
use Rattle.crossbeam_queue.specs.Fifo.{Held}
use Rattle.crossbeam_queue.specs.Passes.{view}
use Rattle.enet_submit.specs.declared.order.Order.{Order}
use Rattle.enet_submit.specs.declared.order.Submission.{Submission}
use Rattle.enet_submit.specs.declared.order.Parcel.{Parcel}
use Rattle.enet_submit.specs.declared.order.Request.{Request}
use Rattle.enet_submit.specs.declared.order.Request.TheVariants.{One, Each}
use Rattle.enet_submit.specs.declared.rule.View.{View}
use Rattle.enet_submit.specs.declared.rule.View.TheVariants.{Draining}
use Rattle.enet_submit.specs.declared.token.Drain.{Drain}
use Rattle.enet_submit.specs.History.{of, CountsFrom, IsHistory}
use Rattle.enet_submit.specs.Parcels.{numbered, contents, left_of, all_but, EndsWith, numbers_from, AreHistory}
use Rattle.enet_submit.specs.Requests.{orders_of}
use Rattle.enet_submit.specs.Rule.{seats_in, taken_in, ShowsIn}
use Rattle.enet_submit.specs.Words.{submission, taken}
use Rattle.enet_submit.proofs.Rules.{of_append, of_more_same, of_more_other, seam_within, seam_number, TookAll, drain_after, drain_found}

-- ---- the end of a list
pub front-is : (front rest all : List Submission) → front ++ rest ≡ all → all_but all rest ≡ front
front-is front rest all e =
    let far : length front + length rest ≡ length all = sym (length-append front rest) ∙ ap length e in
    let n : length all - length rest ≡ length front = omega (arith, far) in
    ap (λ (k : ℕ). take k all) n ∙ (ap (λ (zs : List Submission). take (length front) zs) (sym e) ∙ take-append_seam front rest)

pub ends-after : (all : List Submission) (x : Submission) (rest : List Submission) → EndsWith all (x ∷ rest) → (all_but all rest ≡ all_but all (x ∷ rest) ++ x ∷ []) × EndsWith all rest
ends-after all x rest e =
    let front : List Submission = all_but all (x ∷ rest) in
    let split : (front ++ x ∷ []) ++ rest ≡ all = append_assoc front (x ∷ []) rest ∙ e in
    let is : all_but all rest ≡ front ++ x ∷ [] = front-is (front ++ x ∷ []) rest all split in
    (is, ap (λ (zs : List Submission). zs ++ rest) is ∙ split)

pub ends-none : (all : List Submission) → (all_but all [] ≡ all) × EndsWith all []
ends-none all = let is : all_but all [] ≡ all = front-is all [] all (append-nil all) in (is, append-nil (all_but all []) ∙ is)

pub ends-more : (all rest : List Submission) → (all_but (all ++ rest) rest ≡ all) × EndsWith (all ++ rest) rest
ends-more all rest = let is : all_but (all ++ rest) rest ≡ all = front-is all rest (all ++ rest) refl in (is, ap (λ (zs : List Submission). zs ++ rest) is)

-- ---- histories, said by equations
numbers-of : (k : ℕ) (xs : List Submission) → CountsFrom k xs → map (λ (x : Submission). x.number) xs ≡ numbers_from k xs
numbers-of k [] c = refl
numbers-of k (x ∷ xs) c = λ i. c.0 i ∷ numbers-of (k + 1) xs c.1 i

counts-of : (k : ℕ) (xs : List Submission) → map (λ (x : Submission). x.number) xs ≡ numbers_from k xs → CountsFrom k xs
counts-of k [] e = tt
counts-of k (x ∷ xs) e = (ap (λ (zs : List ℕ). get_or zs 0 0) e, counts-of (k + 1) xs (ap (λ (zs : List ℕ). drop 1 zs) e))

pub history-of : (n : ℕ) (xs : List Submission) → AreHistory n xs → IsHistory n xs
history-of n xs h = record { of_these_seats = h.0; numbered = λ s. counts-of 0 (of s xs) (h.1 s); countable = h.2 }

counts-front : (k : ℕ) (xs ys : List Submission) → CountsFrom k (xs ++ ys) → CountsFrom k xs
counts-front k [] ys c = tt
counts-front k (x ∷ xs) ys c = (c.0, counts-front (k + 1) xs ys c.1)

front_nil : (a b : List Submission) → a ++ b ≡ [] → a ≡ []
front_nil a b e = let m : length (a ++ b) ≡ 0 = ap length e in nil_from_length a (omega (arith, length-append a b))

-- the front of a history is one
pub front-history : (n : ℕ) (a b : List Submission) → IsHistory n (a ++ b) → AreHistory n a
front-history n a b h = (
  λ s le. front_nil (of s a) (of s b) (sym (of_append s a b) ∙ h.of_these_seats s le),
  λ s. numbers-of 0 (of s a) (counts-front 0 (of s a) (of s b) (subst (CountsFrom 0) (of_append s a b) (h.numbered s))),
  λ s. omega (arith, h.countable s, ap length (of_append s a b), length-append (of s a) (of s b)),
)

-- ---- the next order
pub next-of : (n : ℕ) (all : List Submission) (x : Submission) (rest : List Submission) → AreHistory n all → EndsWith all (x ∷ rest)
    → (x.seat < n) × (x.number ≡ length (of x.seat (all_but all (x ∷ rest)))) × (x.number < 4294967295)
next-of n all x rest h e =
    let front : List Submission = all_but all (x ∷ rest) in
    let whole : IsHistory n (front ++ x ∷ rest) = subst (IsHistory n) (sym e) (history-of n all h) in
    let number = seam_number n front x rest whole in
    (seam_within n front x rest whole, number.0, number.1)

-- ---- the counts
pub counts-on : (counts : List ℕ) (front : List Submission) (x : Submission) → length counts ≡ 16 → ((s : ℕ) → s < 16 → get_or counts s 0 ≡ length (of s front)) → x.number ≡ length (of x.seat front)
    → (s : ℕ) → s < 16 → get_or (set counts x.seat (x.number + 1)) s 0 ≡ length (of s (front ++ x ∷ []))
counts-on counts front x len each num s lt = by (ℕ_discrete x.seat s)
  where
    by : Dec (x.seat ≡ s) → get_or (set counts x.seat (x.number + 1)) s 0 ≡ length (of s (front ++ x ∷ []))
    by (yes e) =
        let same : length (of x.seat front) ≡ length (of s front) = ap (λ (k : ℕ). length (of k front)) e in
        let here : get_or (set counts x.seat (x.number + 1)) x.seat 0 ≡ x.number + 1 = get_or-set_same counts x.seat (x.number + 1) 0 (omega (arith, len, lt, e)) in
        ap (λ (k : ℕ). get_or (set counts x.seat (x.number + 1)) k 0) (sym e)
        ∙ omega (arith, here, num, same, ap length (of_more_same s front x e), length-append (of s front) (x ∷ []))
    by (no d) = get_or-set_other counts x.seat s (x.number + 1) 0 (λ e. d (sym e)) ∙ (each s lt ∙ ap length (sym (of_more_other s front x d)))

-- ---- a drain that has some left
pub record Next (d : Drain) (order : Order) (orders : List Order) : Type 0 where
  pub left : left_of d.seat d.number d.rest ≡ submission d.seat d.number order ∷ numbered d.seat (d.number + 1) orders
  pub seat : d.seat < seats_in (view d.pass)
  pub number : d.number ≡ length (of d.seat (taken d))
  pub room : d.number < 4294967295
  pub grown : all_but (taken_in (view d.pass)) (numbered d.seat (d.number + 1) orders) ≡ taken d ++ submission d.seat d.number order ∷ []
  pub ends : EndsWith (taken_in (view d.pass)) (numbered d.seat (d.number + 1) orders)
  pub history : IsHistory (seats_in (view d.pass)) (all_but (taken_in (view d.pass)) (numbered d.seat (d.number + 1) orders) ++ numbered d.seat (d.number + 1) orders)

pub next-in : (d : Drain) (left : List Order) (order : Order) (orders : List Order) → d.rest ≡ Some left → left ≡ order ∷ orders → Next d order orders
next-in d left order orders e n =
    let all : List Submission = taken_in (view d.pass) in
    let x : Submission = submission d.seat d.number order in
    let rest : List Submission = numbered d.seat (d.number + 1) orders in
    let is : left_of d.seat d.number d.rest ≡ x ∷ rest = ap (left_of d.seat d.number) e ∙ ap (numbered d.seat d.number) n in
    let ends : EndsWith all (x ∷ rest) = subst (EndsWith all) is d.ends in
    let same : all_but all (x ∷ rest) ≡ taken d = ap (all_but all) (sym is) in
    let next = next-of (seats_in (view d.pass)) all x rest d.began ends in
    let after = ends-after all x rest ends in
    record {
      left = is;
      seat = next.0;
      number = next.1 ∙ ap (λ (zs : List Submission). length (of d.seat zs)) same;
      room = next.2;
      grown = after.0 ∙ ap (λ (zs : List Submission). zs ++ x ∷ []) same;
      ends = after.1;
      history = subst (IsHistory (seats_in (view d.pass))) (sym after.1) (history-of (seats_in (view d.pass)) all d.began);
    }

pub next-counted : (d : Drain) (order : Order) (orders : List Order) → length d.counts ≡ 16 → Next d order orders → (s : ℕ) → s < 16
    → get_or (set d.counts d.seat (d.number + 1)) s 0 ≡ length (of s (all_but (taken_in (view d.pass)) (numbered d.seat (d.number + 1) orders)))
next-counted d order orders len n s lt =
    counts-on d.counts (taken d) (submission d.seat d.number order) len d.counted n.number s lt ∙ ap (λ (zs : List Submission). length (of s zs)) (sym n.grown)

abbrev length-in : Option (List Order) → ℕ
length-in None = 0
length-in (Some os) = length os

not-none : (os : List Order) → (os ≡ [] → ⊥) → 0 < length os
not-none [] f = absurd (f refl)
not-none (o ∷ os) f = omega arith

pub some-left : (os : List Order) → (os ≡ [] → ⊥) → (x : List Order) → Some os ≡ Some x → 0 < length x
some-left os f x e = omega (arith, not-none os f, ap length-in e)

-- where none is left any more
pub next-last : (d : Drain) (order : Order) (orders : List Order) → orders ≡ [] → Next d order orders → Next d order []
next-last d order orders none n = subst (Next d order) none n

-- ---- what is answered
pub none-map : {X P Q : Type 0} (r : Option X) → (P → Q) → IfNone r P → IfNone r Q
none-map None f h = f h
none-map (Some x) f h = tt

pub some-map : {X : Type 0} {P Q : X → Type 0} (r : Option X) → ((x : X) → P x → Q x) → IfSome r P → IfSome r Q
some-map None f h = tt
some-map (Some x) f h = f x h

pub some-on : {X : Type 0} (P : Type 0) (r : Option X) → IfSome r (λ x. P) → OnSome r P
some-on P None h = tt
some-on P (Some x) h = h

numbered-none : (s k : ℕ) (os : List Order) → numbered s k os ≡ [] → 0 < length os → ⊥
numbered-none s k [] e lt = absurd (omega arith)
numbered-none s k (o ∷ os) e lt = (let n : length (numbered s k (o ∷ os)) ≡ 0 = ap length e in absurd (omega arith))

pub left-none : (d : Drain) → is_some d.rest ≡ true → left_of d.seat d.number d.rest ≡ [] → ⊥
left-none d some none = by d.rest refl
  where
    by : (o : Option (List Order)) → d.rest ≡ o → ⊥
    by None e = absurd (let z : false ≡ true = sym (ap is_some e) ∙ some in cc)
    by (Some os) e = numbered-none d.seat d.number os (sym (ap (left_of d.seat d.number) e) ∙ none) (d.some os e)

pub each-none : (s k : ℕ) (os : List Order) → 0 < length os → numbered s k os ≡ [] → ⊥
each-none s k os lt e = numbered-none s k os e lt

none-is : {X : Type 0} (o : Option X) → is_some o ≡ false → o ≡ None
none-is None e = refl
none-is (Some x) e = absurd (let z : true ≡ false = e in cc)

-- ---- a drain that took a place's contents
pub record TookOne (d : Drain) (w : View) (x : Submission) : Type 0 where
  pub sees : w ≡ Draining (seats_in w) (seats_in w) (taken_in w) []
  pub same : seats_in w ≡ seats_in (view d.pass)
  pub seat : x.seat < seats_in w
  pub number : x.number ≡ length (of x.seat (taken d))
  pub room : x.number < 4294967295
  pub grown : all_but (taken_in w) (left_of d.seat d.number d.rest) ≡ taken d ++ x ∷ []
  pub ends : EndsWith (taken_in w) (left_of d.seat d.number d.rest)
  pub began : AreHistory (seats_in w) (taken_in w)

pub took-one : (d : Drain) (w : View) (s k : ℕ) (request : Request) (order : Order) → is_some d.rest ≡ false → request ≡ One order → TookAll (view d.pass) (numbered s k (orders_of request)) w → TookOne d w (submission s k order)
took-one d w s k request order none is r =
    let x : Submission = submission s k order in
    let all : List Submission = taken_in (view d.pass) in
    let after = drain_after (view d.pass) w (numbered s k (orders_of request)) d.sees r in
    let left : left_of d.seat d.number d.rest ≡ [] = ap (left_of d.seat d.number) (none-is d.rest none) in
    let front : taken d ≡ all = ap (all_but all) left ∙ (ends-none all).0 in
    let grown : taken_in w ≡ all ++ x ∷ [] = after.2 ∙ ap (λ (q : Request). all ++ numbered s k (orders_of q)) is in
    let whole : IsHistory (seats_in w) (all ++ x ∷ after.3.0) = subst (IsHistory (seats_in w)) (ap (λ (zs : List Submission). zs ++ after.3.0) grown ∙ append_assoc all (x ∷ []) after.3.0) after.3.1 in
    let number = seam_number (seats_in w) all x after.3.0 whole in
    record {
      sees = after.0;
      same = after.1;
      seat = seam_within (seats_in w) all x after.3.0 whole;
      number = number.0 ∙ ap (λ (zs : List Submission). length (of s zs)) (sym front);
      room = number.1;
      grown = ap (all_but (taken_in w)) left ∙ ((ends-none (taken_in w)).0 ∙ (grown ∙ ap (λ (zs : List Submission). zs ++ x ∷ []) (sym front)));
      ends = subst (EndsWith (taken_in w)) (sym left) (ends-none (taken_in w)).1;
      began = front-history (seats_in w) (taken_in w) after.3.0 after.3.1;
    }

pub one-counted : (d : Drain) (w : View) (x : Submission) → length d.counts ≡ 16 → TookOne d w x → (s : ℕ) → s < 16
    → get_or (set d.counts x.seat (x.number + 1)) s 0 ≡ length (of s (all_but (taken_in w) (left_of d.seat d.number d.rest)))
one-counted d w x len t s lt = counts-on d.counts (taken d) x len d.counted t.number s lt ∙ ap (λ (zs : List Submission). length (of s zs)) (sym t.grown)

pub record TookEach (d : Drain) (w : View) (s k : ℕ) (orders : List Order) : Type 0 where
  pub sees : w ≡ Draining (seats_in w) (seats_in w) (taken_in w) []
  pub same : seats_in w ≡ seats_in (view d.pass)
  pub taken_is : all_but (taken_in w) (numbered s k orders) ≡ taken d
  pub ends : EndsWith (taken_in w) (numbered s k orders)
  pub some : 0 < length orders
  pub began : AreHistory (seats_in w) (taken_in w)

pub took-each : (d : Drain) (w : View) (s k : ℕ) (request : Request) (orders : List Order) → 0 < length (orders_of request) → is_some d.rest ≡ false → request ≡ Each orders
    → TookAll (view d.pass) (numbered s k (orders_of request)) w → TookEach d w s k orders
took-each d w s k request orders some none is r =
    let all : List Submission = taken_in (view d.pass) in
    let after = drain_after (view d.pass) w (numbered s k (orders_of request)) d.sees r in
    let left : left_of d.seat d.number d.rest ≡ [] = ap (left_of d.seat d.number) (none-is d.rest none) in
    let front : taken d ≡ all = ap (all_but all) left ∙ (ends-none all).0 in
    let grown : taken_in w ≡ all ++ numbered s k orders = after.2 ∙ ap (λ (q : Request). all ++ numbered s k (orders_of q)) is in
    let more = ends-more all (numbered s k orders) in
    record {
      sees = after.0;
      same = after.1;
      taken_is = ap (λ (zs : List Submission). all_but zs (numbered s k orders)) grown ∙ (more.0 ∙ sym front);
      ends = subst (λ (zs : List Submission). EndsWith zs (numbered s k orders)) (sym grown) more.1;
      some = omega (arith, some, ap (λ (q : Request). length (orders_of q)) is);
      began = front-history (seats_in w) (taken_in w) after.3.0 after.3.1;
    }

pub each-counted : (d : Drain) (w : View) (seat k : ℕ) (orders : List Order) → TookEach d w seat k orders → (s : ℕ) → s < 16
    → get_or d.counts s 0 ≡ length (of s (all_but (taken_in w) (numbered seat k orders)))
each-counted d w seat k orders t s lt = d.counted s lt ∙ ap (λ (zs : List Submission). length (of s zs)) (sym t.taken_is)

pub some-in : (os : List Order) → 0 < length os → (x : List Order) → Some os ≡ Some x → 0 < length x
some-in os lt x e = omega (arith, lt, ap length-in e)

-- where nothing was held, and none was left
pub found-none : (d : Drain) (n : ℕ) (held : List Parcel) → is_some d.rest ≡ false → seats_in (view d.pass) ≡ n → length held ≡ 0 → ShowsIn (view d.pass) held → Held 0 (λ items. IsHistory n (taken d ++ items))
found-none d n held none same empty sh =
    let all : List Submission = taken_in (view d.pass) in
    let front : taken d ≡ all = ap (all_but all) (ap (left_of d.seat d.number) (none-is d.rest none)) ∙ (ends-none all).0 in
    ([], refl, subst (IsHistory n) (ap (λ (ps : List Parcel). all ++ contents ps) (nil_from_length held empty) ∙ ap (λ (zs : List Submission). zs ++ []) (sym front)) (drain_found (view d.pass) n held d.sees same sh))
