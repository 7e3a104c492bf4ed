-- Queues with one seat and one taker.
use Rattle.std.proofs.Common.{◌≡◌, ℕ, zero, suc, ◌+◌, ◌<◌, ◌≤◌, true, false, cond, List, [], ◌∷◌, ◌++◌, Option, Some, None, IfSome, refl, sym, ap, ◌∙◌, subst, arith, append-nil, append_assoc, eq-eqb, ne_eqb, length}
use Rattle.std.specs.Prelude.{IsSome, slice_index_or}
use Rattle.std.specs.List.{All, Contains}
use Rattle.std.specs.Option.{option_to_list, option_map}
use Rattle.crossbeam_queue.specs.Fifo.{Held}
use Rattle.std.proofs.lemmas.List.{map-append}
use Rattle.std.proofs.lemmas.List.Elements.{All-head, All-tail}
use native.Mathlib.Decide.{ℕ_discrete}
use Rattle.enet_submit.specs.declared.order.Submission.{Submission}
use Rattle.enet_submit.specs.declared.queue.SubmitQueue.{SubmitQueue}
use Rattle.enet_submit.specs.declared.token.Drain.{Drain}
use Rattle.enet_submit.specs.declared.token.Finished.{Finished}
use Rattle.enet_submit.specs.declared.token.Seat.{Seat}
use Rattle.enet_submit.specs.declared.order.Order.{Order}
use Rattle.enet_submit.specs.History.{of, IsHistory}
use Rattle.enet_submit.specs.Words.{EachFrom, IsNew, DrainSees, AllBack, sent, all_sent, taken, seat_of, seats_of}
use Rattle.enet_events.specs.declared.numbered.Numbered.{Numbered}
use Rattle.enet_events.specs.History.{AreWith, part}
use Rattle.enet_events.specs.Words.{QueueId, PosterState, TakerState, TakerFits, IsAllTaken, IsSharedOut, taken_by}
use Rattle.enet_bridge.specs.Ends.{orders}

pub each_is_new : (k : ℕ) (seats : List Seat) (seat : Seat) → EachFrom k IsNew (seats ++ seat ∷ []) → sent seat ≡ []
each_is_new k [] seat new = new.0.1
each_is_new k (s ∷ seats) seat new = each_is_new (k + 1) seats seat new.1

cons_is_not_nil : (x : Submission) (xs : List Submission) → x ∷ xs ≡ [] → ⊥
cons_is_not_nil x xs e = let l : suc (length xs) ≡ 0 = ap length e in omega (arith, l)

pub popped_is_new : (r : Option Seat) (old new : List Seat) → old ≡ new ++ option_to_list r → EachFrom 0 IsNew old → IfSome r (λ seat. sent seat ≡ [])
popped_is_new None old new e each = tt
popped_is_new (Some seat) old new e each = each_is_new 0 new seat (subst (EachFrom 0 IsNew) e each)

-- where no other seat has items, all are those of seat 0
of_this : (x : Submission) (xs : List Submission) (seat : ℕ) → x.seat ≡ seat → of seat (x ∷ xs) ≡ x ∷ of seat xs
of_this x xs seat e = ap (λ b. cond b (x ∷ of seat xs) (of seat xs)) (eq-eqb x.seat seat e)

of_other : (x : Submission) (xs : List Submission) (seat : ℕ) → (x.seat ≡ seat → ⊥) → of seat (x ∷ xs) ≡ of seat xs
of_other x xs seat d = ap (λ b. cond b (x ∷ of seat xs) (of seat xs)) (ne_eqb x.seat seat d)

rest_has_none : (x : Submission) (xs : List Submission) (seat : ℕ) → Dec (x.seat ≡ seat) → of seat (x ∷ xs) ≡ [] → of seat xs ≡ []
rest_has_none x xs seat (yes e) none = absurd (cons_is_not_nil x (of seat xs) (sym (of_this x xs seat e) ∙ none))
rest_has_none x xs seat (no d) none = sym (of_other x xs seat d) ∙ none

first_is_of : (x : Submission) (xs : List Submission) → Dec (x.seat ≡ 0) → ((seat : ℕ) → 1 ≤ seat → of seat (x ∷ xs) ≡ []) → x.seat ≡ 0
first_is_of x xs (yes e) none = e
first_is_of x xs (no d) none = absurd (cons_is_not_nil x (of x.seat xs) (sym (of_this x xs x.seat refl) ∙ none x.seat (omega (arith, d))))

pub of_one_seat : (items : List Submission) → ((seat : ℕ) → 1 ≤ seat → of seat items ≡ []) → of 0 items ≡ items
of_one_seat [] none = refl
of_one_seat (x ∷ xs) none =
    of_this x xs 0 (first_is_of x xs (ℕ_discrete x.seat 0) none)
    ∙ ap (λ (zs : List Submission). x ∷ zs) (of_one_seat xs (λ seat least. rest_has_none x xs seat (ℕ_discrete x.seat seat) (none seat least)))

-- where each event is with the only taker, all are its events
pub part_of_one : (who : ℕ → ℕ) (events : List Numbered) → All (λ x. who x.number < 1) events → part who 0 events ≡ events
part_of_one who [] all = refl
part_of_one who (x ∷ xs) all =
    ap (λ b. cond b (x ∷ part who 0 xs) (part who 0 xs)) (eq-eqb (who x.number) 0 (omega (arith, All-head (λ (y : Numbered). who y.number < 1) x xs all)))
    ∙ ap (λ (zs : List Numbered). x ∷ zs) (part_of_one who xs (All-tail (λ (y : Numbered). who y.number < 1) x xs all))

taker_is_first : (t : TakerState) → Dec (t.index ≡ 0) → IsSome (taken_by 0 (t ∷ [])) → t.index ≡ 0
taker_is_first t (yes e) some = e
taker_is_first t (no d) some =
    absurd (let e : false ≡ true = subst (λ b. IsSome (option_map (λ (x : TakerState). length x.taken) (cond b (Some t) None))) (ne_eqb t.index 0 d) some in cc)

-- where the only taker took as many events as were posted, it took those
pub taken_is_posted : (p : PosterState) (t : TakerState) (ts : List TakerState) → ts ≡ t ∷ [] → p.queue.takers ≡ 1 → IsAllTaken p ts → IsSharedOut p ts → t.taken ≡ p.posted
taken_is_posted p t ts is one all shared =
    let back : IsSome (taken_by 0 (t ∷ [])) = subst (λ (xs : List TakerState). IsSome (taken_by 0 xs)) is (all.0 0 (omega (arith, one))) in
    let first = taker_is_first t (ℕ_discrete t.index 0) back in
    let list : part shared.who t.index p.posted ≡ t.taken = All-head (λ (x : TakerState). part shared.who x.index p.posted ≡ x.taken) t []
    (subst (λ (xs : List TakerState). All (λ x. part shared.who x.index p.posted ≡ x.taken) xs) is shared.lists) in
    sym list ∙ (ap (λ (k : ℕ). part shared.who k p.posted) first
    ∙ part_of_one shared.who p.posted (subst (λ (n : ℕ). AreWith shared.who n p.posted) one shared.shared))

ends_there : (xs ys : List Submission) → length ys ≡ 0 → xs ++ ys ≡ xs
ends_there xs [] e = append-nil xs
ends_there xs (y ∷ ys) e = absurd (omega (arith, e))

contained_is_first : (f g : Finished) (k : ℕ) → k < 1 → slice_index_or (f ∷ []) k g ≡ g → f ≡ g
contained_is_first f g zero l e = e
contained_is_first f g (suc k) l e = absurd (omega (arith, l))

-- where the only seat is back and the queue is empty, the drain took what the seat submitted
pub taken_is_sent : (q : SubmitQueue) (d : Drain) (f : Finished) (fs : List Finished) → fs ≡ f ∷ [] → seats_of q ≡ 1 → AllBack q d fs
    → All (λ x. of (seat_of x) (taken d) ≡ all_sent x) fs → Held 0 (DrainSees q d) → taken d ≡ all_sent f
taken_is_sent q d f fs is one back all held =
    let found = back 0 (omega (arith, one)) in
    let inside : Contains (f ∷ []) found.0 = subst (λ (xs : List Finished). Contains xs found.0) is found.1 in
    let same : f ≡ found.0 = contained_is_first f found.0 inside.0 inside.1 inside.2 in
    let zeroth : seat_of f ≡ 0 = ap seat_of same ∙ found.2 in
    let sent_all : of (seat_of f) (taken d) ≡ all_sent f = All-head (λ (x : Finished). of (seat_of x) (taken d) ≡ all_sent x) f []
    (subst (λ (xs : List Finished). All (λ x. of (seat_of x) (taken d) ≡ all_sent x) xs) is all) in
    let empty : taken d ++ held.0 ≡ taken d = ends_there (taken d) held.0 held.1 in
    let others : (seat : ℕ) → 1 ≤ seat → of seat (taken d) ≡ [] =
    λ seat least. subst (λ (xs : List Submission). of seat xs ≡ []) empty (held.2.of_these_seats seat (omega (arith, one, least))) in
    sym (of_one_seat (taken d) others) ∙ (ap (λ (k : ℕ). of k (taken d)) (sym zeroth) ∙ sent_all)

-- where the queue is empty, the drain took a history of the only seat
pub history_of_one : (q : SubmitQueue) (d : Drain) → seats_of q ≡ 1 → Held 0 (DrainSees q d) → IsHistory 1 (taken d)
history_of_one q d one held =
    subst (IsHistory 1) (ends_there (taken d) held.0 held.1) (subst (λ (n : ℕ). IsHistory n (taken d ++ held.0)) one held.2)

-- one more is left
pub left_more : (old a b held : List Submission) (x : Submission) (os ns : List Order) → a ≡ old ++ held → orders held ≡ os → b ≡ a ++ x ∷ [] → ns ≡ os ++ x.order ∷ []
    → (xs : List Submission) × (b ≡ old ++ xs) × (orders xs ≡ ns)
left_more old a b held x os ns before left one more = (
  held ++ x ∷ [],
  one ∙ (ap (λ (zs : List Submission). zs ++ x ∷ []) before ∙ append_assoc old held (x ∷ [])),
  map-append (λ (y : Submission). y.order) held (x ∷ []) ∙ (ap (λ (zs : List Order). zs ++ x.order ∷ []) left ∙ sym more),
)

-- what was left goes with what the drain took
pub left_over : (d e : Drain) (f : Finished) (held : List Submission) (left : List Order) → taken e ≡ taken d ++ held → orders held ≡ left → IsHistory 1 (taken e) → taken e ≡ all_sent f
    → (xs : List Submission) × (orders xs ≡ left) × IsHistory 1 (taken d ++ xs) × (of 0 (taken d ++ xs) ≡ all_sent f)
left_over d e f held left grown left_is history sent =
    (held, left_is, subst (IsHistory 1) grown history, ap (of 0) (sym grown) ∙ (of_one_seat (taken e) history.of_these_seats ∙ sent))

-- the only taker of a queue that is settled fits all that was posted
pub fits_all : (p : PosterState) (t : TakerState) (ts : List TakerState) → ts ≡ t ∷ [] → t.queue ≡ p.queue → IsSharedOut p ts → TakerFits t p.posted []
fits_all p t ts is same shared = (
  record {
    taken = p.posted;
    who = shared.who;
    in_order = sym (append-nil p.posted);
    numbered = shared.numbered;
    shared = subst (λ (n : ℕ). AreWith shared.who n p.posted) (sym (ap (λ (q : QueueId). q.takers) same)) shared.shared;
  },
  All-head (λ (x : TakerState). part shared.who x.index p.posted ≡ x.taken) t []
      (subst (λ (xs : List TakerState). All (λ x. part shared.who x.index p.posted ≡ x.taken) xs) is shared.lists),
)

pub first_of_one : (p : PosterState) (t : TakerState) (ts : List TakerState) → ts ≡ t ∷ [] → p.queue.takers ≡ 1 → IsAllTaken p ts → t.index ≡ 0
first_of_one p t ts is one all = taker_is_first t (ℕ_discrete t.index 0) (subst (λ (xs : List TakerState). IsSome (taken_by 0 xs)) is (all.0 0 (omega (arith, one))))

-- where the queue isn't settled, its only seat isn't back
pub not_back_of : (q : SubmitQueue) (d : Drain) (f : Finished) (fs : List Finished) → fs ≡ f ∷ [] → (AllBack q d fs → false ≡ true) → AllBack q d (f ∷ []) → ⊥
not_back_of q d f fs is none back = let e : false ≡ true = none (subst (AllBack q d) (sym is) back) in absurd cc
