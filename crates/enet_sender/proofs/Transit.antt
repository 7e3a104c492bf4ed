-- How what is in transit, and what is left, change.
use Rattle.std.proofs.Common.{◌≡◌, ◌≤◌, ℕ, zero, suc, ◌+◌, Bool, true, false, not, ◌&&◌, ◌||◌, cond, ltb, List, [], ◌∷◌, ◌++◌, length, map, refl, sym, ap, subst, ◌∙◌, arith, Option, Some, None, slice_get, slice_set}
use Rattle.std.specs.List.{position, remove, sum_by}
use Rattle.std.specs.Option.{is_some}
use Rattle.std.proofs.lemmas.List.Sums.{sum_by-cons, sum_by_push}
use Rattle.std.proofs.lemmas.List.{length-set, length-map, length-append}
use Rattle.std.proofs.lemmas.List.Quantifiers.{position-Some}
use Rattle.std.proofs.lemmas.Option.{get_or_from_slice_get}
use Rattle.std.proofs.lemmas.Bool.{lt-ltb}
use Rattle.enet_rtt.specs.Transmission.{went_at, next_time, is_heard_since}
use Rattle.enet_rtt.specs.declared.transmission.Tick.{Tick}
use Rattle.enet_rtt.specs.declared.transmission.Transmission.{Transmission}
use Rattle.enet_seq.specs.Numbering.{Numbering}
use Rattle.enet_fragment.specs.declared.data.DataCommand.{DataCommand}
use Rattle.enet_sender.specs.declared.sent.Sent.{Sent}
use Rattle.enet_sender.specs.declared.outgoing.Acknowledged.{Acknowledged}
use Rattle.enet_sender.specs.declared.outgoing.Left.{Left}
use Rattle.enet_sender.specs.declared.outgoing.Occasion.{Occasion}
use Rattle.enet_sender.specs.Sender.{Sender, Next, next, next_of, next_queued, next_resent, first_sent, resent, begun, again, bytes_of, cover, price_of, has_room, may_go, is_after_first, skipped, with_skipped, after_match, acknowledged, without_place, position_of, matching, matching_at, told_of, is_late, marked, with_marked, late_bytes, late_price, lost_price, bytes_in_transit, prices_in_transit, bytes_leaving, price_leaving, left}
use Rattle.enet_sender.specs.Invariant.{reliable_in}
use Rattle.enet_sender.proofs.Counting.{found_by_count, counted-head}
use Rattle.enet_sender.proofs.Foretelling.{due-not_late, marked-by}

-- what a sent command counts in transit
abbrev weigh : (DataCommand → ℕ) → Sent → ℕ
weigh u p = cond p.transmission.due 0 (u p.command)

abbrev weight_of : (DataCommand → ℕ) → List Sent → ℕ
weight_of u sent = sum_by (weigh u) sent

-- a command that didn't count is replaced
weight-set : (u : DataCommand → ℕ) (sent : List Sent) (i : ℕ) (p q : Sent) → slice_get sent i ≡ Some p → weigh u p ≡ 0 → weight_of u (slice_set sent i q) ≡ weight_of u sent + weigh u q
weight-set u [] i p q there none = cc
weight-set u (x ∷ sent) zero p q there none =
    let is : x ≡ p = cc in
    let was : weigh u x ≡ 0 = ap (weigh u) is ∙ none in
    let e = sum_by-cons (weigh u) x sent in
    let f = sum_by-cons (weigh u) q sent in
    omega arith
weight-set u (x ∷ sent) (suc i) p q there none =
    let e = sum_by-cons (weigh u) x sent in
    let f = sum_by-cons (weigh u) x (slice_set sent i q) in
    let h = weight-set u sent i p q there none in
    omega arith

weight-begun : (u : DataCommand → ℕ) (b : Bool) (sent : List Sent) (q : Sent) → weight_of u (cond b (sent ++ q ∷ []) sent) ≡ weight_of u sent + cond b (weigh u q) 0
weight-begun u true sent q = sum_by_push (weigh u) sent q
weight-begun u false sent q = omega arith

if_some : {X : Type 0} (P : X → Type 0) (x n : X) → P x → Some x ≡ Some n → P n
if_some P x n h e = let is : x ≡ n = cc in subst P is h

if_goes : (P : Next → Type 0) (b : Bool) (x n : Next) → P x → cond b (Some x) None ≡ Some n → P n
if_goes P true x n h e = if_some P x n h e
if_goes P false x n h e = cc

-- a fact of what is due next: of each first send and of each resend
by_next : (P : Next → Type 0) (g : Numbering) (occasion : Occasion) (s : Sender) (n : Next)
    → ((c : DataCommand) (rest : List DataCommand) → s.queued ≡ c ∷ rest → P (first_sent occasion.now occasion.timeout s c rest))
    → ((i : ℕ) (p : Sent) → slice_get s.sent i ≡ Some p → p.transmission.due ≡ true → P (resent occasion.now s i p))
    → next g occasion s ≡ Some n → P n
by_next P g occasion s n first again_ e = by_place (position (λ (p : Sent). p.transmission.due) s.sent) refl e
  where
    by_queue : (queued : List DataCommand) → s.queued ≡ queued → next_queued g occasion s queued ≡ Some n → P n
    by_queue [] is e = cc
    by_queue (c ∷ rest) is e = if_goes P (may_go g s.sent occasion c) (first_sent occasion.now occasion.timeout s c rest) n (first c rest is) e

    by_sent : (i : ℕ) (o : Option Sent) → position (λ (p : Sent). p.transmission.due) s.sent ≡ Some i → slice_get s.sent i ≡ o → next_resent occasion s i o ≡ Some n → P n
    by_sent i None found is e = cc
    by_sent i (Some p) found is e =
        let due : p.transmission.due ≡ true =
        sym (ap (λ (q : Sent). q.transmission.due) (get_or_from_slice_get s.sent i p p is)) ∙ (position-Some (λ (q : Sent). q.transmission.due) s.sent i p found).1 in
        if_goes P (has_room occasion p.command) (resent occasion.now s i p) n (again_ i p is due) e

    by_place : (o : Option ℕ) → position (λ (p : Sent). p.transmission.due) s.sent ≡ o → next_of g occasion s o ≡ Some n → P n
    by_place None found e = by_queue s.queued refl e
    by_place (Some i) found e = by_sent i (slice_get s.sent i) found refl e

weight-next : (u : DataCommand → ℕ) (added : Next → ℕ) (g : Numbering) (occasion : Occasion) (s : Sender) (n : Next)
    → ((c : DataCommand) (rest : List DataCommand) → added (first_sent occasion.now occasion.timeout s c rest) ≡ u c)
    → ((c : DataCommand) → c.reliable ≡ false → u c ≡ 0)
    → ((i : ℕ) (p : Sent) → added (resent occasion.now s i p) ≡ u p.command)
    → next g occasion s ≡ Some n → weight_of u n.sender.sent ≡ weight_of u s.sent + added n
weight-next u added g occasion s n first none again_ e =
    by_next (λ (m : Next). weight_of u m.sender.sent ≡ weight_of u s.sent + added m) g occasion s n
    (λ c rest is. weight-begun u c.reliable s.sent (begun occasion.now occasion.timeout c) ∙ ap (λ k. weight_of u s.sent + k) (only c.reliable c refl ∙ sym (first c rest)))
    (λ i p there due.
    weight-set u s.sent i p (again occasion.now p) there (ap (λ b. cond b 0 (u p.command)) due)
    ∙ ap (λ k. weight_of u s.sent + k) (sym (again_ i p))) e
  where
    only : (b : Bool) (c : DataCommand) → c.reliable ≡ b → cond b (u c) 0 ≡ u c
    only true c e = refl
    only false c e = sym (none c e)

pub transit-next : (g : Numbering) (occasion : Occasion) (s : Sender) (n : Next) → next g occasion s ≡ Some n → bytes_in_transit n.sender ≡ bytes_in_transit s + n.added
transit-next g occasion s n e = weight-next bytes_of (λ (m : Next). m.added) g occasion s n (λ c rest. refl) (λ c is. ap (λ b. cond b (length c.body) 0) is) (λ i p. refl) e

pub prices-next : (g : Numbering) (occasion : Occasion) (s : Sender) (n : Next) → next g occasion s ≡ Some n → prices_in_transit n.sender ≡ prices_in_transit s + n.price
prices-next g occasion s n e = weight-next price_of (λ (m : Next). m.price) g occasion s n (λ c rest. refl) (λ c is. ap (λ b. cond b (length c.body + cover) 0) is) (λ i p. refl) e

-- what leaves the transit
abbrev leaving : (Acknowledged → ℕ) → Option Acknowledged → ℕ
leaving f None = 0
leaving f (Some a) = cond a.due 0 (f a)

abbrev weight_at : (DataCommand → ℕ) → Option Sent → ℕ
weight_at u None = 0
weight_at u (Some p) = weigh u p

weight-remove : (u : DataCommand → ℕ) (sent : List Sent) (i : ℕ) → weight_of u (remove sent i) + weight_at u (slice_get sent i) ≡ weight_of u sent
weight-remove u [] zero = refl
weight-remove u [] (suc i) = refl
weight-remove u (x ∷ sent) zero = let e = sum_by-cons (weigh u) x sent in omega arith
weight-remove u (x ∷ sent) (suc i) =
    let e = sum_by-cons (weigh u) x sent in
    let f = sum_by-cons (weigh u) x (remove sent i) in
    let h = weight-remove u sent i in
    omega arith

weight-acknowledged : (u : DataCommand → ℕ) (f : Acknowledged → ℕ) (s : Sender) (number time : ℕ) → ((p : Sent) → f (told_of time p) ≡ u p.command)
    → weight_of u (after_match s number (acknowledged s number time)).sent + leaving f (acknowledged s number time) ≡ weight_of u s.sent
weight-acknowledged u f s number time same = by_place (position_of number s.sent) refl
  where
    Leaves : Option Acknowledged → Type 0
    Leaves o = weight_of u (after_match s number o).sent + leaving f o ≡ weight_of u s.sent

    -- the command at a place goes where it was sent at the time
    by_sent : (i : ℕ) (o : Option Sent) → position_of number s.sent ≡ Some i → slice_get s.sent i ≡ o → Leaves (matching time o)
    by_sent i None place there = omega arith
    by_sent i (Some p) place there = by (went_at time p.transmission)
      where
        by : (b : Bool) → Leaves (cond b (Some (told_of time p)) None)
        by false = omega arith
        by true =
            ap (λ (k : ℕ). weight_of u (without_place s.sent (position_of number s.sent)) + cond p.transmission.due 0 k) (same p)
            ∙ ap (λ (o : Option ℕ). weight_of u (without_place s.sent o) + weigh u p) place
            ∙ ap (λ (o : Option Sent). weight_of u (remove s.sent i) + weight_at u o) (sym there) ∙ weight-remove u s.sent i

    by_place : (o : Option ℕ) → position_of number s.sent ≡ o → Leaves (acknowledged s number time)
    by_place None e = subst Leaves (sym (ap (matching_at time s.sent) e)) (omega arith)
    by_place (Some i) e = subst Leaves (sym (ap (matching_at time s.sent) e)) (by_sent i (slice_get s.sent i) e refl)

pub transit-acknowledged : (s : Sender) (number time : ℕ) → bytes_in_transit (after_match s number (acknowledged s number time)) + bytes_leaving (acknowledged s number time) ≡ bytes_in_transit s
transit-acknowledged s number time = weight-acknowledged bytes_of (λ (a : Acknowledged). a.bytes) s number time (λ p. refl)

pub prices-acknowledged : (s : Sender) (number time : ℕ) → prices_in_transit (after_match s number (acknowledged s number time)) + price_leaving (acknowledged s number time) ≡ prices_in_transit s
prices-acknowledged s number time = weight-acknowledged price_of (λ (a : Acknowledged). a.price) s number time (λ p. refl)

-- what is late of a command
abbrev late_weight : (DataCommand → ℕ) → Tick → Sent → ℕ
late_weight u tick p = cond (is_late tick.now p) (u p.command) 0

-- it leaves the transit as it is marked
weight-marked : (u : DataCommand → ℕ) (tick : Tick) (p : Sent) → weigh u (marked tick p) + late_weight u tick p ≡ weigh u p
weight-marked u tick p = by (is_late tick.now p) refl p.transmission.due refl
  where
    weight : ℕ
    weight = u p.command

    made : Transmission
    made = record p.transmission { timeout = next_time tick p.transmission; due = true }

    by : (late : Bool) → is_late tick.now p ≡ late → (due : Bool) → p.transmission.due ≡ due → weigh u (marked tick p) + late_weight u tick p ≡ weigh u p
    by false early due is =
        let same : weigh u (marked tick p) ≡ weigh u p = ap (weigh u) (marked-by tick p early) in
        let none : late_weight u tick p ≡ 0 = ap (λ b. cond b weight 0) early in
        omega arith
    by true late true is = absurd (let early = due-not_late tick.now p is in cc)
    by true late false is =
        let gone : weigh u (marked tick p) ≡ 0 = ap (λ b. cond (cond b made p.transmission).due 0 weight) late in
        let all : late_weight u tick p ≡ weight = ap (λ b. cond b weight 0) late in
        let was : weigh u p ≡ weight = ap (λ b. cond b 0 weight) is in
        omega arith

weight-all_marked : (u : DataCommand → ℕ) (tick : Tick) (sent : List Sent) → weight_of u (map (marked tick) sent) + sum_by (late_weight u tick) sent ≡ weight_of u sent
weight-all_marked u tick [] = refl
weight-all_marked u tick (p ∷ sent) =
    let e = sum_by-cons (weigh u) p sent in
    let f = sum_by-cons (weigh u) (marked tick p) (map (marked tick) sent) in
    let g = sum_by-cons (late_weight u tick) p sent in
    let h = weight-all_marked u tick sent in
    let here = weight-marked u tick p in
    omega arith

pub transit-marked : (tick : Tick) (s : Sender) → bytes_in_transit (with_marked tick s) + sum_by (late_bytes tick) s.sent ≡ bytes_in_transit s
transit-marked tick s = weight-all_marked bytes_of tick s.sent

pub prices-marked : (tick : Tick) (s : Sender) → prices_in_transit (with_marked tick s) + sum_by (late_price tick) s.sent ≡ prices_in_transit s
prices-marked tick s = weight-all_marked price_of tick s.sent

-- what was lost is late
lost-le : (tick : Tick) (p : Sent) → lost_price tick p ≤ late_price tick p
lost-le tick p = by (is_late tick.now p) (is_heard_since tick p.transmission)
  where
    by : (late heard : Bool) → cond (late && heard) (price_of p.command) 0 ≤ cond late (price_of p.command) 0
    by false heard = omega arith
    by true false = omega arith
    by true true = omega arith

all-lost_le : (tick : Tick) (sent : List Sent) → sum_by (lost_price tick) sent ≤ sum_by (late_price tick) sent
all-lost_le tick [] = omega arith
all-lost_le tick (p ∷ sent) =
    let e = sum_by-cons (lost_price tick) p sent in
    let f = sum_by-cons (late_price tick) p sent in
    let h = all-lost_le tick sent in
    let here = lost-le tick p in
    omega arith

pub prices-lost : (tick : Tick) (s : Sender) → sum_by (lost_price tick) s.sent ≤ sum_by (late_price tick) s.sent
prices-lost tick s = all-lost_le tick s.sent

-- whether a reliable command is left, by the counts
abbrev is_left : ℕ → ℕ → Bool
is_left reliable sent = ltb 0 reliable || ltb 0 sent

left_is : (s : Sender) → (left s).reliable ≡ is_left (reliable_in s.queued) (length s.sent)
left_is s = ap (λ b. b || ltb 0 (length s.sent)) (found_by_count s.queued)

left-begun : (b : Bool) (sent : List Sent) (q : Sent) (count : ℕ) → is_left count (length (cond b (sent ++ q ∷ []) sent)) ≡ is_left (cond b 1 0 + count) (length sent)
left-begun true sent q count = last (ltb 0 count) ∙ sym (head (length sent))
  where
    last : (b : Bool) → (b || ltb 0 (length (sent ++ q ∷ []))) ≡ true
    last true = refl
    last false = let e = length-append sent (q ∷ []) in lt-ltb 0 (length (sent ++ q ∷ [])) (omega arith)

    head : (n : ℕ) → is_left (1 + count) n ≡ true
    head n = let e : ltb 0 (1 + count) ≡ true = lt-ltb 0 (1 + count) (omega arith) in ap (λ b. b || ltb 0 n) e
left-begun false sent q count = let e : count ≡ 0 + count = omega arith in ap (λ k. is_left k (length sent)) e

pub left-next : (g : Numbering) (occasion : Occasion) (s : Sender) (n : Next) → next g occasion s ≡ Some n → (left n.sender).reliable ≡ (left s).reliable
left-next g occasion s n e =
    by_next (λ (m : Next). (left m.sender).reliable ≡ (left s).reliable) g occasion s n
    (λ c rest is. left_is (first_sent occasion.now occasion.timeout s c rest).sender ∙ left-begun c.reliable s.sent (begun occasion.now occasion.timeout c) (reliable_in rest)
    ∙ ap (λ k. is_left k (length s.sent)) (sym (counted-head s.queued c rest is)) ∙ sym (left_is s))
    (λ i p there due. ap (λ k. is_some (position (λ (c : DataCommand). c.reliable) s.queued) || ltb 0 k) (length-set s.sent i (again occasion.now p))) e

pub left-marked : (tick : Tick) (s : Sender) → left (with_marked tick s) ≡ left s
left-marked tick s = ap (λ k. left_by s k) (length-map s.sent (marked tick))
  where
    left_by : Sender → ℕ → Left
    left_by s k = record { packets = ltb 0 (length s.queued); reliable = is_some (position (λ (c : DataCommand). c.reliable) s.queued) || ltb 0 k }

counted-skip : (queued : List DataCommand) → reliable_in (skipped queued) ≡ reliable_in queued
counted-skip [] = refl
counted-skip (c ∷ queued) = by c.reliable (is_after_first c.fragment) (counted-skip queued) (counted-head (c ∷ queued) c queued refl)
  where
    by : (b d : Bool) → reliable_in (skipped queued) ≡ reliable_in queued → reliable_in (c ∷ queued) ≡ cond b 1 0 + reliable_in queued
        → reliable_in (cond (not b && d) (skipped queued) (c ∷ queued)) ≡ reliable_in (c ∷ queued)
    by true d so_far head = refl
    by false true so_far head = omega arith
    by false false so_far head = refl

pub left-skipped : (s : Sender) → (left (with_skipped s)).reliable ≡ (left s).reliable
left-skipped s = left_is (with_skipped s) ∙ ap (λ k. is_left k (length s.sent)) (counted-skip s.queued) ∙ sym (left_is s)
