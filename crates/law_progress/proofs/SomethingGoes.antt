-- Where a reliable command is queued and nothing waits for its acknowledgement, a datagram goes out: no limit holds it back.
use Rattle.std.proofs.Common.{◌≡◌, ◌≢◌, ℕ, zero, suc, ◌+◌, ◌-◌, ◌*◌, ◌/◌, ◌%◌, ◌<◌, ◌≤◌, ◌&&◌, ◌||◌, not, leb, ltb, eqb, max, Bool, true, false, cond, List, [], ◌∷◌, length, map, refl, ap, subst, ◌∙◌, inl, inr, ◌⊎◌, arith, Some, None, div-add-mod', mod-lt}
use Rattle.std.proofs.lemmas.Bool.Decides.{nat_tests}
use Rattle.std.proofs.lemmas.List.Sums.{sum_by-cons}
use Rattle.std.proofs.lemmas.Nat.{mod-mul-add}
use Rattle.std.specs.Prelude.{sum_by}
use Rattle.std.specs.List.{position, prefix_len, slice_get, slice_set, range_with_len}
use Rattle.enet_seq.specs.Numbering.{wire}
use Rattle.enet_fragment.specs.declared.data.DataCommand.{DataCommand}
use Rattle.enet_sender.specs.declared.sent.Sent.{Sent}
use Rattle.enet_sender.specs.declared.outgoing.Occasion.{Occasion}
use Rattle.enet_sender.specs.Sender.{Sender, next, next_of, next_queued, next_resent, first_sent, resent, may_go, has_room, bytes_of, price_of, is_more, skipped}
use Rattle.enet_sender.specs.Due.{SendingEnd}
use Rattle.enet_outbox.specs.declared.parts.Pace.{Pace}
use Rattle.enet_outbox.specs.Allowance.{limit}
use Rattle.enet_outbox.specs.Outbox.{Outbox, transit_of, prices_of}
use Rattle.enet_outbox.specs.Emission.{transit_limit, price_limit, occasion}
use Rattle.enet_receiver.specs.Members.{Has}
use Rattle.law_progress.specs.Outboxes.{AreQuiet}
use Rattle.law_progress.proofs.Filling.{le-leb}

-- all that was sent is due to go again
abbrev pub AreDue : List Sent → Type 0
AreDue sent = (t : Sent) → Has sent t → t.transmission.due ≡ true

abbrev pub AllDue : List SendingEnd → Type 0
AllDue senders = (i : ℕ) (s : SendingEnd) → slice_get senders i ≡ Some s → AreDue s.sender.sent

pub quiet-due : (senders : List SendingEnd) → AreQuiet senders → AllDue senders
quiet-due senders quiet i s there t h = absurd (subst (λ (l : List Sent). Has l t) (quiet i s there) h)

-- so no bytes are in transit, whatever each weighs
pub none-weighs : (weight : DataCommand → ℕ) (sent : List Sent) → AreDue sent → sum_by (λ (p : Sent). cond p.transmission.due 0 (weight p.command)) sent ≡ 0
none-weighs weight [] due = refl
none-weighs weight (p ∷ ps) due =
    let own : cond p.transmission.due 0 (weight p.command) ≡ 0 = ap (λ b. cond b 0 (weight p.command)) (due p (inl refl)) in
    let others = none-weighs weight ps (λ t h. due t (inr h)) in
    let both = sum_by-cons (λ (q : Sent). cond q.transmission.due 0 (weight q.command)) p ps in
    omega arith

none-weighs-over : (weight : DataCommand → ℕ) (senders : List SendingEnd) → AllDue senders → sum_by (λ (s : SendingEnd). sum_by (λ (p : Sent). cond p.transmission.due 0 (weight p.command)) s.sender.sent) senders ≡ 0
none-weighs-over weight [] due = refl
none-weighs-over weight (s ∷ rest) due =
    let own = none-weighs weight s.sender.sent (due 0 s refl) in
    let others = none-weighs-over weight rest (λ i x t. due (suc i) x t) in
    let both = sum_by-cons (λ (x : SendingEnd). sum_by (λ (p : Sent). cond p.transmission.due 0 (weight p.command)) x.sender.sent) s rest in
    omega arith

pub no-transit : (o : Outbox) → AllDue o.senders → transit_of o ≡ 0
no-transit o due = none-weighs-over bytes_of o.senders due

pub no-prices : (o : Outbox) → AllDue o.senders → prices_of o ≡ 0
no-prices o due = none-weighs-over price_of o.senders due

-- there is room for a command, where there is for its whole body
pub room-for : (o : Occasion) (c : DataCommand) → o.transit + length c.body ≤ o.most → o.prices + (length c.body + 28) ≤ o.dearest → has_room o c ≡ true
room-for o c small cheap = by c.reliable
  where
    by : (b : Bool) → (leb (o.transit + cond b (length c.body) 0) o.most && leb (o.prices + cond b (length c.body + 28) 0) o.dearest) ≡ true
    by true = (λ i. le-leb (o.transit + length c.body) o.most small i && le-leb (o.prices + (length c.body + 28)) o.dearest cheap i)
    by false = (λ i. le-leb (o.transit + 0) o.most (omega arith) i && le-leb (o.prices + 0) o.dearest (omega arith) i)

-- so it is for each that fits a datagram, where nothing is in transit
pub room-alone : (pace : Pace) (i : ℕ) (o : Outbox) (c : DataCommand) → AllDue o.senders → length c.body + 28 ≤ pace.mtu → has_room (occasion pace i o) c ≡ true
room-alone pace i o c due short =
    let transit = no-transit o due in
    let prices = no-prices o due in
    let most : pace.mtu ≤ transit_limit pace o = at_least (o.throttle.limit * pace.window / 32) pace.mtu in
    let dearest : pace.mtu ≤ price_limit pace o = at_least (limit o.allowance) pace.mtu in
    room-for (occasion pace i o) c (omega arith) (omega arith)
  where
    at_least : (a b : ℕ) → b ≤ max a b
    at_least a b = grind (arith, nat_tests)

-- so the first that was sent goes again
pub first-due : (o : Occasion) (s : Sender) (p : Sent) (ps : List Sent) → s.sent ≡ p ∷ ps → p.transmission.due ≡ true → has_room o p.command ≡ true → next wire o s ≡ Some (resent o.now s 0 p)
first-due o s p ps sent due free =
    let place : position (λ (q : Sent). q.transmission.due) s.sent ≡ Some 0 = ap (position (λ (q : Sent). q.transmission.due)) sent ∙ first_place in
    ap (next_of wire o s) place ∙ ap (λ (l : List Sent). next_resent o s 0 (slice_get l 0)) sent ∙ ap (λ b. cond b (Some (resent o.now s 0 p)) None) free
  where
    some_place : (n : ℕ) → ltb 0 (suc n) ≡ true
    some_place n = grind (arith, nat_tests)

    first_place : position (λ (q : Sent). q.transmission.due) (p ∷ ps) ≡ Some 0
    first_place =
        (λ i. let k : ℕ = cond (not (due i)) (1 + prefix_len (λ (q : Sent). not q.transmission.due) ps) 0 in cond (ltb k (suc (length ps))) (Some k) None)
        ∙ ap (λ c. cond c (Some 0) None) (some_place (length ps))

-- and the head of each queue may go, where nothing waits for its acknowledgement, and the room is kept for no other channel
pub head-due : (o : Occasion) (s : Sender) (c : DataCommand) (rest : List DataCommand) → s.sent ≡ [] → s.queued ≡ c ∷ rest → o.barred ≡ false → has_room o c ≡ true
    → next wire o s ≡ Some (first_sent o.now o.timeout s c rest)
head-due o s c rest none queued open' free =
    let may : may_go wire s.sent o c ≡ true = ap (λ l. may_go wire l o c) none ∙ (λ i. not c.reliable || (true && (not (open' i) && free i))) ∙ or_true (not c.reliable) in
    ap (λ (l : List Sent). next_of wire o s (position (λ (p : Sent). p.transmission.due) l)) none
    ∙ ap (next_queued wire o s) queued
    ∙ ap (λ b. cond b (Some (first_sent o.now o.timeout s c rest)) None) may
  where
    or_true : (b : Bool) → (b || true) ≡ true
    or_true true = refl
    or_true false = refl

pub none-due : (o : Occasion) (s : Sender) → s.sent ≡ [] → s.queued ≡ [] → next wire o s ≡ None
none-due o s none queued = ap (λ (l : List Sent). next_of wire o s (position (λ (p : Sent). p.transmission.due) l)) none ∙ ap (next_queued wire o s) queued

-- lists in which one place was set
pub get-set : {X : Type 0} (xs : List X) (i j : ℕ) (x y : X) → slice_get (slice_set xs i x) j ≡ Some y → ((i ≡ j) × (x ≡ y)) ⊎ ((i ≢ j) × (slice_get xs j ≡ Some y))
get-set [] i j x y e = absurd (cc)
get-set (z ∷ zs) zero zero x y e = inl (refl, (cc))
get-set (z ∷ zs) zero (suc j) x y e = inr ((λ f. absurd (omega arith)), e)
get-set (z ∷ zs) (suc i) zero x y e = inr ((λ f. absurd (omega arith)), e)
get-set (z ∷ zs) (suc i) (suc j) x y e = elim (get-set zs i j x y e) [
  | inl w ↦ inl (ap suc w.0, w.1)
  | inr w ↦ inr ((λ f. w.0 (omega arith)), w.1)
]

pub set-other : {X : Type 0} (xs : List X) (i j : ℕ) (x y : X) → i ≢ j → slice_get xs j ≡ Some y → slice_get (slice_set xs i x) j ≡ Some y
set-other [] i j x y apart e = absurd (cc)
set-other (z ∷ zs) zero zero x y apart e = absurd (apart refl)
set-other (z ∷ zs) zero (suc j) x y apart e = e
set-other (z ∷ zs) (suc i) zero x y apart e = e
set-other (z ∷ zs) (suc i) (suc j) x y apart e = set-other zs i j x y (λ f. apart (ap suc f)) e

pub set-same : {X : Type 0} (xs : List X) (i : ℕ) (x y : X) → slice_get xs i ≡ Some y → slice_get (slice_set xs i x) i ≡ Some x
set-same [] i x y e = absurd (cc)
set-same (z ∷ zs) zero x y e = refl
set-same (z ∷ zs) (suc i) x y e = set-same zs i x y e

pub same-number : (i j : ℕ) → (i ≡ j) ⊎ (i ≢ j)
same-number i j = elim (eqb i j) as (λ b. eqb i j ≡ b → (i ≡ j) ⊎ (i ≢ j)) [ true ↦ λ t. inl (is i j t) | false ↦ λ t. inr (isnt i j t) ] refl
  where
    is : (m n : ℕ) → eqb m n ≡ true → m ≡ n
    is m n t = grind (arith, nat_tests)

    isnt : (m n : ℕ) → eqb m n ≡ false → m ≢ n
    isnt m n t = grind (arith, nat_tests)

-- what is skipped is unreliable
pub Has-skipped : (cs : List DataCommand) (c : DataCommand) → Has (skipped cs) c → Has cs c
Has-skipped [] c h = absurd h
Has-skipped (x ∷ cs) c h = elim (is_more x) as (λ b. Has (cond b (skipped cs) (x ∷ cs)) c → Has (x ∷ cs) c) [
  | true ↦ λ k. inr (Has-skipped cs c k)
  | false ↦ λ k. k
] h

pub skips-unreliable : (cs : List DataCommand) (c : DataCommand) → Has cs c → c.reliable ≡ true → Has (skipped cs) c
skips-unreliable [] c h r = absurd h
skips-unreliable (x ∷ cs) c h r = elim (is_more x) as (λ b. is_more x ≡ b → Has (cond b (skipped cs) (x ∷ cs)) c) [
  | true ↦ λ t. later h t (λ k. skips-unreliable cs c k r)
  | false ↦ λ t. h
] refl
  where
    not_more : (b x' : Bool) → b ≡ true → (not b && x') ≡ true → ⊥
    not_more true x' e t = cc
    not_more false x' e t = cc

    later : Has (x ∷ cs) c → is_more x ≡ true → (Has cs c → Has (skipped cs) c) → Has (skipped cs) c
    later (inl e) t rest = absurd (not_more x.reliable _ (ap (λ (y : DataCommand). y.reliable) e ∙ r) t)
    later (inr k) t rest = rest k

pub skipped-length : (cs : List DataCommand) → length (skipped cs) ≤ length cs
skipped-length [] = omega arith
skipped-length (x ∷ cs) =
    let rest = skipped-length cs in
    elim (is_more x) as (λ b. length (cond b (skipped cs) (x ∷ cs)) ≤ suc (length cs)) [ true ↦ omega arith | false ↦ omega arith ]

-- each channel has its turn
Has-range : (from n k : ℕ) → from ≤ k → k < from + n → Has (range_with_len from n) k
Has-range from zero k low high = absurd (omega arith)
Has-range from (suc n) k low high = elim (same-number from k) [
  | inl same ↦ inl same
  | inr apart ↦ inr (Has-range (from + 1) n k (let z : from ≢ k = apart in (grind arith)) (omega arith))
]

Has-map : {X Y : Type 0} (f : X → Y) (xs : List X) (x : X) → Has xs x → Has (map f xs) (f x)
Has-map f [] x h = absurd h
Has-map f (y ∷ xs) x (inl e) = inl (ap f e)
Has-map f (y ∷ xs) x (inr h) = inr (Has-map f xs x h)

pub below-length : {X : Type 0} (xs : List X) (k : ℕ) (x : X) → slice_get xs k ≡ Some x → k < length xs
below-length [] k x e = absurd (cc)
below-length (y ∷ ys) zero x e = omega arith
below-length (y ∷ ys) (suc k) x e = let z = below-length ys k x e in omega arith

pub in-order : (base n k : ℕ) → k < n → Has (map (λ turn. (base + turn) % n) (range_with_len 0 n)) k
in-order base n k low = go (leb (base % n) k) refl
  where
    whole : base / n * n + base % n ≡ base
    whole = div-add-mod' base n

    inside : base % n < n
    inside = mod-lt base (let z : 0 < n = omega arith in z)

    found : (turn rows : ℕ) → turn < n → base + turn ≡ rows * n + k → Has (map (λ t. (base + t) % n) (range_with_len 0 n)) k
    found turn rows small e =
        let is : (base + turn) % n ≡ k = ap (λ j. j % n) e ∙ mod-mul-add rows n k low in
        subst (λ j. Has (map (λ t. (base + t) % n) (range_with_len 0 n)) j) is (Has-map (λ t. (base + t) % n) (range_with_len 0 n) turn (Has-range 0 n turn (omega arith) (omega arith)))

    up : (m j : ℕ) → leb m j ≡ true → m ≤ j
    up m j t = grind (arith, nat_tests)

    down : (m j : ℕ) → leb m j ≡ false → j < m
    down m j t = grind (arith, nat_tests)

    go : (b : Bool) → leb (base % n) k ≡ b → Has (map (λ t. (base + t) % n) (range_with_len 0 n)) k
    go true t = (let above = up (base % n) k t in let w = whole in found (k - base % n) (base / n) (omega arith) (omega arith))
    go false t = (let below = down (base % n) k t in let w = whole in let i = inside in found (k + n - base % n) (base / n + 1) (omega arith) (omega arith))
