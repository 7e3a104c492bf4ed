-- Of the peers that wait for their clients the one that has waited longest is found by the least moment that is noted.
use Rattle.std.proofs.Common.{◌≡◌, ℕ, zero, suc, ◌+◌, ◌-◌, ◌%◌, ◌^◌, ◌<◌, ◌≤◌, inl, inr, max, Bool, true, false, cond, leb, ltb, ◌&&◌, Option, Some, None, List, [], ◌∷◌, length, slice_get, slice_set, get_or, refl, sym, ap, subst, ◌∙◌, arith}
use Rattle.std.specs.List.{position, position_or_len}
use Rattle.std.proofs.lemmas.Bool.{lt-ltb, le-ltb, cases_eq}
use Rattle.std.proofs.lemmas.Bool.Decides.{nat_tests}
use Rattle.std.proofs.lemmas.List.{length-set}
use Rattle.std.proofs.lemmas.List.Sums.{position_or_len_is}
use Rattle.std.proofs.lemmas.Option.{slice_get-get_or, get_or_from_slice_get}
use Rattle.enet_rtt.specs.Clock.{elapsed_time}
use Rattle.enet_deadlines.specs.Moments.{IsAt}
use Rattle.enet_peer.specs.Peering.{Peering}
use Rattle.enet_slot.specs.Slot.{SlotState}
use Rattle.enet_slot.specs.Giving.{unused_slot}
use Rattle.enet_slot.specs.Yielding.{age, age_in, answers_in, longest, longest_of, oldest, yields}
use Rattle.enet_sleepers.specs.Unproved.{IsNoted, KeepsUnproved, Waiting, noted}
use Rattle.enet_sleepers.proofs.Keeping.{get-set-other}

-- how long a peer has been there, by the clock that doesn't wrap
age-is : (now clock moment made : ℕ) → clock % 2 ^ 32 ≡ now → moment % 2 ^ 32 ≡ made → moment ≤ clock → clock < moment + 2 ^ 32 → elapsed_time now made ≡ clock - moment
age-is now clock moment made shown told past near = omega arith

-- a slot that yields holds a peer
yields-peer : (s : SlotState) (o : Option Peering) (b : Bool) → s.peer ≡ o → (answers_in o && b) ≡ true → (p : Peering) × (s.peer ≡ Some p)
yields-peer s None b is e = absurd (let y : false ≡ true = e in cc)
yields-peer s (Some p) b is e = (p, is)

-- and is noted
noted-of : (now generations : ℕ) (v : Waiting) (slots : List SlotState) → KeepsUnproved now generations v slots → (i : ℕ) (s : SlotState) → slice_get slots i ≡ Some s → yields generations s ≡ true
    → (moment : ℕ) × IsAt v.since i moment × (moment ≤ v.clock) × (age now s ≡ v.clock - moment)
noted-of now generations v slots k i s there is =
    let held = yields-peer s s.peer (ltb (s.generation + 1) generations) refl is in
    let n : IsNoted v i held.0.made = k.noted i s held.0 there held.1 is in
    (n.moment, n.at, n.past, ap (λ (o : Option Peering). age_in now o) held.1 ∙ age-is now v.clock n.moment held.0.made k.shown n.shown n.past n.near)

same-moment : (v : Waiting) (i a b : ℕ) → IsAt v.since i a → IsAt v.since i b → a ≡ b
same-moment v i a b e f = (let x : ◌≡◌ {A = Option ℕ} (Some a) (Some b) = sym e ∙ f in cc)

-- the longest of all

pick-most : (b : Bool) (a n : ℕ) → (b ≡ true → a ≤ n) → cond b a 0 ≤ n
pick-most true a n h = h refl
pick-most false a n h = omega arith

pub longest-most : (waits : SlotState → Bool) (now n : ℕ) (slots : List SlotState) → ((i : ℕ) (s : SlotState) → slice_get slots i ≡ Some s → waits s ≡ true → age now s ≤ n) → longest_of waits now slots ≤ n
longest-most waits now n [] each = omega arith
longest-most waits now n (s ∷ slots) each =
    let first : cond (waits s) (age now s) 0 ≤ n = pick-most (waits s) (age now s) n (each 0 s refl) in
    let rest : longest_of waits now slots ≤ n = longest-most waits now n slots (λ i t there is. each (suc i) t there is) in
    lesser (cond (waits s) (age now s) 0) (longest_of waits now slots) first rest
  where
    lesser : (a b : ℕ) → a ≤ n → b ≤ n → max a b ≤ n
    lesser a b l r = omega arith

pub longest-least : (waits : SlotState → Bool) (now : ℕ) (slots : List SlotState) (i : ℕ) (s : SlotState) → slice_get slots i ≡ Some s → waits s ≡ true → age now s ≤ longest_of waits now slots
longest-least waits now [] i s there is = absurd (cc)
longest-least waits now (t ∷ slots) zero s there is =
    let same : t ≡ s = cc in
    let here : cond (waits t) (age now t) 0 ≡ age now s = ap (λ (x : SlotState). cond (waits x) (age now x) 0) same ∙ ap (λ (b : Bool). cond b (age now s) 0) is in
    greater (cond (waits t) (age now t) 0) (longest_of waits now slots) here
  where
    greater : (a b : ℕ) → a ≡ age now s → age now s ≤ max a b
    greater a b e = omega arith
longest-least waits now (t ∷ slots) (suc i) s there is =
    let rest : age now s ≤ longest_of waits now slots = longest-least waits now slots i s there is in
    greater (cond (waits t) (age now t) 0) (longest_of waits now slots) rest
  where
    greater : (a b : ℕ) → age now s ≤ b → age now s ≤ max a b
    greater a b l = omega arith

-- the first of which something holds
pub position-at : (p : SlotState → Bool) (slots : List SlotState) (i : ℕ) → i < length slots → p (get_or slots i unused_slot) ≡ true → ((k : ℕ) → k < i → p (get_or slots k unused_slot) ≡ false) → position p slots ≡ Some i
position-at p slots i inside here before =
    let is : position_or_len p slots ≡ i = position_or_len_is p slots i unused_slot (omega (arith, inside)) before (λ within. here) in
    ap (λ n. cond (ltb n (length slots)) (Some n) None) is ∙ ap (λ b. cond b (Some i) None) (lt-ltb i (length slots) inside)

pub position-none : (p : SlotState → Bool) (slots : List SlotState) → ((k : ℕ) → k < length slots → p (get_or slots k unused_slot) ≡ false) → position p slots ≡ None
position-none p slots before =
    let n = length slots in
    let is : position_or_len p slots ≡ n = position_or_len_is p slots n unused_slot (omega arith) (λ k low. before k low) (λ within. absurd (omega (arith, within))) in
    ap (λ m. cond (ltb m n) (Some m) None) is ∙ ap (λ b. cond b (Some n) None) (le-ltb n n (omega arith))

pub both-false : (a b : Bool) → (a ≡ true → b ≡ false) → (a && b) ≡ false
both-false true b h = h refl
both-false false b h = refl

-- one that was made later has been there less long than the longest
pub younger : (a b : ℕ) → b < a → leb a b ≡ false
younger a b l = grind (arith, nat_tests)

-- where the first place of the least moment yields, its peer is the oldest
pub oldest-found : (now generations : ℕ) (v : Waiting) (slots : List SlotState) (place moment : ℕ) → KeepsUnproved now generations v slots → place < length slots → IsAt v.since place moment
    → ((i m : ℕ) → IsAt v.since i m → moment ≤ m) → ((i m : ℕ) → i < place → IsAt v.since i m → moment < m) → yields generations (get_or slots place unused_slot) ≡ true
    → oldest now generations slots ≡ Some place
oldest-found now generations v slots place moment k inside at least first is =
    position-at (λ (s : SlotState). yields generations s && leb (longest now generations slots) (age now s)) slots place inside here before
  where
    s : SlotState
    s = get_or slots place unused_slot

    there : slice_get slots place ≡ Some s
    there = slice_get-get_or slots place unused_slot inside

    own : age now s ≡ v.clock - moment
    own = let n = noted-of now generations v slots k place s there is in n.3 ∙ ap (λ (m : ℕ). v.clock - m) (same-moment v place n.0 moment n.1 at)

    most : longest now generations slots ≤ age now s
    most = longest-most (yields generations) now (age now s) slots (λ i t at' yields'.
        let n = noted-of now generations v slots k i t at' yields' in
        let low : moment ≤ n.0 = least i n.0 n.1 in
        let mine = own in
        let past = n.2 in
        let its = n.3 in
        omega (arith, low, mine, past, its))

    here : (yields generations s && leb (longest now generations slots) (age now s)) ≡ true
    here = ap (λ (b : Bool). b && leb (longest now generations slots) (age now s)) is ∙ (let m = most in grind (arith, nat_tests, m))

    before : (i : ℕ) → i < place → (yields generations (get_or slots i unused_slot) && leb (longest now generations slots) (age now (get_or slots i unused_slot))) ≡ false
    before i low = both-false (yields generations (get_or slots i unused_slot)) (leb (longest now generations slots) (age now (get_or slots i unused_slot))) (λ yields'.
        let t : SlotState = get_or slots i unused_slot in
        let n = noted-of now generations v slots k i t (slice_get-get_or slots i unused_slot (omega (arith, low, inside))) yields' in
        let later : moment < n.0 = first i n.0 low n.1 in
        let long : age now s ≤ longest now generations slots = longest-least (yields generations) now slots place s there is in
        let past : n.0 ≤ v.clock = n.2 in
        let mine = own in
        let its = n.3 in
        younger (longest now generations slots) (age now t) (omega (arith, later, long, past, mine, its)))

-- where nothing is noted, none yields
pub oldest-nowhere : (now generations : ℕ) (v : Waiting) (slots : List SlotState) → KeepsUnproved now generations v slots → ((i : ℕ) → get_or v.since i None ≡ None) → oldest now generations slots ≡ None
oldest-nowhere now generations v slots k none =
    position-none (λ (s : SlotState). yields generations s && leb (longest now generations slots) (age now s)) slots (λ i inside.
    both-false (yields generations (get_or slots i unused_slot)) (leb (longest now generations slots) (age now (get_or slots i unused_slot))) (λ is.
    let n = noted-of now generations v slots k i (get_or slots i unused_slot) (slice_get-get_or slots i unused_slot inside) is in
    absurd (let x : ◌≡◌ {A = Option ℕ} None (Some n.0) = sym (none i) ∙ n.1 in cc)))

-- ---- what is noted stays true

pub moments-same : (xs : List (Option ℕ)) (i : ℕ) (y : Option ℕ) → i < length xs → get_or (slice_set xs i y) i None ≡ y
moments-same [] i y inside = absurd (omega (arith, inside))
moments-same (x ∷ xs) zero y inside = refl
moments-same (x ∷ xs) (suc i) y inside = moments-same xs i y (omega (arith, inside))

pub moments-other : (xs : List (Option ℕ)) (i j : ℕ) (y : Option ℕ) → (i ≡ j → ⊥) → get_or (slice_set xs i y) j None ≡ get_or xs j None
moments-other [] i j y other = refl
moments-other (x ∷ xs) zero zero y other = absurd (other refl)
moments-other (x ∷ xs) zero (suc j) y other = refl
moments-other (x ∷ xs) (suc i) zero y other = refl
moments-other (x ∷ xs) (suc i) (suc j) y other = moments-other xs i j y (λ e. other (ap suc e))

slot-set-same : (xs : List SlotState) (i : ℕ) (y t : SlotState) → slice_get (slice_set xs i y) i ≡ Some t → y ≡ t
slot-set-same [] i y t h = absurd (cc)
slot-set-same (x ∷ xs) zero y t h = cc
slot-set-same (x ∷ xs) (suc i) y t h = slot-set-same xs i y t h

-- slot i was given to a peer that was made now
pub noted-kept : (now generations : ℕ) (v : Waiting) (slots : List SlotState) (i : ℕ) (t : SlotState) → KeepsUnproved now generations v slots → i < length slots → ((p : Peering) → t.peer ≡ Some p → p.made ≡ now)
    → KeepsUnproved now generations (noted v i) (slice_set slots i t)
noted-kept now generations v slots i t k inside made = record {
  count = length-set v.since i (Some v.clock) ∙ k.count ∙ sym (length-set slots i t);
  shown = k.shown;
  noted = λ j s p there held is. elim (cases_eq i j) [
    | inl same ↦ here j s p same there held
    | inr other ↦
        let n = k.noted j s p (get-set-other slots i j t s (λ e. other (sym e)) there) held is in
        record { moment = n.moment; at = moments-other v.since i j (Some v.clock) other ∙ n.at; shown = n.shown; past = n.past; near = n.near }
  ];
}
  where
    here : (j : ℕ) (s : SlotState) (p : Peering) → i ≡ j → slice_get (slice_set slots i t) j ≡ Some s → s.peer ≡ Some p → IsNoted (noted v i) j p.made
    here j s p same there held =
        let is : t ≡ s = slot-set-same slots i t s (subst (λ (n : ℕ). slice_get (slice_set slots i t) n ≡ Some s) (sym same) there) in
        let now' : p.made ≡ now = made p (ap (λ (x : SlotState). x.peer) is ∙ held) in
        let few : i < length v.since = (let c = k.count in omega (arith, inside, c)) in
        subst (λ (n : ℕ). IsNoted (noted v i) n p.made) same
        (record { moment = v.clock; at = moments-same v.since i (Some v.clock) few; shown = k.shown ∙ sym now'; past = omega arith; near = omega arith })

-- by what happened to a slot it doesn't yield now where it didn't, nor to another peer
abbrev pub Calmer : ℕ → SlotState → SlotState → Type 0
Calmer generations s t = (p : Peering) → t.peer ≡ Some p → yields generations t ≡ true → (q : Peering) × (s.peer ≡ Some q) × (yields generations s ≡ true) × (p.made ≡ q.made)

abbrev pub AreCalmer : ℕ → List SlotState → List SlotState → Type 0
AreCalmer generations old new = (i : ℕ) (t : SlotState) → slice_get new i ≡ Some t → (s : SlotState) × (slice_get old i ≡ Some s) × Calmer generations s t

pub calmer-kept : (now generations : ℕ) (v : Waiting) (old new : List SlotState) → length new ≡ length old → AreCalmer generations old new → KeepsUnproved now generations v old → KeepsUnproved now generations v new
calmer-kept now generations v old new count calm k = record {
  count = k.count ∙ sym count;
  shown = k.shown;
  noted = λ i t p there held is.
      let was = calm i t there in
      let q = was.2 p held is in
      subst (λ (n : ℕ). IsNoted v i n) (sym q.3) (k.noted i was.0 q.0 was.1 q.1 q.2);
}

-- what is noted of a slot that doesn't yield may be forgotten
pub forgotten-kept : (now generations : ℕ) (v w : Waiting) (slots : List SlotState) (i : ℕ) → w ≡ record v { since = slice_set v.since i None } → yields generations (get_or slots i unused_slot) ≡ false
    → KeepsUnproved now generations v slots → KeepsUnproved now generations w slots
forgotten-kept now generations v w slots i e none k = subst (λ (x : Waiting). KeepsUnproved now generations x slots) (sym e) (record {
  count = length-set v.since i None ∙ k.count;
  shown = k.shown;
  noted = λ j s p there held is. elim (cases_eq i j) [
    | inl same ↦ absurd (
        let read : get_or slots j unused_slot ≡ s = get_or_from_slice_get slots j s unused_slot there in
        let y : true ≡ false = sym is ∙ ap (yields generations) (sym read) ∙ ap (λ (n : ℕ). yields generations (get_or slots n unused_slot)) (sym same) ∙ none in cc)
    | inr other ↦
        let n = k.noted j s p there held is in
        record { moment = n.moment; at = moments-other v.since i j None other ∙ n.at; shown = n.shown; past = n.past; near = n.near }
  ];
})

-- ---- how many are noted: one less, where one is forgotten

abbrev one_of : Option ℕ → ℕ
one_of None = 0
one_of (Some m) = 1

abbrev pub how_many : List (Option ℕ) → ℕ
how_many [] = 0
how_many (x ∷ xs) = one_of x + how_many xs

pub one-less : (xs : List (Option ℕ)) (i m : ℕ) → get_or xs i None ≡ Some m → how_many (slice_set xs i None) < how_many xs
one-less [] i m is = absurd (let y : ◌≡◌ {A = Option ℕ} None (Some m) = is in cc)
one-less (x ∷ xs) zero m is = (let e : one_of x ≡ 1 = ap one_of is in omega arith)
one-less (x ∷ xs) (suc i) m is = (let h = one-less xs i m is in omega (arith, h))
