-- The peers of an IP address that began by a CONNECT are in its row.
use Rattle.std.proofs.Common.{◌≡◌, ℕ, zero, suc, ◌+◌, ◌-◌, ◌*◌, ◌<◌, ◌≤◌, inl, inr, ◌⊎◌, Bool, true, false, ◌==◌, ◌&&◌, leb, cond, Option, Some, None, List, length, take, slice_get, get_or, refl, sym, ap, subst, ◌∙◌, arith}
use Rattle.std.specs.List.{count_by}
use Rattle.std.proofs.lemmas.Bool.{cases_lt}
use Rattle.std.proofs.lemmas.Bool.Decides.{nat_tests}
use Rattle.std.proofs.lemmas.List.{take_all}
use Rattle.std.proofs.lemmas.List.Sums.{count_by_more_no, count_by_more_yes}
use Rattle.std.proofs.lemmas.Option.{slice_get-get_or, slice_get_within, get_or_from_slice_get}
use Rattle.enet_deadlines.specs.Sets.{IsIn, IsOut}
use Rattle.enet_peer.specs.Peering.{Peering}
use Rattle.enet_slot.specs.Giving.{unused_slot}
use Rattle.enet_slot.specs.Slot.{SlotState}
use Rattle.enet_slot.specs.Yielding.{age, is_guest_in, is_guest_of, longest_of, oldest_of, yields, yields_to}
use Rattle.enet_sleepers.specs.Places.{row_of}
use Rattle.enet_sleepers.specs.Seating.{Seating, KeepsSeats}
use Rattle.enet_sleepers.specs.Private.Guests.{IsOldestBefore, Passes}
use Rattle.enet_sleepers.proofs.Dueness.{in-or-out}
use Rattle.enet_sleepers.proofs.Found.{both, same-number}
use Rattle.enet_sleepers.proofs.Waited.{both-false, longest-least, longest-most, position-at, position-none, younger}

-- a slot that is not in the row of an IP address holds no such peer
no-guest : (v : Seating) (slots : List SlotState) (ip first i : ℕ) → KeepsSeats v slots → first ≡ row_of v.key ip * length v.others → i < length slots → IsOut v.rows (first + i) → is_guest_of ip (get_or slots i unused_slot) ≡ false
no-guest v slots ip first i k at inside out = by (in-or-out (is_guest_of ip s))
  where
    s : SlotState
    s = get_or slots i unused_slot

    there : slice_get slots i ≡ Some s
    there = slice_get-get_or slots i unused_slot inside

    held : (o : Option Peering) → s.peer ≡ o → is_guest_of ip s ≡ true → is_guest_of ip s ≡ false
    held None e is = ap (λ (o : Option Peering). is_guest_in ip s o) e
    held (Some p) e is =
        let said : is_guest_in ip s (Some p) ≡ true = subst (λ (o : Option Peering). is_guest_in ip s o ≡ true) e is in
        let same : s.address.ip ≡ ip = same-number s.address.ip ip (both p.is_server (s.address.ip == ip) said).1 in
        let listed : IsIn v.rows (row_of v.key ip * length v.others + i) = subst (λ (x : ℕ). IsIn v.rows (row_of v.key x * length v.others + i)) same (k.seated i s p there e).found.1 in
        absurd (let x : true ≡ false = sym listed ∙ ap (λ (f : ℕ). get_or v.rows (f + i) false) (sym at) ∙ out in cc)

    by : (is_guest_of ip s ≡ true) ⊎ (is_guest_of ip s ≡ false) → is_guest_of ip s ≡ false
    by (inl is) = held s.peer refl is
    by (inr other) = other

-- nor do those that a search passed over
pub passed-none : (v : Seating) (slots : List SlotState) (ip first count from next : ℕ) → KeepsSeats v slots → first ≡ row_of v.key ip * length v.others → count ≡ length slots → Passes v.rows first count from next
    → (i : ℕ) → from ≤ i → i < next → is_guest_of ip (get_or slots i unused_slot) ≡ false
passed-none v slots ip first count from next k at all p i past low = no-guest v slots ip first i k at (let within : next ≤ count = p.within in omega (arith, low, within, all)) (p.out i past low)

-- ---- they are counted

steps : (p : SlotState → Bool) (slots : List SlotState) (from n : ℕ) → from + n ≤ length slots → ((i : ℕ) → from ≤ i → i < from + n → p (get_or slots i unused_slot) ≡ false)
    → count_by p (take (from + n) slots) ≡ count_by p (take from slots)
steps p slots from zero within none = ap (λ (m : ℕ). count_by p (take m slots)) (let e : from + zero ≡ from = omega arith in e)
steps p slots from (suc n) within none =
    ap (λ (m : ℕ). count_by p (take m slots)) (let e : from + suc n ≡ (from + n) + 1 = omega arith in e)
    ∙ count_by_more_no p slots (from + n) unused_slot (omega (arith, within)) (none (from + n) (omega arith) (omega arith))
    ∙ steps p slots from n (omega (arith, within)) (λ i past low. none i past (omega (arith, low)))

pub count-passed : (p : SlotState → Bool) (slots : List SlotState) (from next count : ℕ) → from ≤ next → next ≤ length slots → ((i : ℕ) → from ≤ i → i < next → p (get_or slots i unused_slot) ≡ false)
    → count ≡ count_by p (take from slots) → count ≡ count_by p (take next slots)
count-passed p slots from next count past within none counted =
    let e : from + (next - from) ≡ next = omega (arith, past) in
    counted
    ∙ sym (steps p slots from (next - from) (omega (arith, e, within)) (λ i behind low. none i behind (omega (arith, low, e))))
    ∙ ap (λ (m : ℕ). count_by p (take m slots)) e

pub count-one : (p : SlotState → Bool) (slots : List SlotState) (i count one : ℕ) → i < length slots → one ≡ cond (p (get_or slots i unused_slot)) 1 0 → count ≡ count_by p (take i slots) → count + one ≡ count_by p (take (i + 1) slots)
count-one p slots i count one inside is counted = elim (in-or-out (p (get_or slots i unused_slot))) [
  | inl yes' ↦
      let more : count_by p (take (i + 1) slots) ≡ count_by p (take i slots) + 1 = count_by_more_yes p slots i unused_slot inside yes' in
      let added : one ≡ 1 = is ∙ ap (λ (b : Bool). cond b 1 0) yes' in
      omega (arith, more, added, counted)
  | inr no' ↦
      let more : count_by p (take (i + 1) slots) ≡ count_by p (take i slots) = count_by_more_no p slots i unused_slot inside no' in
      let added : one ≡ 0 = is ∙ ap (λ (b : Bool). cond b 1 0) no' in
      omega (arith, more, added, counted)
]

pub count-all : (p : SlotState → Bool) (slots : List SlotState) (end count : ℕ) → length slots ≤ end → count ≡ count_by p (take end slots) → count ≡ count_by p slots
count-all p slots end count past counted = counted ∙ ap (λ (xs : List SlotState). count_by p xs) (take_all end slots past)

-- ---- and the one that has been there longest is found

-- what a test of slots and their ages say by number
abbrev pub waits_at : (SlotState → Bool) → List SlotState → ℕ → Bool
waits_at waits slots i = waits (get_or slots i unused_slot)

abbrev pub age_at : ℕ → List SlotState → ℕ → ℕ
age_at now slots i = age now (get_or slots i unused_slot)

pub oldest-passed : (waits : ℕ → Bool) (ages : ℕ → ℕ) (from next : ℕ) (oldest : Option (ℕ × ℕ)) → from ≤ next → ((i : ℕ) → from ≤ i → i < next → waits i ≡ false)
    → IsOldestBefore waits ages from oldest → IsOldestBefore waits ages next oldest
oldest-passed waits ages from next None past none before = λ i low. elim (cases_lt i from) [
  | inl less ↦ before i less
  | inr behind ↦ none i behind low
]
oldest-passed waits ages from next (Some found) past none before = (
  let low = before.0 in omega (arith, low, past),
  before.1,
  before.2,
  λ i low is. elim (cases_lt i from) [
    | inl less ↦ before.3 i less is
    | inr behind ↦ absurd (let x : true ≡ false = sym is ∙ none i behind low in cc)
  ],
  before.4,
)

pub yields-none : (ip generations : ℕ) (s : SlotState) → is_guest_of ip s ≡ false → yields_to ip generations s ≡ false
yields-none ip generations s none = ap (λ (b : Bool). b && yields generations s) none

pub oldest-none : (waits : SlotState → Bool) (now : ℕ) (slots : List SlotState) (end : ℕ) → length slots ≤ end → IsOldestBefore (waits_at waits slots) (age_at now slots) end None → oldest_of waits now slots ≡ None
oldest-none waits now slots end past before =
    position-none (λ (s : SlotState). waits s && leb (longest_of waits now slots) (age now s)) slots (λ i inside.
    both-false (waits (get_or slots i unused_slot)) (leb (longest_of waits now slots) (age now (get_or slots i unused_slot))) (λ is.
    absurd (let x : true ≡ false = sym is ∙ before i (omega (arith, inside, past)) in cc)))

pub oldest-some : (waits : SlotState → Bool) (now : ℕ) (slots : List SlotState) (end : ℕ) (found : ℕ × ℕ) → length slots ≤ end → found.0 < length slots → IsOldestBefore (waits_at waits slots) (age_at now slots) end (Some found)
    → oldest_of waits now slots ≡ Some found.0
oldest-some waits now slots end found past inside before =
    position-at (λ (s : SlotState). waits s && leb (longest_of waits now slots) (age now s)) slots found.0 inside here first
  where
    s : SlotState
    s = get_or slots found.0 unused_slot

    there : slice_get slots found.0 ≡ Some s
    there = slice_get-get_or slots found.0 unused_slot inside

    own : age now s ≡ found.1
    own = before.2

    most : longest_of waits now slots ≤ age now s
    most = longest-most waits now (age now s) slots (λ i t at is.
        let read : get_or slots i unused_slot ≡ t = get_or_from_slice_get slots i t unused_slot at in
        let low = slice_get_within slots i t at in
        let waits' : waits (get_or slots i unused_slot) ≡ true = ap waits read ∙ is in
        let least : age now (get_or slots i unused_slot) ≤ found.1 = before.3 i (omega (arith, low, past)) waits' in
        let same : age now (get_or slots i unused_slot) ≡ age now t = ap (age now) read in
        let mine = own in
        omega (arith, least, same, mine))

    here : (waits s && leb (longest_of waits now slots) (age now s)) ≡ true
    here = ap (λ (b : Bool). b && leb (longest_of waits now slots) (age now s)) before.1 ∙ (let m = most in grind (arith, nat_tests, m))

    first : (i : ℕ) → i < found.0 → (waits (get_or slots i unused_slot) && leb (longest_of waits now slots) (age now (get_or slots i unused_slot))) ≡ false
    first i low = both-false (waits (get_or slots i unused_slot)) (leb (longest_of waits now slots) (age now (get_or slots i unused_slot))) (λ is.
        let later : age now (get_or slots i unused_slot) < found.1 = before.4 i low is in
        let long : age now s ≤ longest_of waits now slots = longest-least waits now slots found.0 s there before.1 in
        let mine = own in
        younger (longest_of waits now slots) (age now (get_or slots i unused_slot)) (omega (arith, later, long, mine)))
