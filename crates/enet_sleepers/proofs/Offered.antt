-- Where an offer is to go.
use Rattle.std.proofs.Common.{◌≡◌, ℕ, ◌+◌, ◌<◌, ◌≤◌, inl, inr, Bool, true, false, ◌&&◌, nat_lt, cond, ltb, Some, None, List, length, get_or, sym, ap, subst, ◌∙◌, arith}
use Rattle.std.specs.List.{position, position_or_len}
use Rattle.std.proofs.lemmas.Bool.{lt-ltb, le-ltb, cases_lt}
use Rattle.std.proofs.lemmas.List.{get_or-map, get_or_past}
use Rattle.std.proofs.lemmas.List.Sums.{position_or_len_is}
use Rattle.std.proofs.lemmas.List.Folds.{list_any_at}
use Rattle.std.proofs.lemmas.Option.{slice_get-get_or, get_or_from_slice_get}
use Rattle.enet_codec.specs.declared.address.Addr.{Addr}
use Rattle.enet_deadlines.specs.Sets.{IsIn, IsOut}
use Rattle.enet_slot.specs.declared.slot.Slot.{Slot}
use Rattle.enet_slot.specs.Slot.{SlotState}
use Rattle.enet_slot.specs.Giving.{unused_slot, is_vacant, is_available}
use Rattle.enet_slot.specs.Receiving.{is_connection}
use Rattle.enet_slot.specs.declared.all.Seat.TheVariants.{Known}
use Rattle.enet_slot.specs.Seating.{IsSeat}
use Rattle.enet_slot.specs.Slotted.{shown, all_shown}
use Rattle.enet_sleepers.specs.Sleeping.{Noted, KeepsSleepers}
use Rattle.enet_sleepers.specs.Private.Seating.{KnownAt}
use Rattle.enet_sleepers.specs.Private.Sleepers.{NoneOf}
use Rattle.enet_sleepers.proofs.Dueness.{in-or-out}

-- the first of all slots that can be given out
first-at : (generations : ℕ) (slots : List SlotState) (i : ℕ) → i < length slots → is_available generations (get_or slots i unused_slot) ≡ true
    → ((k : ℕ) → k < i → is_available generations (get_or slots k unused_slot) ≡ false) → position (is_available generations) slots ≡ Some i
first-at generations slots i inside here before =
    let p = is_available generations in
    let is : position_or_len p slots ≡ i = position_or_len_is p slots i unused_slot (omega (arith, inside)) before (λ within. here) in
    ap (λ n. cond (ltb n (length slots)) (Some n) None) is ∙ ap (λ b. cond b (Some i) None) (lt-ltb i (length slots) inside)

pub first-none : (generations : ℕ) (slots : List SlotState) (place : ℕ) → length slots ≤ place → ((k : ℕ) → k < place → is_available generations (get_or slots k unused_slot) ≡ false)
    → position (is_available generations) slots ≡ None
first-none generations slots place past before =
    let p = is_available generations in
    let n = length slots in
    let is : position_or_len p slots ≡ n = position_or_len_is p slots n unused_slot (omega arith) (λ k low. before k (omega (arith, low, past))) (λ within. absurd (omega (arith, within))) in
    ap (λ m. cond (ltb m n) (Some m) None) is ∙ ap (λ b. cond b (Some n) None) (le-ltb n n (omega arith))

-- what a slot shows
pub shown-at : (xs : List Slot) (i : ℕ) (x : Slot) → i < length xs → x ≡ get_or xs i x → get_or (all_shown xs) i unused_slot ≡ shown x
shown-at xs i x inside read = get_or-map shown xs i x unused_slot inside ∙ sym (ap shown read)

-- those of a set up to one more
pub none-first : (generations : ℕ) (slots : List SlotState) (set : List Bool) → NoneOf generations slots set 0
none-first generations slots set = λ i low is. absurd (omega (arith, low))

pub none-passed : (generations from to : ℕ) (slots : List SlotState) (set : List Bool) → ((i : ℕ) → from ≤ i → i < to → IsOut set i) → NoneOf generations slots set from → NoneOf generations slots set to
none-passed generations from to slots set out none = λ i low is. elim (cases_lt i from) [
  | inl less ↦ none i less is
  | inr past ↦ let x : false ≡ true = sym (out i past low) ∙ is in absurd (cc)
]

pub none-more : (generations place : ℕ) (slots : List SlotState) (set : List Bool) (s : SlotState) → get_or slots place unused_slot ≡ s → is_available generations s ≡ false
    → NoneOf generations slots set place → NoneOf generations slots set (place + 1)
none-more generations place slots set s is taken none = λ i low inside. elim (cases_lt i place) [
  | inl less ↦ none i less inside
  | inr past ↦
      let same : i ≡ place = omega (arith, low, past) in
      ap (λ (j : ℕ). is_available generations (get_or slots j unused_slot)) same ∙ ap (is_available generations) is ∙ taken
]

vacant-only : (generations : ℕ) (s : SlotState) → is_vacant s.peer ≡ false → is_available generations s ≡ false
vacant-only generations s e = ap (λ (b : Bool). b && nat_lt s.generation generations) e

-- of all slots none before this one can be given out
pub none-at-all : (generations now first last : ℕ) (v : Noted) (slots : List SlotState) → KeepsSleepers now v slots → first ≤ last → last ≤ length slots → NoneOf generations slots v.free last
    → NoneOf generations slots v.awake first → (i : ℕ) → i < first → is_available generations (get_or slots i unused_slot) ≡ false
none-at-all generations now first last v slots k within inside free awake = λ i low. elim (in-or-out (get_or v.awake i false)) [
  | inl is ↦ awake i low is
  | inr out ↦ elim (k.asleep i (get_or slots i unused_slot) (slice_get-get_or slots i unused_slot (omega (arith, low, within, inside))) out) [
    | inl f ↦ free i (omega (arith, low, within)) f.listed
    | inr h ↦ vacant-only generations (get_or slots i unused_slot) h.held
  ]
]

-- it was found
pub found : (generations first last : ℕ) (slots : List SlotState) → first ≤ last → first < length slots
    → (first < last → is_available generations (get_or slots first unused_slot) ≡ true) → (last < length slots → is_available generations (get_or slots last unused_slot) ≡ true)
    → ((i : ℕ) → i < first → is_available generations (get_or slots i unused_slot) ≡ false) → position (is_available generations) slots ≡ Some first
found generations first last slots within inside awake free none =
    first-at generations slots first inside (elim (cases_lt first last) [
      | inl less ↦ awake less
      | inr past ↦
          let same : first ≡ last = omega (arith, past, within) in
          subst (λ (j : ℕ). is_available generations (get_or slots j unused_slot) ≡ true) (sym same) (free (omega (arith, inside, same)))
    ]) none

-- none of a set is known
pub nowhere-passed : (from : Addr) (word place to : ℕ) (slots : List SlotState) (set : List Bool) → ((i : ℕ) → place ≤ i → i < to → IsOut set i)
    → ((i : ℕ) → i < place → IsIn set i → is_connection from word (get_or slots i unused_slot) ≡ false)
    → (i : ℕ) → i < to → IsIn set i → is_connection from word (get_or slots i unused_slot) ≡ false
nowhere-passed from word place to slots set out none = λ i low is. elim (cases_lt i place) [
  | inl less ↦ none i less is
  | inr past ↦ let x : false ≡ true = sym (out i past low) ∙ is in absurd (cc)
]

pub nowhere-more : (from : Addr) (word place : ℕ) (slots : List SlotState) (set : List Bool) (s : SlotState) → get_or slots place unused_slot ≡ s → is_connection from word s ≡ false
    → ((i : ℕ) → i < place → IsIn set i → is_connection from word (get_or slots i unused_slot) ≡ false)
    → (i : ℕ) → i < place + 1 → IsIn set i → is_connection from word (get_or slots i unused_slot) ≡ false
nowhere-more from word place slots set s is other none = λ i low inside. elim (cases_lt i place) [
  | inl less ↦ none i less inside
  | inr past ↦
      let same : i ≡ place = omega (arith, low, past) in
      ap (λ (j : ℕ). is_connection from word (get_or slots j unused_slot)) same ∙ ap (is_connection from word) is ∙ other
]

-- one that is known is there
pub known-named : (from : Addr) (word number : ℕ) (slots : List SlotState) → is_connection from word (get_or slots number unused_slot) ≡ true → KnownAt from word slots number
known-named from word number slots is = elim (cases_lt number (length slots)) [
  | inl inside ↦ (inside, is)
  | inr past ↦ let x : false ≡ true = sym (ap (is_connection from word) (get_or_past slots number unused_slot past)) ∙ is in absurd (cc)
]

-- where it is known an offer is to go there
pub seat-known : (from : Addr) (word generations i : ℕ) (slots : List SlotState) → KnownAt from word slots i → IsSeat from word generations slots (Known i)
seat-known from word generations i slots known =
    let p = is_connection from word in
    (list_any_at p slots i unused_slot known.0 known.1, known.0, λ s there. ap p (sym (get_or_from_slice_get slots i s unused_slot there)) ∙ known.1)
