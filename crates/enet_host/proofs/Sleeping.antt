-- Slots that sleep are passed over, and one that is awake may change.
use Rattle.std.proofs.Common.{◌≡◌, ℕ, ◌+◌, ◌-◌, ◌<◌, ◌≤◌, ◌⊎◌, inl, inr, Bool, true, false, List, length, slice_set, get_or, refl, sym, subst, ◌∙◌, arith}
use Rattle.std.proofs.lemmas.Bool.{cases_lt}
use Rattle.std.proofs.lemmas.List.{get_or_past}
use Rattle.enet_codec.specs.declared.event.Event.{Event}
use Rattle.enet_deadlines.specs.Sets.{IsIn, IsOut}
use Rattle.enet_slot.specs.declared.slot.Slot.{Slot}
use Rattle.enet_slot.specs.Slot.{SlotState}
use Rattle.enet_slot.specs.Calls.{tells}
use Rattle.enet_slot.specs.Slotted.{shown, all_shown}
use Rattle.enet_slot.proofs.Shown.{set-shown}
use Rattle.enet_slot.proofs.Waiting.{mute-waiting}
use Rattle.enet_sleepers.specs.Sleeping.{Noted, KeepsSleepers}
use Rattle.enet_sleepers.proofs.Keeping.{keeps-set, sleeps-waits}
use Rattle.enet_host.specs.Turns.{turn_of, IsFirst}
use Rattle.enet_host.specs.Serving.{Served}
use Rattle.enet_host.specs.Private.Shown.{SlotEmits, SlotPasses, SlotGivesEvent}
use Rattle.enet_host.specs.Private.Sleeping.{PassesTurns, AwakeAt}
use Rattle.enet_host.proofs.Turning.{turn-split, same-turn}

-- a slot that is awake is there
pub in-inside : (set : List Bool) (i : ℕ) → IsIn set i → i < length set
in-inside set i is = elim (cases_lt i (length set)) [ inl inside ↦ inside | inr past ↦ let x : false ≡ true = sym (get_or_past set i false past) ∙ is in absurd (cc) ]

pub awake-inside : (now i : ℕ) (v : Noted) (slots : List SlotState) → KeepsSleepers now v slots → IsIn v.awake i → i < length slots
awake-inside now i v slots k is = omega (arith, in-inside v.awake i is, k.count)

pub in-or-out : (b : Bool) → (b ≡ true) ⊎ (b ≡ false)
in-or-out true = inl refl
in-or-out false = inr refl

pub keeps-at : (now i : ℕ) (v : Noted) (xs : List Slot) (y : Slot) → (i < length (all_shown xs) → IsIn v.awake i) → KeepsSleepers now v (all_shown xs) → KeepsSleepers now v (all_shown (slice_set xs i y))
keeps-at now i v xs y awake k = subst (KeepsSleepers now v) (sym (set-shown xs i y)) (keeps-set now i v (all_shown xs) (shown y) awake k)

-- one that was woken may change
pub woken-awake : (now i number : ℕ) (v w : Noted) (slots : List SlotState) → number ≡ i → KeepsSleepers now v slots → (number < length v.awake → IsIn w.awake number) → i < length slots → IsIn w.awake i
woken-awake now i number v w slots same k awake inside = subst (IsIn w.awake) same (awake (omega (arith, same, inside, k.count)))

pub keeps-woken-at : (now i : ℕ) (v w : Noted) (xs : List Slot) (y : Slot) → KeepsSleepers now v (all_shown xs)
    → ((n : ℕ) (slots : List SlotState) → KeepsSleepers n v slots → KeepsSleepers n w slots) → (i < length v.awake → IsIn w.awake i) → KeepsSleepers now w (all_shown (slice_set xs i y))
keeps-woken-at now i v w xs y k woken awake = keeps-at now i w xs y (woken-awake now i i v w (all_shown xs) refl k awake) (woken now (all_shown xs) k)

pub keeps-passes : (clock now i : ℕ) (v : Noted) (old new : List SlotState) → KeepsSleepers clock v old → IsIn v.awake i → SlotPasses now old i new → KeepsSleepers clock v new
keeps-passes clock now i v old new k awake p = subst (KeepsSleepers clock v) (sym p.after) (keeps-set clock i v old p.left (λ inside. awake) k)

pub keeps-gives : (clock now i : ℕ) (gave : Served) (v : Noted) (old new : List SlotState) → KeepsSleepers clock v old → IsIn v.awake i → SlotEmits now old i gave new → KeepsSleepers clock v new
keeps-gives clock now i gave v old new k awake g = subst (KeepsSleepers clock v) (sym g.after) (keeps-set clock i v old g.left (λ inside. awake) k)

pub keeps-gives-event : (clock i : ℕ) (event : Event) (v : Noted) (old new : List SlotState) → KeepsSleepers clock v old → IsIn v.awake i → SlotGivesEvent old i event new → KeepsSleepers clock v new
keeps-gives-event clock i event v old new k awake g = subst (KeepsSleepers clock v) (sym g.after) (keeps-set clock i v old g.left (λ inside. awake) k)

-- a slot that has an event is awake
pub teller-awake : (clock i from : ℕ) (v : Noted) (slots : List SlotState) → KeepsSleepers clock v slots → IsFirst tells slots from i → IsIn v.awake i
teller-awake clock i from v slots k first = elim (in-or-out (get_or v.awake i false)) [
  | inl awake ↦ awake
  | inr out ↦
      let mute : true ≡ false = sym first.here ∙ mute-waiting first.slot (sleeps-waits v i first.slot (k.asleep i first.slot first.there out)) in
      absurd (cc)
]

-- The next slot that is awake, in turn: before the end of the slots
early-by : (n from turn place i : ℕ) (awake : List Bool) → ((i < from) × (turn_of n from i ≡ n - from + i)) ⊎ ((from ≤ i) × (turn_of n from i ≡ i - from)) → from < n → i < n
    → ((j : ℕ) → from + turn ≤ j → j < place → IsOut awake j) → place < n → turn ≤ turn_of n from i → turn_of n from i < place - from → IsOut awake i
early-by n from turn place i awake (inl h) f inside out low past less = absurd (omega (arith, h.0, h.1, f, low, past, less))
early-by n from turn place i awake (inr h) f inside out low past less = out i (omega (arith, h.0, h.1, past)) (omega (arith, h.0, h.1, less))

pub passes-early : (n from turn place : ℕ) (awake : List Bool) → from < n → ((j : ℕ) → from + turn ≤ j → j < place → IsOut awake j) → place < n → PassesTurns awake n from turn (place - from)
passes-early n from turn place awake f out low = λ i inside past less. early-by n from turn place i awake (turn-split n from i) f inside out low past less

-- after it
late-by : (n from turn last i : ℕ) (awake : List Bool) → ((i < from) × (turn_of n from i ≡ n - from + i)) ⊎ ((from ≤ i) × (turn_of n from i ≡ i - from)) → from < n → i < n
    → ((j : ℕ) → from + turn ≤ j → j < n → IsOut awake j) → ((j : ℕ) → turn - (n - from) ≤ j → n - from + j < last → j < from → IsOut awake j)
    → turn ≤ turn_of n from i → turn_of n from i < last → IsOut awake i
late-by n from turn last i awake (inl h) f inside early out past less = out i (omega (arith, h.1, past)) (omega (arith, h.1, less)) h.0
late-by n from turn last i awake (inr h) f inside early out past less = early i (omega (arith, h.0, h.1, past)) inside

pub passes-late : (n from turn last : ℕ) (awake : List Bool) → from < n → ((j : ℕ) → from + turn ≤ j → j < n → IsOut awake j)
    → ((j : ℕ) → turn - (n - from) ≤ j → n - from + j < last → j < from → IsOut awake j) → PassesTurns awake n from turn last
passes-late n from turn last awake f early out = λ i inside past less. late-by n from turn last i awake (turn-split n from i) f inside early out past less

-- the slot of this turn is awake
pub awake-at : (n from turn number : ℕ) (awake : List Bool) → from < n → number < n → turn_of n from number ≡ turn → IsIn awake number → AwakeAt awake n from turn
awake-at n from turn number awake f inside place is = λ i i_inside at.
    subst (IsIn awake) (sym (same-turn n from i number f i_inside inside (at ∙ sym place))) is
