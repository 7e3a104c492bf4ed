-- Slots that are asked one after another.
use Rattle.std.proofs.Common.{◌≡◌, ◌≢◌, ℕ, ◌+◌, ◌<◌, ◌≤◌, inl, inr, Bool, true, false, nat_eq, Some, List, length, slice_get, slice_set, get_or, refl, sym, ap, subst, ◌∙◌, arith}
use Rattle.std.proofs.lemmas.Bool.{cases_lt}
use Rattle.std.proofs.lemmas.Bool.Decides.{nat_tests}
use Rattle.std.proofs.lemmas.List.{get_or-set_same, length-set}
use Rattle.std.proofs.lemmas.Option.{slice_get_within, slice_get_read, slice_get-get_or}
use Rattle.enet_codec.specs.declared.event.PeerRef.{PeerRef}
use Rattle.enet_slot.specs.Slot.{SlotState, name_of}
use Rattle.enet_host.specs.Turns.{turn_of, IsFirst, HoldsNowhere}
use Rattle.enet_slot.specs.Emitting.{Passes, PeerEmits}
use Rattle.enet_slot.specs.Calls.{tells}
use Rattle.enet_slot.proofs.Waiting.{passes-waiting, mute-waiting}
use Rattle.enet_sleepers.specs.Sleeping.{Noted, KeepsSleepers}
use Rattle.enet_sleepers.proofs.Keeping.{some-same, get-set-other, sleeps-waits}
use Rattle.enet_host.specs.Private.Sleeping.{PassesTurns}
use Rattle.enet_host.specs.Serving.{Served, InTurn, EmitsInTurn, AllPass}
use Rattle.enet_host.specs.Private.Shown.{SlotEmits, SlotPasses}
use Rattle.enet_host.proofs.Turning.{turn-below, same-turn}

-- reading a list in which one element was replaced
pub get-set-same : (xs : List SlotState) (i : ℕ) (y : SlotState) → i < length xs → slice_get (slice_set xs i y) i ≡ Some y
get-set-same xs i y inside =
    slice_get_read (slice_set xs i y) (length xs) i y (sym (length-set xs i y)) inside (sym (get_or-set_same xs i y y inside))

-- what became of a slot of this turn once so many were asked
pub record Asked (now turn asked : ℕ) (s t : SlotState) : Type 0 where
  pub before : turn < asked → Passes now s t
  pub after : asked ≤ turn → t ≡ s

-- after so many turns
abbrev pub AllAsked : ℕ → ℕ → ℕ → ℕ → List SlotState → List SlotState → Type 0
AllAsked now n from asked old new = (i : ℕ) (s t : SlotState) → slice_get old i ≡ Some s → slice_get new i ≡ Some t → Asked now (turn_of n from i) asked s t

pub none-asked : (now n from : ℕ) (old new : List SlotState) → new ≡ old → AllAsked now n from 0 old new
none-asked now n from old new same = λ i s t a b.
    record {
      before = λ less. absurd (omega (arith, less));
      after = λ past. some-same (slice_get old i) t s (subst (λ (ss : List SlotState). slice_get ss i ≡ Some t) same b) a;
    }

asked-more : (now n from k i number : ℕ) (old new after : List SlotState) (s t slot left : SlotState) → from < n → length old ≡ n → number < n
    → turn_of n from number ≡ k → AllAsked now n from k old new → slice_get new number ≡ Some slot → Passes now slot left → number < length new
    → after ≡ slice_set new number left → slice_get old i ≡ Some s → slice_get after i ≡ Some t → (b : Bool) → nat_eq i number ≡ b
    → Asked now (turn_of n from i) (k + 1) s t
asked-more now n from k i number old new after s t slot left f count inside place asked there passes within is a b true e =
    let same : i ≡ number = grind (arith, nat_tests, e) in
    let turn : turn_of n from i ≡ k = subst (λ (j : ℕ). turn_of n from j ≡ k) (sym same) place in
    let there_too : slice_get new i ≡ Some slot = subst (λ (j : ℕ). slice_get new j ≡ Some slot) (sym same) there in
    let was : slot ≡ s = (asked i s slot a there_too).after (omega (arith, turn)) in
    let here : slice_get (slice_set new number left) i ≡ Some t = subst (λ (ss : List SlotState). slice_get ss i ≡ Some t) is b in
    let put : slice_get (slice_set new number left) i ≡ Some left = subst (λ (j : ℕ). slice_get (slice_set new number left) j ≡ Some left) (sym same) (get-set-same new number left within) in
    let now_is : left ≡ t = some-same (slice_get (slice_set new number left) i) left t put here in
    record {
      before = λ less. subst (λ (u : SlotState). Passes now u t) was (subst (λ (u : SlotState). Passes now slot u) now_is passes);
      after = λ past. absurd (omega (arith, past, turn));
    }
asked-more now n from k i number old new after s t slot left f count inside place asked there passes within is a b false e =
    let other : i ≢ number = λ same. absurd (grind (arith, nat_tests, e, same)) in
    let i_inside : i < n = subst (λ (m : ℕ). i < m) count (slice_get_within old i s a) in
    let b_before : slice_get new i ≡ Some t = get-set-other new number i left t other (subst (λ (ss : List SlotState). slice_get ss i ≡ Some t) is b) in
    let before = asked i s t a b_before in
    let apart : turn_of n from i ≢ k = λ same. other (same-turn n from i number f i_inside inside (same ∙ sym place)) in
    record {
      before = λ less. before.before (omega (arith, less, apart));
      after = λ past. before.after (omega (arith, past));
    }

pub all-asked-more : (now n from k number : ℕ) (old new after : List SlotState) → from < n → length old ≡ n → number < n → turn_of n from number ≡ k
    → AllAsked now n from k old new → SlotPasses now new number after → AllAsked now n from (k + 1) old after
all-asked-more now n from k number old new after f count inside place asked p = λ i s t a b.
    asked-more now n from k i number old new after s t p.slot p.left f count inside place asked p.there p.passes (slice_get_within new number p.slot p.there) p.after a b
    (nat_eq i number) refl

-- those that sleep are as good as asked
pub all-passed : (now n from k m : ℕ) (v : Noted) (old new : List SlotState) → length old ≡ n → KeepsSleepers now v new → PassesTurns v.awake n from k m → k ≤ m
    → AllAsked now n from k old new → AllAsked now n from m old new
all-passed now n from k m v old new count kept passes more asked = λ i s t a b.
    let inside : i < n = subst (λ (c : ℕ). i < c) count (slice_get_within old i s a) in
    record {
      before = λ less. elim (cases_lt (turn_of n from i) k) [
        | inl earlier ↦ (asked i s t a b).before earlier
        | inr later ↦ subst (λ (u : SlotState). Passes now u t) ((asked i s t a b).after later) (passes-waiting now t (sleeps-waits v i t (kept.asleep i t b (passes i inside later less))))
      ];
      after = λ past. (asked i s t a b).after (omega (arith, past, more));
    }

pub all-pass : (now n from k : ℕ) (old new : List SlotState) → from < n → length old ≡ n → length new ≡ length old → n ≤ k → AllAsked now n from k old new → AllPass now old new
all-pass now n from k old new f count same past asked = record {
  slots = λ i s t a b.
      let inside : i < n = subst (λ (m : ℕ). i < m) count (slice_get_within old i s a) in
      let below = turn-below n from i f inside in
      (asked i s t a b).before (omega (arith, below));
  count = same;
}

in-turn : (now n from k i number : ℕ) (gave : Served) (old new after : List SlotState) (s t slot left : SlotState) → from < n → length old ≡ n → number < n
    → turn_of n from number ≡ k → AllAsked now n from k old new → slice_get new number ≡ Some slot → PeerEmits now gave.len gave.buf slot left → gave.name.slot ≡ number → number < length new
    → after ≡ slice_set new number left → slice_get old i ≡ Some s → slice_get after i ≡ Some t → (b : Bool) → nat_eq i number ≡ b
    → InTurn (record { now = now; turn = turn_of n from; gave = gave }) i s t
in-turn now n from k i number gave old new after s t slot left f count inside place asked there gives slot_is within is a b true e =
    let same : i ≡ number = grind (arith, nat_tests, e) in
    let turn : turn_of n from i ≡ turn_of n from number = ap (λ (j : ℕ). turn_of n from j) same in
    let given : turn_of n from gave.name.slot ≡ turn_of n from number = ap (λ (j : ℕ). turn_of n from j) slot_is in
    let there_too : slice_get new i ≡ Some slot = subst (λ (j : ℕ). slice_get new j ≡ Some slot) (sym same) there in
    let was : slot ≡ s = (asked i s slot a there_too).after (omega (arith, turn, place)) in
    let here : slice_get (slice_set new number left) i ≡ Some t = subst (λ (ss : List SlotState). slice_get ss i ≡ Some t) is b in
    let put : slice_get (slice_set new number left) i ≡ Some left = subst (λ (j : ℕ). slice_get (slice_set new number left) j ≡ Some left) (sym same) (get-set-same new number left within) in
    let now_is : left ≡ t = some-same (slice_get (slice_set new number left) i) left t put here in
    record {
      before = λ less. absurd (omega (arith, less, turn, given));
      here = λ at. subst (λ (u : SlotState). PeerEmits now gave.len gave.buf u t) was (subst (λ (u : SlotState). PeerEmits now gave.len gave.buf slot u) now_is gives);
      after = λ past. absurd (omega (arith, past, turn, given));
    }
in-turn now n from k i number gave old new after s t slot left f count inside place asked there gives slot_is within is a b false e =
    let other : i ≢ number = λ same. absurd (grind (arith, nat_tests, e, same)) in
    let given : turn_of n from gave.name.slot ≡ turn_of n from number = ap (λ (j : ℕ). turn_of n from j) slot_is in
    let b_before : slice_get new i ≡ Some t = get-set-other new number i left t other (subst (λ (ss : List SlotState). slice_get ss i ≡ Some t) is b) in
    let before = asked i s t a b_before in
    record {
      before = λ less. before.before (omega (arith, less, place, given));
      here = λ at. absurd (other (at ∙ slot_is));
      after = λ past. before.after (omega (arith, past, place, given));
    }

-- slot `number` gave a datagram after k turns
pub gives-in-turn : (now n from k number : ℕ) (gave : Served) (old new after : List SlotState) → from < n → length old ≡ n → number < n → turn_of n from number ≡ k
    → AllAsked now n from k old new → length after ≡ length old → SlotEmits now new number gave after → slice_get old number ≡ slice_get new number → gave.name.slot ≡ number
    → EmitsInTurn now from old gave after
gives-in-turn now n from k number gave old new after f count inside place asked same g unchanged slot_is = record {
  slot = g.slot;
  there = subst (λ (j : ℕ). slice_get old j ≡ Some g.slot) (sym slot_is) (unchanged ∙ g.there);
  named = g.named ∙ ap (λ (j : ℕ). record { slot = j; generation = g.slot.generation }) (sym slot_is);
  addressed = g.addressed;
  slots = λ i s t a b.
      subst (λ (m : ℕ). InTurn (record { now = now; turn = turn_of m from; gave = gave }) i s t) (sym count)
      (in-turn now n from k i number gave old new after s t g.slot g.left f count inside place asked g.there g.gives slot_is (slice_get_within new number g.slot g.there) g.after a b
      (nat_eq i number) refl);
  count = same;
}

-- a slot whose turn has not come is as it was
pub still-there : (now n from k number : ℕ) (old new : List SlotState) (slot : SlotState) → length old ≡ n → number < n → turn_of n from number ≡ k
    → AllAsked now n from k old new → slice_get new number ≡ Some slot → slice_get old number ≡ slice_get new number
still-there now n from k number old new slot count inside place asked there =
    let inside_old : number < length old = subst (λ (m : ℕ). number < m) (sym count) inside in
    let a : slice_get old number ≡ Some (get_or old number slot) = slice_get-get_or old number slot inside_old in
    let same : slot ≡ get_or old number slot = (asked number (get_or old number slot) slot a there).after (omega (arith, place)) in
    a ∙ ap (λ (s : SlotState). Some s) (sym same) ∙ sym there

-- looking for the first in turn
abbrev pub NoneBefore : (SlotState → Bool) → List SlotState → ℕ → ℕ → ℕ → Type 0
NoneBefore holds slots n from k = (j : ℕ) (s : SlotState) → slice_get slots j ≡ Some s → turn_of n from j < k → holds s ≡ false

none-more-by : (holds : SlotState → Bool) (slots : List SlotState) (n from k number j : ℕ) (slot s : SlotState) → from < n → length slots ≡ n → number < n
    → turn_of n from number ≡ k → NoneBefore holds slots n from k → slice_get slots number ≡ Some slot → holds slot ≡ false
    → slice_get slots j ≡ Some s → turn_of n from j < k + 1 → (b : Bool) → nat_eq j number ≡ b → holds s ≡ false
none-more-by holds slots n from k number j slot s f count inside place none there not a less true e =
    let same : j ≡ number = grind (arith, nat_tests, e) in
    let is : slot ≡ s = some-same (slice_get slots number) slot s there (subst (λ (m : ℕ). slice_get slots m ≡ Some s) same a) in
    subst (λ (u : SlotState). holds u ≡ false) is not
none-more-by holds slots n from k number j slot s f count inside place none there not a less false e =
    let other : j ≢ number = λ same. absurd (grind (arith, nat_tests, e, same)) in
    let j_inside : j < n = subst (λ (m : ℕ). j < m) count (slice_get_within slots j s a) in
    let apart : turn_of n from j ≢ k = λ same. other (same-turn n from j number f j_inside inside (same ∙ sym place)) in
    none j s a (omega (arith, less, apart))

pub none-more : (holds : SlotState → Bool) (slots : List SlotState) (n from k number : ℕ) (slot : SlotState) → from < n → length slots ≡ n → number < n
    → turn_of n from number ≡ k → NoneBefore holds slots n from k → slice_get slots number ≡ Some slot → holds slot ≡ false → NoneBefore holds slots n from (k + 1)
none-more holds slots n from k number slot f count inside place none there not = λ j s a less.
    none-more-by holds slots n from k number j slot s f count inside place none there not a less (nat_eq j number) refl

-- those that sleep have no event
pub none-passed : (slots : List SlotState) (clock n from k m : ℕ) (v : Noted) → length slots ≡ n → KeepsSleepers clock v slots → PassesTurns v.awake n from k m
    → NoneBefore tells slots n from k → NoneBefore tells slots n from m
none-passed slots clock n from k m v count kept passes none = λ j s a less.
    let inside : j < n = subst (λ (c : ℕ). j < c) count (slice_get_within slots j s a) in
    elim (cases_lt (turn_of n from j) k) [ inl earlier ↦ none j s a earlier | inr later ↦ mute-waiting s (sleeps-waits v j s (kept.asleep j s a (passes j inside later less))) ]

pub none-at-all : (holds : SlotState → Bool) (slots : List SlotState) (n from k : ℕ) → from < n → length slots ≡ n → n ≤ k → NoneBefore holds slots n from k
    → HoldsNowhere holds slots
none-at-all holds slots n from k f count past none = λ j s a.
    let inside : j < n = subst (λ (m : ℕ). j < m) count (slice_get_within slots j s a) in
    let below = turn-below n from j f inside in
    none j s a (omega (arith, below))

pub is-first : (holds : SlotState → Bool) (slots : List SlotState) (n from k number : ℕ) (slot : SlotState) → length slots ≡ n → turn_of n from number ≡ k
    → NoneBefore holds slots n from k → slice_get slots number ≡ Some slot → holds slot ≡ true → IsFirst holds slots from number
is-first holds slots n from k number slot count place none there here = record {
  slot = slot;
  there = there;
  here = here;
  before = λ j s a less.
      let less_here : turn_of n from j < turn_of n from number = subst (λ (m : ℕ). turn_of m from j < turn_of m from number) count less in
      none j s a (omega (arith, less_here, place));
}

pub name-slot : (name : PeerRef) (number : ℕ) (s : SlotState) → name ≡ name_of number s → name.slot ≡ number
name-slot name number s e = ap (λ (n : PeerRef). n.slot) e
