-- When time brings the slots something first.
use Rattle.std.proofs.Common.{◌≡◌, ℕ, ◌+◌, ◌-◌, ◌%◌, ◌^◌, ◌<◌, ◌≤◌, ◌⊎◌, inl, inr, min, Bool, true, false, ◌&&◌, Option, Some, None, List, length, slice_get, get_or, refl, sym, ap, subst, ◌∙◌, arith}
use Rattle.std.specs.List.{list_any}
use Rattle.std.proofs.lemmas.Bool.{cases_eq, cases_lt, le-leb, leb-true}
use Rattle.std.proofs.lemmas.List.{get_or_past}
use Rattle.std.proofs.lemmas.List.Folds.{list_any_none, list_any_at}
use Rattle.std.proofs.lemmas.Option.{slice_get_within, slice_get-get_or}
use Rattle.enet_deadlines.specs.Clock.{TellsMoments}
use Rattle.enet_deadlines.specs.Moments.{IsAt}
use Rattle.enet_deadlines.specs.Sets.{IsOut}
use Rattle.enet_rtt.specs.Clock.{elapsed_time, HappensIn}
use Rattle.enet_slot.specs.Giving.{unused_slot}
use Rattle.enet_slot.specs.Slot.{SlotState, is_due, is_due_in}
use Rattle.enet_sleepers.specs.Sleeping.{Noted, Sleeps, KeepsSleepers}
use Rattle.enet_sleepers.specs.Soon.{is_soon, is_due_soon}
use Rattle.enet_sleepers.specs.Private.Soon.{HappensSoon, KnowsDue}
use Rattle.enet_sleepers.proofs.Keeping.{some-same}

-- what doesn't happen at a moment within a second doesn't happen there soon
pub not-soon : (now later : ℕ) (x b : Bool) → is_soon now later ≡ b → (elapsed_time later now ≤ 1000 → x ≡ false) → (b && x) ≡ false
not-soon now later x true e never = never (leb-true (elapsed_time later now) 1000 e)
not-soon now later x false e never = refl

pub foretold-late : (happens : ℕ → Bool) (now wait : ℕ) → 1000 < wait → HappensIn happens now wait → HappensSoon happens now 4294967295
foretold-late happens now wait late h = record {
  before = λ later l less. not-soon now later (happens later) (is_soon now later) refl (λ near. h.before later l (omega (arith, near, late)));
  first = λ some. absurd (omega (arith, some));
}

pub foretold-soon : (happens : ℕ → Bool) (now wait : ℕ) → wait ≤ 1000 → HappensIn happens now wait → HappensSoon happens now wait
foretold-soon happens now wait soon h = record {
  before = λ later l less. not-soon now later (happens later) (is_soon now later) refl (λ near. h.before later l less);
  first = λ some later l is.
      ap (λ (b : Bool). b && happens later) (le-leb (elapsed_time later now) 1000 (omega (arith, is, soon))) ∙ h.first some later l is;
}

-- no slot that sleeps is due before the least of the moments
not-before : (now least i later : ℕ) (v : Noted) (s : SlotState) → TellsMoments → v.clock % 2 ^ 32 ≡ now → ((j due : ℕ) → IsAt v.due j due → least ≤ due) → later < 2 ^ 32
    → elapsed_time later now < least - v.clock → Sleeps v i s → is_due later s ≡ false
not-before now least i later v s tells shown lowest l less (inl f) = ap (λ o. is_due_in o later) f.empty
not-before now least i later v s tells shown lowest l less (inr h) =
    let told = tells (λ (t : ℕ). is_due t s) v.clock h.moment v.clock h.due h.near (omega arith) (omega (arith, h.ahead)) in
    let low = lowest i h.moment h.at in
    told.before later l (subst (λ (n : ℕ). elapsed_time later n < h.moment - v.clock) (sym shown) (omega (arith, less, low)))

-- where more than a second is left of it none is soon due
pub knows-late : (now least : ℕ) (v : Noted) (slots : List SlotState) → TellsMoments → ((j due : ℕ) → IsAt v.due j due → least ≤ due) → 1000 < least - v.clock
    → KeepsSleepers now v slots → KnowsDue now slots (λ i. IsOut v.awake i) 4294967295
knows-late now least v slots tells lowest late k = record {
  before = λ later l less i s there out. not-soon now later (is_due later s) (is_soon now later) refl (λ near.
      not-before now least i later v s tells k.shown lowest l (omega (arith, near, late)) (k.asleep i s there out));
  first = λ some. absurd (omega (arith, some));
}

-- where there is none no slot that sleeps is due
pub knows-none : (now : ℕ) (v : Noted) (slots : List SlotState) → ((j : ℕ) → get_or v.due j None ≡ None) → KeepsSleepers now v slots
    → KnowsDue now slots (λ i. IsOut v.awake i) 4294967295
knows-none now v slots none k = record {
  before = λ later l less i s there out. not-soon now later (is_due later s) (is_soon now later) refl (λ near. elim (k.asleep i s there out) [
    | inl f ↦ ap (λ o. is_due_in o later) f.empty
    | inr h ↦ let x : ◌≡◌ {A = Option ℕ} None (Some h.moment) = sym (none i) ∙ h.at in absurd (cc)
  ]);
  first = λ some. absurd (omega (arith, some));
}

at-inside : (dues : List (Option ℕ)) (i due : ℕ) → IsAt dues i due → i < length dues
at-inside dues i due at = elim (cases_lt i (length dues)) [
  | inl inside ↦ inside
  | inr past ↦ let x : ◌≡◌ {A = Option ℕ} None (Some due) = sym (get_or_past dues i None past) ∙ at in absurd (cc)
]

pub in-or-out : (b : Bool) → (b ≡ true) ⊎ (b ≡ false)
in-or-out true = inl refl
in-or-out false = inr refl

due-then : (now least i later : ℕ) (v : Noted) (s : SlotState) → TellsMoments → v.clock % 2 ^ 32 ≡ now → IsAt v.due i least → later < 2 ^ 32 → elapsed_time later now ≡ least - v.clock
    → Sleeps v i s → is_due later s ≡ true
due-then now least i later v s tells shown at l is (inl f) = let x : ◌≡◌ {A = Option ℕ} None (Some least) = sym f.never ∙ at in absurd (cc)
due-then now least i later v s tells shown at l is (inr h) =
    let told = tells (λ (t : ℕ). is_due t s) v.clock h.moment v.clock h.due h.near (omega arith) (omega (arith, h.ahead)) in
    let x : Some h.moment ≡ Some least = sym h.at ∙ at in
    let same : h.moment ≡ least = cc in
    told.first (omega (arith, h.near)) later l (subst (λ (n : ℕ). elapsed_time later n ≡ h.moment - v.clock) (sym shown) (omega (arith, is, same)))

-- else that slot is due then
pub knows-least : (now least : ℕ) (v : Noted) (slots : List SlotState) → TellsMoments → length v.due ≡ length v.awake → ((j : ℕ) × IsAt v.due j least)
    → ((j due : ℕ) → IsAt v.due j due → least ≤ due) → least - v.clock ≤ 1000 → KeepsSleepers now v slots → KnowsDue now slots (λ i. IsOut v.awake i) (least - v.clock)
knows-least now least v slots tells size place lowest soon k = record {
  before = λ later l less i s there out. not-soon now later (is_due later s) (is_soon now later) refl (λ near.
      not-before now least i later v s tells k.shown lowest l less (k.asleep i s there out));
  first = λ some later l is.
      let i = place.0 in
      let inside : i < length slots = omega (arith, at-inside v.due i least place.1, size, k.count) in
      let s = get_or slots i unused_slot in
      let there : slice_get slots i ≡ Some s = slice_get-get_or slots i unused_slot inside in
      let out : IsOut v.awake i = elim (in-or-out (get_or v.awake i false)) [
        | inl awake ↦ let x : ◌≡◌ {A = Option ℕ} None (Some least) = sym (k.blank i awake).1 ∙ place.1 in absurd (cc)
        | inr out ↦ out
      ] in
      let due : is_due later s ≡ true = due-then now least i later v s tells k.shown place.1 l is (k.asleep i s there out) in
      list_any_at (is_due_soon now later) slots i unused_slot inside
      (ap (λ (b : Bool). b && is_due later s) (le-leb (elapsed_time later now) 1000 (omega (arith, is, soon))) ∙ due);
}

-- of one slot more, and of others of which it was known
pub knows-more : (now : ℕ) (slots : List SlotState) (known more : ℕ → Type 0) (number a b : ℕ) (s : SlotState) → slice_get slots number ≡ Some s → KnowsDue now slots known a
    → HappensSoon (λ (later : ℕ). is_due later s) now b → ((i : ℕ) → i < length slots → more i → known i ⊎ (i ≡ number)) → KnowsDue now slots more (min a b)
knows-more now slots known more number a b s here h due cover = record {
  before = λ later l less i t there is. elim (cover i (slice_get_within slots i t there) is) [
    | inl old ↦ h.before later l (omega (arith, less)) i t there old
    | inr same ↦
        let one : s ≡ t = some-same (slice_get slots number) s t here (subst (λ (j : ℕ). slice_get slots j ≡ Some t) same there) in
        subst (λ (x : SlotState). is_due_soon now later x ≡ false) one (due.before later l (omega (arith, less)))
  ];
  first = λ some later l is. elim (cases_lt b a) [
    | inl lower ↦
        let inside = slice_get_within slots number s here in
        let one : s ≡ get_or slots number unused_slot = some-same (slice_get slots number) s (get_or slots number unused_slot) here (slice_get-get_or slots number unused_slot inside) in
        list_any_at (is_due_soon now later) slots number unused_slot inside
        (subst (λ (x : SlotState). is_due_soon now later x ≡ true) one (due.first (omega (arith, some, lower)) later l (omega (arith, is, lower))))
    | inr over ↦ h.first (omega (arith, some, over)) later l (omega (arith, is, over))
  ];
}

-- what is known of all slots
pub knows-all : (now wait : ℕ) (slots : List SlotState) (known : ℕ → Type 0) → KnowsDue now slots known wait → ((i : ℕ) → i < length slots → known i)
    → HappensIn (λ (later : ℕ). list_any (is_due_soon now later) slots) now wait
knows-all now wait slots known h all = record {
  before = λ later l less. list_any_none (is_due_soon now later) slots (λ i d inside. h.before later l less i (get_or slots i d) (slice_get-get_or slots i d inside) (all i inside));
  first = h.first;
}

-- those between one that is looked at and the next one sleep
pub knows-turn : (from number i : ℕ) (awake : List Bool) → ((j : ℕ) → from ≤ j → j < number → IsOut awake j) → IsOut awake i ⊎ (i < number + 1) → (IsOut awake i ⊎ (i < from)) ⊎ (i ≡ number)
knows-turn from number i awake out (inl slept) = inl (inl slept)
knows-turn from number i awake out (inr low) = elim (cases_eq i number) [
  | inl same ↦ inr same
  | inr other ↦ elim (cases_lt i from) [ inl less ↦ inl (inr less) | inr past ↦ inl (inl (out i past (omega (arith, low, other)))) ]
]

-- none was looked at yet
pub knows-first : (now wait : ℕ) (slots : List SlotState) (known : ℕ → Type 0) → KnowsDue now slots known wait → KnowsDue now slots (λ i. known i ⊎ (i < 0)) wait
knows-first now wait slots known h = record {
  before = λ later l less i s there is. elim is [ inl was ↦ h.before later l less i s there was | inr low ↦ absurd (omega (arith, low)) ];
  first = h.first;
}
