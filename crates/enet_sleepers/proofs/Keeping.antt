-- What is noted of the slots stays true.
use Rattle.std.proofs.Common.{◌≡◌, ◌≢◌, ℕ, ◌+◌, ◌%◌, ◌^◌, ◌<◌, ◌≤◌, inl, inr, Bool, true, false, Option, Some, None, List, length, map, replicate, slice_get, slice_set, get_or, refl, sym, ap, subst, ◌∙◌, arith}
use Rattle.std.specs.Option.{option_map}
use Rattle.std.proofs.lemmas.Bool.{cases_eq, cases_lt}
use Rattle.std.proofs.lemmas.List.{get_or-set_other, get_or-set_same, get_or_past, get_or-replicate, length-set, length-map, length-replicate}
use Rattle.std.proofs.lemmas.Option.{slice_get_within, slice_get-get_or, slice_get_read, get_or_from_slice_get, slice_get-map}
use Rattle.enet_deadlines.specs.Clock.{HappensAt}
use Rattle.enet_deadlines.specs.Moments.{IsAt}
use Rattle.enet_deadlines.specs.Sets.{IsIn, IsOut}
use Rattle.enet_peer.specs.Peering.{Peering}
use Rattle.enet_slot.specs.Slot.{SlotState, is_due}
use Rattle.enet_slot.specs.Giving.{is_vacant}
use Rattle.enet_slot.specs.Waiting.{waits_in, Waits}
use Rattle.enet_sleepers.specs.Sleeping.{Noted, Sleeps, KeepsSleepers, KeepsOthers, woken, Wakes}
use Rattle.enet_sleepers.specs.Private.Sleepers.{AllIn}

pub some-same : {X : Type 0} (o : Option X) (x y : X) → o ≡ Some x → o ≡ Some y → x ≡ y
some-same o x y e f = let g : Some x ≡ Some y = sym e ∙ f in cc

-- reading a list in which one element was replaced
pub get-set-other : (xs : List SlotState) (i j : ℕ) (y t : SlotState) → j ≢ i → slice_get (slice_set xs i y) j ≡ Some t → slice_get xs j ≡ Some t
get-set-other xs i j y t other h =
    let within : j < length (slice_set xs i y) = slice_get_within (slice_set xs i y) j t h in
    let read : get_or (slice_set xs i y) j t ≡ t = get_or_from_slice_get (slice_set xs i y) j t t h in
    let len = length-set xs i y in
    slice_get_read xs (length xs) j t refl (omega (arith, within, len)) (sym read ∙ get_or-set_other xs i j y t other)

pub get-set-same : (xs : List SlotState) (i : ℕ) (y t : SlotState) → i < length xs → slice_get (slice_set xs i y) i ≡ Some t → y ≡ t
get-set-same xs i y t inside h = sym (get_or-set_same xs i y t inside) ∙ get_or_from_slice_get (slice_set xs i y) i t t h

-- it sleeps
pub sleeps-waits : (v : Noted) (i : ℕ) (s : SlotState) → Sleeps v i s → Waits s
sleeps-waits v i s (inl free) = subst waits_in (sym free.empty) tt
sleeps-waits v i s (inr held) = held.waits

-- as much is noted of a slot as before
pub sleeps-still : (v w : Noted) (i : ℕ) (s : SlotState) → get_or w.free i false ≡ get_or v.free i false → get_or w.due i None ≡ get_or v.due i None → w.clock ≡ v.clock
    → Sleeps v i s → Sleeps w i s
sleeps-still v w i s free due clock (inl f) = inl (record { empty = f.empty; listed = free ∙ f.listed; never = due ∙ f.never })
sleeps-still v w i s free due clock (inr h) =
    inr (record {
      waits = h.waits;
      held = h.held;
      unlisted = free ∙ h.unlisted;
      moment = h.moment;
      at = due ∙ h.at;
      ahead = subst (λ (n : ℕ). n < h.moment) (sym clock) h.ahead;
      near = subst (λ (n : ℕ). h.moment < n + 4294967295) (sym clock) h.near;
      due = subst (λ (n : ℕ). HappensAt (λ (t : ℕ). is_due t s) n h.moment) (sym clock) h.due;
    })

out-in : (set : List Bool) (i : ℕ) → IsOut set i → IsIn set i → ⊥
out-in set i out is = let x : false ≡ true = sym out ∙ is in absurd (cc)

-- what is true of all is so of all but one
keeps-rest : (now n : ℕ) (v : Noted) (slots : List SlotState) → KeepsSleepers now v slots → KeepsOthers now n v slots
keeps-rest now n v slots k = record {
  count = k.count;
  shown = k.shown;
  blank = k.blank;
  asleep = λ i s other there out. k.asleep i s there out;
}

-- one to which something came is woken
pub keeps-risen : (now n : ℕ) (v : Noted) (slots : List SlotState) → n < length v.awake → length v.free ≡ length v.awake → length v.due ≡ length v.awake → KeepsOthers now n v slots
    → KeepsSleepers now (woken v n) slots
keeps-risen now n v slots inside free due k = record {
  count = length-set v.awake n true ∙ k.count;
  shown = k.shown;
  blank = λ i is. elim (cases_eq i n) [
    | inl same ↦ (
      ap (λ (j : ℕ). get_or (slice_set v.free n false) j false) same ∙ get_or-set_same v.free n false false (omega (arith, inside, free)),
      ap (λ (j : ℕ). get_or (slice_set v.due n None) j None) same ∙ get_or-set_same v.due n None None (omega (arith, inside, due)),
    )
    | inr other ↦
        let was = k.blank i (sym (get_or-set_other v.awake n i true false other) ∙ is) in
        (get_or-set_other v.free n i false false other ∙ was.0, get_or-set_other v.due n i None None other ∙ was.1)
  ];
  asleep = λ i s there out. elim (cases_eq i n) [
    | inl same ↦
        let is : get_or (slice_set v.awake n true) i false ≡ true = ap (λ (j : ℕ). get_or (slice_set v.awake n true) j false) same ∙ get_or-set_same v.awake n true false inside in
        absurd (out-in (slice_set v.awake n true) i out is)
    | inr other ↦
        sleeps-still v (woken v n) i s (get_or-set_other v.free n i false false other) (get_or-set_other v.due n i None None other) refl
        (k.asleep i s other there (sym (get_or-set_other v.awake n i true false other) ∙ out))
  ];
}

-- so is any slot
pub keeps-woken : (now n : ℕ) (v : Noted) (slots : List SlotState) → n < length v.awake → length v.free ≡ length v.awake → length v.due ≡ length v.awake → KeepsSleepers now v slots
    → KeepsSleepers now (woken v n) slots
keeps-woken now n v slots inside free due k = keeps-risen now n v slots inside free due (keeps-rest now n v slots k)

-- one to which something came sleeps on
pub keeps-on : (now n moment : ℕ) (v : Noted) (slots : List SlotState) (s : SlotState) → n < length v.awake → length v.due ≡ length v.awake → slice_get slots n ≡ Some s
    → Waits s → is_vacant s.peer ≡ false → IsOut v.awake n → IsOut v.free n → v.clock < moment → moment < v.clock + 4294967295 → HappensAt (λ (t : ℕ). is_due t s) v.clock moment
    → KeepsOthers now n v slots → KeepsSleepers now (record v { due = slice_set v.due n (Some moment) }) slots
keeps-on now n moment v slots s inside size here waits held asleep unlisted ahead near due k =
    let w : Noted = record v { due = slice_set v.due n (Some moment) } in
    record {
      count = k.count;
      shown = k.shown;
      blank = λ i is. elim (cases_eq i n) [
        | inl same ↦ absurd (out-in v.awake n asleep (subst (IsIn v.awake) same is))
        | inr other ↦ ((k.blank i is).0, get_or-set_other v.due n i (Some moment) None other ∙ (k.blank i is).1)
      ];
      asleep = λ i t there out. elim (cases_eq i n) [
        | inl same ↦
            let is : s ≡ t = some-same (slice_get slots n) s t here (subst (λ (j : ℕ). slice_get slots j ≡ Some t) same there) in
            subst (λ (x : SlotState). Sleeps w i x) is (inr (record {
              waits = waits;
              held = held;
              unlisted = subst (IsOut v.free) (sym same) unlisted;
              moment = moment;
              at = ap (λ (j : ℕ). get_or (slice_set v.due n (Some moment)) j None) same ∙ get_or-set_same v.due n (Some moment) None (omega (arith, inside, size));
              ahead = ahead;
              near = near;
              due = due;
            }))
        | inr other ↦ sleeps-still v w i t refl (get_or-set_other v.due n i (Some moment) None other) refl (k.asleep i t other there out)
      ];
    }

-- time goes on, and none of those that sleep is due by then
sleeps-later : (v : Noted) (clock i : ℕ) (s : SlotState) → v.clock ≤ clock → ((j due : ℕ) → IsAt v.due j due → clock < due) → Sleeps v i s → Sleeps (record v { clock = clock }) i s
sleeps-later v clock i s later none (inl f) = inl (record { empty = f.empty; listed = f.listed; never = f.never })
sleeps-later v clock i s later none (inr h) =
    inr (record {
      waits = h.waits;
      held = h.held;
      unlisted = h.unlisted;
      moment = h.moment;
      at = h.at;
      ahead = none i h.moment h.at;
      near = omega (arith, h.near, later);
      due = record { before = λ t past less. h.due.before t (omega (arith, later, past)) less; first = λ near. h.due.first h.near };
    })

pub keeps-later : (was now clock : ℕ) (v : Noted) (slots : List SlotState) → clock % 2 ^ 32 ≡ now → v.clock ≤ clock → ((i due : ℕ) → IsAt v.due i due → clock < due)
    → KeepsSleepers was v slots → KeepsSleepers now (record v { clock = clock }) slots
keeps-later was now clock v slots shown later none k = record {
  count = k.count;
  shown = shown;
  blank = k.blank;
  asleep = λ i s there out. sleeps-later v clock i s later none (k.asleep i s there out);
}

-- no slot sleeps
pub keeps-anew : (was now clock : ℕ) (v : Noted) (slots : List SlotState) → clock % 2 ^ 32 ≡ now → AllIn v.awake → KeepsSleepers was v slots → KeepsSleepers now (record v { clock = clock }) slots
keeps-anew was now clock v slots shown all k = record {
  count = k.count;
  shown = shown;
  blank = k.blank;
  asleep = λ i s there out. absurd (out-in v.awake i out (all i (omega (arith, slice_get_within slots i s there, k.count))));
}

-- a slot that is free falls asleep
pub keeps-free : (now n : ℕ) (v : Noted) (slots : List SlotState) (s : SlotState) → n < length v.awake → length v.free ≡ length v.awake → slice_get slots n ≡ Some s → s.peer ≡ None
    → IsIn v.awake n → KeepsSleepers now v slots → KeepsSleepers now (record v { awake = slice_set v.awake n false; free = slice_set v.free n true }) slots
keeps-free now n v slots s inside free here empty awake k =
    let w : Noted = record v { awake = slice_set v.awake n false; free = slice_set v.free n true } in
    record {
      count = length-set v.awake n false ∙ k.count;
      shown = k.shown;
      blank = λ i is. elim (cases_eq i n) [
        | inl same ↦
            let out : get_or (slice_set v.awake n false) i false ≡ false = ap (λ (j : ℕ). get_or (slice_set v.awake n false) j false) same ∙ get_or-set_same v.awake n false false inside in
            absurd (out-in (slice_set v.awake n false) i out is)
        | inr other ↦
            let was = k.blank i (sym (get_or-set_other v.awake n i false false other) ∙ is) in
            (get_or-set_other v.free n i true false other ∙ was.0, was.1)
      ];
      asleep = λ i t there out. elim (cases_eq i n) [
        | inl same ↦
            let is : s ≡ t = some-same (slice_get slots n) s t here (subst (λ (j : ℕ). slice_get slots j ≡ Some t) same there) in
            inl (record {
              empty = ap (λ (u : SlotState). u.peer) (sym is) ∙ empty;
              listed = ap (λ (j : ℕ). get_or (slice_set v.free n true) j false) same ∙ get_or-set_same v.free n true false (omega (arith, inside, free));
              never = ap (λ (j : ℕ). get_or v.due j None) same ∙ (k.blank n awake).1;
            })
        | inr other ↦
            sleeps-still v w i t (get_or-set_other v.free n i true false other) refl refl
            (k.asleep i t there (sym (get_or-set_other v.awake n i false false other) ∙ out))
      ];
    }

-- one that holds a peer does
pub keeps-held : (now n moment : ℕ) (v : Noted) (slots : List SlotState) (s : SlotState) → n < length v.awake → length v.due ≡ length v.awake → slice_get slots n ≡ Some s
    → Waits s → is_vacant s.peer ≡ false → IsIn v.awake n → v.clock < moment → moment < v.clock + 4294967295 → HappensAt (λ (t : ℕ). is_due t s) v.clock moment
    → KeepsSleepers now v slots → KeepsSleepers now (record v { awake = slice_set v.awake n false; due = slice_set v.due n (Some moment) }) slots
keeps-held now n moment v slots s inside size here waits held awake ahead near due k =
    let u : Noted = record v { awake = slice_set v.awake n false; due = slice_set v.due n (Some moment) } in
    record {
      count = length-set v.awake n false ∙ k.count;
      shown = k.shown;
      blank = λ i is. elim (cases_eq i n) [
        | inl same ↦
            let out : get_or (slice_set v.awake n false) i false ≡ false = ap (λ (j : ℕ). get_or (slice_set v.awake n false) j false) same ∙ get_or-set_same v.awake n false false inside in
            absurd (out-in (slice_set v.awake n false) i out is)
        | inr other ↦
            let was = k.blank i (sym (get_or-set_other v.awake n i false false other) ∙ is) in
            (was.0, get_or-set_other v.due n i (Some moment) None other ∙ was.1)
      ];
      asleep = λ i t there out. elim (cases_eq i n) [
        | inl same ↦
            let is : s ≡ t = some-same (slice_get slots n) s t here (subst (λ (j : ℕ). slice_get slots j ≡ Some t) same there) in
            subst (λ (x : SlotState). Sleeps u i x) is (inr (record {
              waits = waits;
              held = held;
              unlisted = ap (λ (j : ℕ). get_or v.free j false) same ∙ (k.blank n awake).0;
              moment = moment;
              at = ap (λ (j : ℕ). get_or (slice_set v.due n (Some moment)) j None) same ∙ get_or-set_same v.due n (Some moment) None (omega (arith, inside, size));
              ahead = ahead;
              near = near;
              due = due;
            }))
        | inr other ↦
            let slept : IsOut v.awake i = sym (get_or-set_other v.awake n i false false other) ∙ out in
            sleeps-still v u i t refl (get_or-set_other v.due n i (Some moment) None other) refl (k.asleep i t there slept)
      ];
    }

-- a slot that is awake may change
pub keeps-set : (now i : ℕ) (v : Noted) (slots : List SlotState) (t : SlotState) → (i < length slots → IsIn v.awake i) → KeepsSleepers now v slots → KeepsSleepers now v (slice_set slots i t)
keeps-set now i v slots t awake k = record {
  count = k.count ∙ sym (length-set slots i t);
  shown = k.shown;
  blank = k.blank;
  asleep = λ j s there out. elim (cases_eq j i) [
    | inl same ↦
        let inside : i < length slots = omega (arith, slice_get_within (slice_set slots i t) j s there, length-set slots i t, same) in
        absurd (out-in v.awake i (subst (IsOut v.awake) same out) (awake inside))
    | inr other ↦ k.asleep j s (get-set-other slots i j t s other there) out
  ];
}

-- where something comes to slot i, so it is of all others
pub keeps-others : (now i : ℕ) (v : Noted) (slots : List SlotState) (t : SlotState) → KeepsSleepers now v slots
    → KeepsOthers now i v (slice_set slots i t)
keeps-others now i v slots t k = record {
  count = k.count ∙ sym (length-set slots i t);
  shown = k.shown;
  blank = k.blank;
  asleep = λ j u other there out. k.asleep j u (get-set-other slots i j t u other there) out;
}

-- all may, if those that sleep do so afterwards
pub keeps-mapped : (now : ℕ) (v : Noted) (f : SlotState → SlotState) (slots : List SlotState)
    → ((i : ℕ) (s : SlotState) → slice_get slots i ≡ Some s → IsOut v.awake i → Sleeps v i s → Sleeps v i (f s)) → KeepsSleepers now v slots → KeepsSleepers now v (map f slots)
keeps-mapped now v f slots still k = record {
  count = k.count ∙ sym (length-map slots f);
  shown = k.shown;
  blank = k.blank;
  asleep = λ i t there out.
      let inside : i < length slots = omega (arith, slice_get_within (map f slots) i t there, length-map slots f) in
      let was : slice_get slots i ≡ Some (get_or slots i t) = slice_get-get_or slots i t inside in
      let is : slice_get (map f slots) i ≡ Some (f (get_or slots i t)) = slice_get-map f slots i ∙ ap (option_map f) was in
      subst (Sleeps v i) (some-same (slice_get (map f slots) i) (f (get_or slots i t)) t is there) (still i (get_or slots i t) was out (k.asleep i (get_or slots i t) was out));
}

-- a slot was woken, or is awake as before
pub wakes-kept : (now n : ℕ) (v w : Noted) (slots : List SlotState) → length v.free ≡ length v.awake → length v.due ≡ length v.awake → Wakes v n w → KeepsSleepers now v slots → KeepsSleepers now w slots
wakes-kept now n v w slots free due (inl same) k = subst (λ (x : Noted). KeepsSleepers now x slots) (sym same.1) k
wakes-kept now n v w slots free due (inr woke) k = subst (λ (x : Noted). KeepsSleepers now x slots) (sym woke.1) (keeps-woken now n v slots woke.0 free due k)

pub wakes-awake : (n : ℕ) (v w : Noted) → Wakes v n w → n < length v.awake → IsIn w.awake n
wakes-awake n v w (inl same) inside = subst (λ (x : Noted). IsIn x.awake n) (sym same.1) (same.0 inside)
wakes-awake n v w (inr woke) inside = subst (λ (x : Noted). IsIn x.awake n) (sym woke.1) (get_or-set_same v.awake n true false woke.0)

pub wakes-count : (n : ℕ) (v w : Noted) → Wakes v n w → length w.awake ≡ length v.awake
wakes-count n v w (inl same) = ap (λ (x : Noted). length x.awake) same.1
wakes-count n v w (inr woke) = ap (λ (x : Noted). length x.awake) woke.1 ∙ length-set v.awake n true

-- those that are awake afterwards
pub wakes-still : (n i : ℕ) (v w : Noted) → Wakes v n w → IsIn v.awake i → IsIn w.awake i
wakes-still n i v w (inl same) is = subst (λ (x : Noted). IsIn x.awake i) (sym same.1) is
wakes-still n i v w (inr woke) is = subst (λ (x : Noted). IsIn x.awake i) (sym woke.1) (elim (cases_eq i n) [
  | inl at ↦ ap (λ (j : ℕ). get_or (slice_set v.awake n true) j false) at ∙ get_or-set_same v.awake n true false woke.0
  | inr other ↦ get_or-set_other v.awake n i true false other ∙ is
])

-- those that still sleep are free if they were
pub wakes-free : (n i : ℕ) (v w : Noted) → Wakes v n w → IsOut w.awake i → i < length v.awake → (IsOut v.awake i → IsIn v.free i) → IsIn w.free i
wakes-free n i v w (inl same) out inside free = subst (λ (x : Noted). IsIn x.free i) (sym same.1) (free (subst (λ (x : Noted). IsOut x.awake i) same.1 out))
wakes-free n i v w (inr woke) out inside free =
    let asleep : IsOut (slice_set v.awake n true) i = subst (λ (x : Noted). IsOut x.awake i) woke.1 out in
    subst (λ (x : Noted). IsIn x.free i) (sym woke.1) (elim (cases_eq i n) [
      | inl at ↦
          let is : IsIn (slice_set v.awake n true) i = ap (λ (j : ℕ). get_or (slice_set v.awake n true) j false) at ∙ get_or-set_same v.awake n true false woke.0 in
          absurd (out-in (slice_set v.awake n true) i asleep is)
      | inr other ↦ get_or-set_other v.free n i false false other ∙ free (sym (get_or-set_other v.awake n i true false other) ∙ asleep)
    ])

-- none that was looked at is due
pub ahead-more : (n from moment : ℕ) (v : Noted) → n < length v.due → ((i due : ℕ) → i < from → IsAt v.due i due → moment < due)
    → ((i : ℕ) → from ≤ i → i < n → (due : ℕ) → IsAt v.due i due → moment < due) → (i due : ℕ) → i < n + 1 → IsAt (woken v n).due i due → moment < due
ahead-more n from moment v inside before between i due low at = elim (cases_eq i n) [
  | inl same ↦
      let none : get_or (slice_set v.due n None) i None ≡ None = ap (λ (j : ℕ). get_or (slice_set v.due n None) j None) same ∙ get_or-set_same v.due n None None inside in
      let x : ◌≡◌ {A = Option ℕ} None (Some due) = sym none ∙ at in
      absurd (cc)
  | inr other ↦
      let was : IsAt v.due i due = sym (get_or-set_other v.due n i None None other) ∙ at in
      elim (cases_lt i from) [ inl less ↦ before i due less was | inr past ↦ between i past (omega (arith, low, other)) due was ]
]

-- those before one more that still sleep are free
pub held-more : (n : ℕ) (v w : Noted) → n < length v.awake → Wakes v n w → ((i : ℕ) → i < n → IsOut v.awake i → IsIn v.free i) → (i : ℕ) → i < n + 1 → IsOut w.awake i → IsIn w.free i
held-more n v w inside wakes free = λ i low out. elim (cases_eq i n) [
  | inl same ↦ absurd (out-in w.awake i out (subst (IsIn w.awake) (sym same) (wakes-awake n v w wakes inside)))
  | inr other ↦ let less : i < n = omega (arith, low, other) in wakes-free n i v w wakes out (omega (arith, less, inside)) (free i less)
]

pub held-here : (n : ℕ) (v : Noted) → IsIn v.free n → ((i : ℕ) → i < n → IsOut v.awake i → IsIn v.free i) → (i : ℕ) → i < n + 1 → IsOut v.awake i → IsIn v.free i
held-here n v there free = λ i low out. elim (cases_eq i n) [
  | inl same ↦ subst (IsIn v.free) (sym same) there
  | inr other ↦ free i (omega (arith, low, other)) out
]

-- one that is awake has no peer
pub vacant-none : (o : Option Peering) → is_vacant o ≡ true → o ≡ None
vacant-none None e = refl
vacant-none (Some p) e = absurd (cc)

-- at first nothing is noted
pub keeps-fresh : (now n : ℕ) (v : Noted) (slots : List SlotState) → length v.awake ≡ n → v.free ≡ replicate n false → v.due ≡ replicate n None → v.clock % 2 ^ 32 ≡ now → AllIn v.awake → length slots ≡ n
    → KeepsSleepers now v slots
keeps-fresh now n v slots size free due shown all count = record {
  count = size ∙ sym count;
  shown = shown;
  blank = λ i is. (ap (λ (bits : List Bool). get_or bits i false) free ∙ none-in n i false, ap (λ (moments : List (Option ℕ)). get_or moments i None) due ∙ none-in n i None);
  asleep = λ i s there out. absurd (out-in v.awake i out (all i (omega (arith, slice_get_within slots i s there, count, size))));
}
  where
    none-in : {X : Type 0} (m i : ℕ) (d : X) → get_or (replicate m d) i d ≡ d
    none-in {X = X} m i d = elim (cases_lt i m) [ inl inside ↦ get_or-replicate m i d d inside | inr past ↦ get_or_past (replicate m d) i d (omega (arith, past, length-replicate {A = X} m d)) ]

-- a slot that is awake is there
pub in-inside : (set : List Bool) (i : ℕ) → IsIn set i → i < length set
in-inside set i is = elim (cases_lt i (length set)) [ inl inside ↦ inside | inr past ↦ absurd (out-in set i (get_or_past set i false past) is) ]
