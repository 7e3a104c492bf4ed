-- The head of the queue goes.
use Rattle.std.proofs.Common.{not, Bool, ◌==◌, ◌&&◌, ◌||◌, inl, inr, ◌≡◌, ◌≢◌, ℕ, suc, ◌+◌, ◌-◌, ◌<◌, ◌≤◌, true, false, cond, ltb, List, [], ◌∷◌, ◌++◌, length, map, get_or, drop, Option, Some, None, refl, sym, ap, subst, ◌∙◌, arith, All}
use Rattle.std.specs.List.{list_any, slice_get}
use Rattle.std.proofs.lemmas.Bool.{cases_eq, cases_lt, ne_eqb}
use Rattle.std.proofs.lemmas.List.{get_or_append_left, get_or_past, get_or_at, length_push}
use Rattle.std.proofs.lemmas.List.Elements.{All-push, All-tail, All-head}
use Rattle.enet_seq.specs.Windows.{ahead, after}
use Rattle.enet_seq.specs.Numbering.{wire}
use Rattle.enet_fragment.specs.declared.data.DataCommand.{DataCommand}
use Rattle.enet_sender.specs.declared.sent.Sent.{Sent}
use Rattle.enet_sender.specs.declared.outgoing.Occasion.{Occasion}
use Rattle.enet_sender.specs.Sender.{awaits_room_with, has_room, head_lacks, is_in_span, may_begin, may_go}
use Rattle.enet_sender.specs.Invariant.{reliable_in}
use Rattle.enet_sender.proofs.Counting.{counted-less, counted-same}
use Rattle.enet_sender.specs.Pending.{vacant, named, times, held, Passes}
use Rattle.enet_sender.specs.Rings.{Rings, KeepsSent, Keeps, GoesOn, at_place, is_due, NoneDue, keys_of, commands_at, command_of}
use Rattle.enet_sender.proofs.Named.{times-cons, times-append, times-here, times-other, times-some, held-some, held-none, some-held, named-other, named-append, named-cons}

-- what is known of the head of the queue, whose command p has just changed
pub record Heads (at later : ℕ → Option Sent) (r : Rings) (key : ℕ) (rest : List ℕ) (p : Sent) : Type 0 where
  pub keeps : Keeps at r
  pub queued : r.queued ≡ key ∷ rest
  pub there : at key ≡ Some p
  pub others : (k : ℕ) → k ≢ key → later k ≡ at k

head-low : {at later : ℕ → Option Sent} {r : Rings} {key : ℕ} {rest : List ℕ} {p : Sent} → Heads at later r key rest p → key < vacant
head-low {at} {later} {r} {key} {rest} {p} h = All-head (λ (k : ℕ). k < vacant) key rest (subst (λ (ks : List ℕ). All (λ (k : ℕ). k < vacant) ks) h.queued h.keeps.keys)

-- it stands there alone
pub record Alone (r : Rings) (key : ℕ) (rest : List ℕ) : Type 0 where
  pub behind : times key rest ≡ 0
  pub sent : times key r.sent ≡ 0

alone : {at later : ℕ → Option Sent} {r : Rings} {key : ℕ} {rest : List ℕ} {p : Sent} → Heads at later r key rest p → Alone r key rest
alone {at} {later} {r} {key} {rest} {p} h =
    let most = h.keeps.names key (head-low h) in
    let one = held-some at key p h.there in
    let all = times-append key r.queued r.sent in
    let queued = ap (times key) h.queued ∙ times-here key rest in
    record { behind = omega arith; sent = omega arith }

pub head-named : {at later : ℕ → Option Sent} {r : Rings} {key : ℕ} {rest : List ℕ} {p : Sent} → Heads at later r key rest p
    → (commands_at at r.queued ≡ p.command ∷ commands_at at rest) × (commands_at later rest ≡ commands_at at rest) × (named later r.sent ≡ named at r.sent)
head-named {at} {later} {r} {key} {rest} {p} h =
    let a = alone h in (
      ap (commands_at at) h.queued ∙ ap (map command_of) (named-cons at key rest p h.there),
      ap (map command_of) (named-other at later key rest a.behind h.others),
      named-other at later key r.sent a.sent h.others,
    )

-- what is queued behind it
waits-behind : {at later : ℕ → Option Sent} {r : Rings} {key : ℕ} {rest : List ℕ} {p : Sent} → Heads at later r key rest p → All (λ (q : Sent). q.transmission.due ≡ true) (named later rest)
waits-behind {at} {later} {r} {key} {rest} {p} h =
    let was : named at r.queued ≡ p ∷ named at rest = ap (named at) h.queued ∙ named-cons at key rest p h.there in
    let same : named later rest ≡ named at rest = named-other at later key rest (alone h).behind h.others in
    subst (All (λ (q : Sent). q.transmission.due ≡ true)) (sym same)
    (All-tail (λ (q : Sent). q.transmission.due ≡ true) p (named at rest) (subst (All (λ (q : Sent). q.transmission.due ≡ true)) was h.keeps.waits))

nothing-later : {at later : ℕ → Option Sent} {r : Rings} {key : ℕ} {rest : List ℕ} {p : Sent} → Heads at later r key rest p → later vacant ≡ None
nothing-later {at} {later} {r} {key} {rest} {p} h = let low = head-low h in h.others vacant (λ same. omega arith) ∙ h.keeps.nothing

-- the command of a place of the second ring
same_place : {at later : ℕ → Option Sent} {r : Rings} {key : ℕ} {rest : List ℕ} {p : Sent} → Heads at later r key rest p → (i : ℕ) → i < length r.sent → at_place later r.sent i ≡ at_place at r.sent i
same_place {at} {later} {r} {key} {rest} {p} h i inside =
    h.others (get_or r.sent i vacant) (λ same.
    let a = alone h in
    let some = times-some r.sent i vacant inside in
    let e = ap (λ k. times k r.sent) same in
    omega arith)

-- the rings once a reliable head is sent, and the place before which nothing is due
abbrev pub passed_on : Rings → ℕ → List ℕ → ℕ → ℕ → Rings
passed_on r key rest number due = record { number = r.number; unreliable = r.unreliable; passed = number; reliable = r.reliable - 1; due_from = due; queued = rest; sent = r.sent ++ key ∷ [] }

-- and once an unreliable one is
abbrev pub left_out : Rings → List ℕ → Rings
left_out r rest = record { number = r.number; unreliable = r.unreliable; passed = r.passed; reliable = r.reliable; due_from = r.due_from; queued = rest; sent = r.sent }

next-number : (c : DataCommand) (cs : List DataCommand) (passed number : ℕ) → c.reliable ≡ true → GoesOn passed (c ∷ cs) number → (c.number ≡ after passed 1) × GoesOn c.number cs number
next-number c cs passed number reliable h =
    (h.0 reliable, subst (λ (n : ℕ). GoesOn n cs number) (ap (λ b. cond b c.number passed) reliable) h.1)

same-number : (c : DataCommand) (cs : List DataCommand) (passed number : ℕ) → c.reliable ≡ false → GoesOn passed (c ∷ cs) number → GoesOn passed cs number
same-number c cs passed number unreliable h = subst (λ (n : ℕ). GoesOn n cs number) (ap (λ b. cond b c.number passed) unreliable) h.1

-- distances grow by one as the last number does
ahead-more : (back passed : ℕ) → back < 8192 → passed < 65536 → ahead back passed ≡ ahead (back + 1) (after passed 1)
ahead-more back passed low small = omega arith

ahead-none : (passed : ℕ) → ahead 0 (after passed 1) ≡ after passed 1
ahead-none passed = omega arith

after-low : (passed : ℕ) → after passed 1 < 65536
after-low passed = omega arith

goes-on : {at later : ℕ → Option Sent} {r : Rings} {key : ℕ} {rest : List ℕ} {p : Sent} → Heads at later r key rest p → GoesOn r.passed (p.command ∷ commands_at at rest) r.number
goes-on {at} {later} {r} {key} {rest} {p} h = subst (λ (cs : List DataCommand). GoesOn r.passed cs r.number) (head-named h).0 h.keeps.goes_on

-- a reliable head is sent: the number of its place
begin-kept : {at later : ℕ → Option Sent} {r : Rings} {key : ℕ} {rest : List ℕ} {p : Sent} → (q : Sent) → Heads at later r key rest p → later key ≡ Some q → q.command ≡ p.command → q.transmission.due ≡ false
    → p.command.reliable ≡ true → length r.sent < 8192 → NoneDue at r.sent 0 (length r.sent) → (due : ℕ) → KeepsSent later p.command.number due (r.sent ++ key ∷ [])
begin-kept {at} {later} {r} {key} {rest} {p} q h now same fresh reliable few none due =
    let n = next-number p.command (commands_at at rest) r.passed r.number reliable (goes-on h) in
    let len : length (r.sent ++ key ∷ []) ≡ length r.sent + 1 = length_push r.sent key in
    let at_end : get_or (r.sent ++ key ∷ []) (length r.sent) vacant ≡ key = get_or_at r.sent key [] vacant (length r.sent) refl in record {
      few = omega arith;
      numbered = λ i x e. elim (cases_lt i (length r.sent)) [
        | inl inside ↦
            let was : at_place at r.sent i ≡ Some x = sym (same_place h i inside) ∙ ap later (sym (get_or_append_left r.sent (key ∷ []) vacant i inside)) ∙ e in
            let back : length (r.sent ++ key ∷ []) - (i + 1) ≡ length r.sent - (i + 1) + 1 = omega arith in
            h.keeps.sent.numbered i x was ∙ ahead-more (length r.sent - (i + 1)) r.passed (omega arith) h.keeps.passed
            ∙ ap (λ m. ahead m (after r.passed 1)) (sym back) ∙ ap (λ m. ahead (length (r.sent ++ key ∷ []) - (i + 1)) m) (sym n.0)
        | inr past ↦ elim (cases_eq i (length r.sent)) [
          | inl last ↦
              let is : q ≡ x = let f = ap later (ap (λ j. get_or (r.sent ++ key ∷ []) j vacant) last ∙ at_end) in cc in
              let back : length (r.sent ++ key ∷ []) - (i + 1) ≡ 0 = omega arith in
              ap (λ (z : Sent). z.command.number) (sym is) ∙ ap (λ (c : DataCommand). c.number) same ∙ n.0 ∙ sym (ahead-none r.passed)
              ∙ ap (λ m. ahead m (after r.passed 1)) (sym back) ∙ ap (λ m. ahead (length (r.sent ++ key ∷ []) - (i + 1)) m) (sym n.0)
          | inr beyond ↦ absurd (
              let f = ap later (get_or_past (r.sent ++ key ∷ []) i vacant (omega arith)) in
              let none = nothing-later h in cc)
        ]
      ];
      not_due = λ i from low. elim (cases_lt i (length r.sent)) [
        | inl inside ↦ ap is_due (ap later (get_or_append_left r.sent (key ∷ []) vacant i inside) ∙ same_place h i inside) ∙ none i from inside
        | inr past ↦ elim (cases_eq i (length r.sent)) [
          | inl last ↦ ap is_due (ap later (ap (λ j. get_or (r.sent ++ key ∷ []) j vacant) last ∙ at_end) ∙ now) ∙ fresh
          | inr beyond ↦ ap is_due (ap later (get_or_past (r.sent ++ key ∷ []) i vacant (omega arith)) ∙ nothing-later h)
        ]
      ];
      fits = All-push (λ (k : ℕ). k ≤ vacant) r.sent key h.keeps.sent.fits (let low = head-low h in omega arith);
    }

begin-held : {at later : ℕ → Option Sent} {r : Rings} {key : ℕ} {rest : List ℕ} {p : Sent} → (q : Sent) → Heads at later r key rest p → later key ≡ Some q → (k : ℕ) → held later k ≡ held at k
begin-held {at} {later} {r} {key} {rest} {p} q h now k =
    elim (cases_eq k key) [
      | inl same ↦ held-some later k q (ap later same ∙ now) ∙ sym (held-some at k p (ap at same ∙ h.there))
      | inr other ↦ ap (λ (o : Option Sent). held (λ j. o) k) (h.others k other)
    ]

begin-times : (r : Rings) (key : ℕ) (rest : List ℕ) (number k : ℕ) → r.queued ≡ key ∷ rest → times k (keys_of (passed_on r key rest number 0)) ≡ times k (keys_of r)
begin-times r key rest number k is =
    let was = times-append k r.queued r.sent in
    let queued = ap (times k) is ∙ times-cons k key rest in
    let now = times-append k rest (r.sent ++ key ∷ []) in
    let sent = times-append k r.sent (key ∷ []) in
    let one = times-cons k key [] in
    omega arith

pub begin-keeps : {at later : ℕ → Option Sent} {r : Rings} {key : ℕ} {rest : List ℕ} {p : Sent} → (q : Sent) → Heads at later r key rest p → later key ≡ Some q → q.command ≡ p.command → q.transmission.due ≡ false
    → p.command.reliable ≡ true → length r.sent < 8192 → NoneDue at r.sent 0 (length r.sent) → (due : ℕ) → Keeps later (passed_on r key rest p.command.number due)
begin-keeps {at} {later} {r} {key} {rest} {p} q h now same fresh reliable few none due =
    let names = head-named h in
    let n = next-number p.command (commands_at at rest) r.passed r.number reliable (goes-on h) in
    let low = head-low h in record {
      nothing = nothing-later h;
      short = λ k y e. elim (cases_eq k key) [
        | inl is ↦
            let y_is : q ≡ y = let f = ap later is in cc in
            subst (λ (c : DataCommand). length c.body ≤ 4068) (sym same ∙ ap (λ (z : Sent). z.command) y_is) (h.keeps.short key p h.there)
        | inr other ↦ h.keeps.short k y (sym (h.others k other) ∙ e)
      ];
      names = λ k less. let was = h.keeps.names k less in let one = begin-held q h now k in let times = begin-times r key rest p.command.number k h.queued in omega arith;
      keys = All-tail (λ (k : ℕ). k < vacant) key rest (subst (λ (ks : List ℕ). All (λ (k : ℕ). k < vacant) ks) h.queued h.keeps.keys);
      sent = begin-kept q h now same fresh reliable few none due;
      first = λ k e. first-of r.sent k e low h.keeps.first;
      passed = let low_number = after-low r.passed in let is = n.0 in omega arith;
      goes_on = subst (λ (cs : List DataCommand). GoesOn p.command.number cs r.number) (sym names.1) n.1;
      counted = counted-less (commands_at at r.queued) p.command (commands_at at rest) r.reliable names.0 h.keeps.counted reliable ∙ ap reliable_in (sym names.1);
      waits = waits-behind h;
    }
  where
    first-of : (sent : List ℕ) (k : ℕ) → slice_get (sent ++ key ∷ []) 0 ≡ Some k → key < vacant → ((k : ℕ) → slice_get sent 0 ≡ Some k → k < vacant) → k < vacant
    first-of [] k e low first = let is : key ≡ k = cc in subst (λ (k : ℕ). k < vacant) is low
    first-of (j ∷ sent) k e low first = first k e

pub begin-passes : {at later : ℕ → Option Sent} {r : Rings} {key : ℕ} {rest : List ℕ} {p : Sent} → (q : Sent) → Heads at later r key rest p → later key ≡ Some q
    → Passes at later (keys_of r) (keys_of (passed_on r key rest p.command.number 0))
begin-passes {at} {later} {r} {key} {rest} {p} q h now = record {
  others = λ k x low none e. h.others k (λ same. head-named_there h k same none) ∙ e;
  balanced = λ k low. let one = begin-held q h now k in let times = begin-times r key rest p.command.number k h.queued in omega arith;
  nothing = nothing-later h;
}
  where
    head-named_there : {at later : ℕ → Option Sent} {r : Rings} {key : ℕ} {rest : List ℕ} {p : Sent} → Heads at later r key rest p → (k : ℕ) → k ≡ key → times k (keys_of r) ≡ 0 → ⊥
    head-named_there {at} {later} {r} {key} {rest} {p} h k same none =
        let all = times-append key r.queued r.sent in
        let queued = ap (times key) h.queued ∙ times-here key rest in
        let e = ap (λ j. times j (keys_of r)) same in
        omega arith

-- what is sent then
pub begin-sent : {at later : ℕ → Option Sent} {r : Rings} {key : ℕ} {rest : List ℕ} {p : Sent} → (q : Sent) → Heads at later r key rest p → later key ≡ Some q → named later (r.sent ++ key ∷ []) ≡ named at r.sent ++ q ∷ []
begin-sent {at} {later} {r} {key} {rest} {p} q h now =
    named-append later r.sent (key ∷ []) ∙ ap (λ xs. named later r.sent ++ xs) (named-cons later key [] q now) ∙ ap (λ xs. xs ++ q ∷ []) (head-named h).2

-- an unreliable head goes
leave-stood : {at later : ℕ → Option Sent} {r : Rings} {key : ℕ} {rest : List ℕ} {p : Sent} → Heads at later r key rest p → later key ≡ None → (k : ℕ) (x : Sent) → later k ≡ Some x → at k ≡ Some x
leave-stood {at} {later} {r} {key} {rest} {p} h gone k x e =
    elim (cases_eq k key) [
      | inl same ↦ absurd (let f = ap later same in cc)
      | inr other ↦ sym (h.others k other) ∙ e
    ]

leave-times : {at later : ℕ → Option Sent} {r : Rings} {key : ℕ} {rest : List ℕ} {p : Sent} → Heads at later r key rest p → later key ≡ None → (k : ℕ) → times k (keys_of (left_out r rest)) + held at k ≡ times k (keys_of r) + held later k
leave-times {at} {later} {r} {key} {rest} {p} h gone k =
    let was = times-append k r.queued r.sent in
    let now = times-append k rest r.sent in
    let queued = ap (times k) h.queued in
    elim (cases_eq key k) [
      | inl same ↦
          let one = ap (λ j. times k (j ∷ rest)) same ∙ times-here k rest in
          let held_was = held-some at k p (ap at (sym same) ∙ h.there) in
          let held_now = held-none later k (ap later (sym same) ∙ gone) in
          omega arith
      | inr other ↦
          let none = times-other k key rest other in
          let same = ap (λ (o : Option Sent). held (λ j. o) k) (h.others k (λ e. other (sym e))) in
          omega arith
    ]

pub leave-passes : {at later : ℕ → Option Sent} {r : Rings} {key : ℕ} {rest : List ℕ} {p : Sent} → Heads at later r key rest p → later key ≡ None → Passes at later (keys_of r) (keys_of (left_out r rest))
leave-passes {at} {later} {r} {key} {rest} {p} h gone = record {
  others = λ k x low none e.
      h.others k (λ same.
      let all = times-append key r.queued r.sent in
      let queued = ap (times key) h.queued ∙ times-here key rest in
      let e = ap (λ j. times j (keys_of r)) same in
      omega arith) ∙ e;
  balanced = λ k low. leave-times h gone k;
  nothing = nothing-later h;
}

pub leave-keeps : {at later : ℕ → Option Sent} {r : Rings} {key : ℕ} {rest : List ℕ} {p : Sent} → Heads at later r key rest p → later key ≡ None → p.command.reliable ≡ false → Keeps later (left_out r rest)
leave-keeps {at} {later} {r} {key} {rest} {p} h gone unreliable =
    let names = head-named h in record {
      nothing = nothing-later h;
      short = λ k y e. h.keeps.short k y (leave-stood h gone k y e);
      names = λ k less. let was = h.keeps.names k less in let times = leave-times h gone k in omega arith;
      keys = All-tail (λ (k : ℕ). k < vacant) key rest (subst (λ (ks : List ℕ). All (λ (k : ℕ). k < vacant) ks) h.queued h.keeps.keys);
      sent = record {
        few = h.keeps.sent.few;
        numbered = λ i x e. h.keeps.sent.numbered i x (leave-stood h gone (get_or r.sent i vacant) x e);
        not_due = λ i from low. elim (cases_lt i (length r.sent)) [
          | inl inside ↦ ap is_due (same_place h i inside) ∙ h.keeps.sent.not_due i from low
          | inr past ↦ ap is_due (ap later (get_or_past r.sent i vacant past) ∙ nothing-later h)
        ];
        fits = h.keeps.sent.fits;
      };
      first = h.keeps.first;
      passed = h.keeps.passed;
      goes_on = subst (λ (cs : List DataCommand). GoesOn r.passed cs r.number) (sym names.1) (same-number p.command (commands_at at rest) r.passed r.number unreliable (goes-on h));
      counted = counted-same (commands_at at r.queued) p.command (commands_at at rest) r.reliable names.0 h.keeps.counted unreliable ∙ ap reliable_in (sym names.1);
      waits = waits-behind h;
    }

-- the distance from the oldest number to the next one
span-of : (back passed : ℕ) → back < 8192 → passed < 65536 → ahead (ahead back passed) (after passed 1) ≡ back + 1
span-of back passed low small = omega arith

-- the span by the length of the second ring alone: its first place belongs to the oldest number
pub span-by_length : (at : ℕ → Option Sent) (r : Rings) → Keeps at r → (number : ℕ) → number ≡ after r.passed 1 → is_in_span wire (named at r.sent) number ≡ ltb (length r.sent) 8192
span-by_length at r keeps number is = by r.sent refl
  where
    by : (sent : List ℕ) → r.sent ≡ sent → is_in_span wire (named at sent) number ≡ ltb (length sent) 8192
    by [] e = refl
    by (key ∷ sent) e =
        let low : key < vacant = keeps.first key (ap (λ ks. slice_get ks 0) e) in
        let most = keeps.names key low in
        let all = times-append key r.queued r.sent in
        let some = ap (times key) e ∙ times-here key sent in
        let there = some-held (at key) (omega arith) in
        let here : at_place at r.sent 0 ≡ Some there.0 = ap (λ ks. at_place at ks 0) e ∙ there.1 in
        let len = ap (λ (ks : List ℕ). length ks) e in
        let few = keeps.sent.few in
        let back : length r.sent - (0 + 1) ≡ length sent = omega arith in
        let number_of : there.0.command.number ≡ ahead (length sent) r.passed = keeps.sent.numbered 0 there.0 here ∙ ap (λ n. ahead n r.passed) back in
        let far : ahead there.0.command.number number ≡ length sent + 1 =
        ap (λ n. ahead n number) number_of ∙ ap (λ n. ahead (ahead (length sent) r.passed) n) is ∙ span-of (length sent) r.passed (omega arith) keeps.passed in
        let one_more : length sent + 1 ≡ suc (length sent) = omega arith in
        ap (λ ps. is_in_span wire ps number) (named-cons at key sent there.0 there.1) ∙ ap (λ n. ltb n 8192) (far ∙ one_more)

-- what is sent is named from its first key on
pub sent-first : (at : ℕ → Option Sent) (r : Rings) (key : ℕ) (sent : List ℕ) → Keeps at r → r.sent ≡ key ∷ sent → (p : Sent) × (named at r.sent ≡ p ∷ named at sent)
sent-first at r key sent keeps e =
    let low : key < vacant = keeps.first key (ap (λ ks. slice_get ks 0) e) in
    let most = keeps.names key low in
    let all = times-append key r.queued r.sent in
    let some = ap (times key) e ∙ times-here key sent in
    let there = some-held (at key) (omega arith) in
    (there.0, ap (named at) e ∙ named-cons at key sent there.0 there.1)

-- where something is sent, room may be kept for what is due to go again
pub awaits-busy : (at : ℕ → Option Sent) (r : Rings) (queued : List DataCommand) → Keeps at r → 0 < length r.sent → awaits_room_with (named at r.sent) queued ≡ list_any (λ (p : Sent). p.transmission.due) (named at r.sent)
awaits-busy at r queued keeps some = by r.sent refl
  where
    by : (sent : List ℕ) → r.sent ≡ sent → awaits_room_with (named at r.sent) queued ≡ list_any (λ (p : Sent). p.transmission.due) (named at r.sent)
    by [] e = absurd (let none = ap (λ (ks : List ℕ). length ks) e in omega arith)
    by (key ∷ sent) e =
        let f = sent-first at r key sent keeps e in
        ap (λ (ps : List Sent). awaits_room_with ps queued) f.1 ∙ sym (ap (list_any (λ (p : Sent). p.transmission.due)) f.1)

-- a reliable command that may not go though nothing is sent finds no room, unless the room is kept for another channel
alone-lacks : (reliable barred room : Bool) → (not reliable || (not barred && room)) ≡ false → (reliable && (not room && not barred)) ≡ not barred
alone-lacks true true room e = none (not room)
  where
    none : (b : Bool) → (b && false) ≡ false
    none true = refl
    none false = refl
alone-lacks true false true e = sym e
alone-lacks true false false e = refl
alone-lacks false barred room e = absurd (let f : true ≡ false = e in cc)

-- where the head of the queue may not go, the room is to be kept for it just if nothing is sent, and it is kept for no other channel
pub head_lacks-is : (at : ℕ → Option Sent) (r : Rings) (o : Occasion) (c : DataCommand) (rest : List DataCommand) → Keeps at r → commands_at at r.queued ≡ c ∷ rest
    → may_go wire (named at r.sent) o c ≡ false → head_lacks o (named at r.sent) (commands_at at r.queued) ≡ ((length r.sent == 0) && not o.barred)
head_lacks-is at r o c rest keeps is blocked = by r.sent refl
  where
    by : (sent : List ℕ) → r.sent ≡ sent → head_lacks o (named at r.sent) (commands_at at r.queued) ≡ ((length r.sent == 0) && not o.barred)
    by [] e =
        ap (λ ks. head_lacks o (named at ks) (commands_at at r.queued)) e ∙ ap (head_lacks o []) is
        ∙ alone-lacks c.reliable o.barred (has_room o c) (sym (ap (λ ks. may_go wire (named at ks) o c) e) ∙ blocked)
        ∙ sym (ap (λ (ks : List ℕ). (length ks == 0) && not o.barred) e)
    by (key ∷ sent) e =
        let some : (length (key ∷ sent) == 0) ≡ false = ne_eqb (length (key ∷ sent)) 0 (λ none. omega arith) in
        ap (λ ps. head_lacks o ps (commands_at at r.queued)) (sent-first at r key sent keeps e).1
        ∙ sym (ap (λ (ks : List ℕ). (length ks == 0) && not o.barred) e ∙ ap (λ b. b && not o.barred) some)

-- a command stands under the key at the head of the queue
pub head-there : (at : ℕ → Option Sent) (r : Rings) (key : ℕ) (rest : List ℕ) → Keeps at r → r.queued ≡ key ∷ rest → (p : Sent) × (at key ≡ Some p)
head-there at r key rest keeps is =
    let low : key < vacant = All-head (λ (k : ℕ). k < vacant) key rest (subst (λ (ks : List ℕ). All (λ (k : ℕ). k < vacant) ks) is keeps.keys) in
    let most = keeps.names key low in
    let all = times-append key r.queued r.sent in
    let queued = ap (times key) is ∙ times-here key rest in
    some-held (at key) (omega arith)

-- whether a reliable command may go, by the length of the second ring
pub may_go-is : (at : ℕ → Option Sent) (r : Rings) (o : Occasion) (c : DataCommand) → Keeps at r → c.number ≡ after r.passed 1 → c.reliable ≡ true
    → may_go wire (named at r.sent) o c ≡ (ltb (length r.sent) 8192 && may_begin o c)
may_go-is at r o c keeps is reliable =
    ap (λ b. not b || (is_in_span wire (named at r.sent) c.number && may_begin o c)) reliable
    ∙ ap (λ b. b && may_begin o c) (span-by_length at r keeps c.number is)

-- a ring by its first key
pub by_first : (keys : List ℕ) (key : ℕ) → slice_get keys 0 ≡ Some key → keys ≡ key ∷ drop 1 keys
by_first [] key is = cc
by_first (k ∷ keys) key is = let same : k ≡ key = cc in ap (λ j. j ∷ keys) same

-- the queue by its first command
pub head-queued : (at : ℕ → Option Sent) (keys : List ℕ) (key : ℕ) (p : Sent) → slice_get keys 0 ≡ Some key → at key ≡ Some p → commands_at at keys ≡ p.command ∷ drop 1 (commands_at at keys)
head-queued at keys key p is there =
    let e : commands_at at keys ≡ p.command ∷ commands_at at (drop 1 keys) = ap (commands_at at) (by_first keys key is) ∙ ap (map command_of) (named-cons at key (drop 1 keys) p there) in
    e ∙ ap (λ (cs : List DataCommand). p.command ∷ cs) (sym (ap (λ (cs : List DataCommand). drop 1 cs) e))

-- the number of a reliable head
pub head-number : (at : ℕ → Option Sent) (r : Rings) (c : DataCommand) (cs : List DataCommand) → Keeps at r → commands_at at r.queued ≡ c ∷ cs → c.reliable ≡ true → c.number ≡ after r.passed 1
head-number at r c cs keeps is reliable = (subst (λ (ds : List DataCommand). GoesOn r.passed ds r.number) is keeps.goes_on).0 reliable

-- a ring without a first key
pub by_none : (keys : List ℕ) → slice_get keys 0 ≡ None → keys ≡ []
by_none [] is = refl
by_none (k ∷ keys) is = cc
