-- A command is queued under a new key.
use Rattle.std.proofs.Common.{inl, inr, ◌≡◌, ◌≢◌, ℕ, ◌+◌, ◌<◌, ◌≤◌, true, cond, List, [], ◌∷◌, ◌++◌, length, map, get_or, Option, Some, None, sym, ap, subst, ◌∙◌, arith, All}
use Rattle.std.proofs.lemmas.Bool.{cases_eq, cases_lt}
use Rattle.std.proofs.lemmas.List.{get_or_past, map_push}
use Rattle.std.proofs.lemmas.List.Sums.{sum_by_push}
use Rattle.std.proofs.lemmas.List.Elements.{All-push}
use Rattle.enet_seq.specs.Windows.{after}
use Rattle.enet_fragment.specs.declared.data.DataCommand.{DataCommand}
use Rattle.enet_sender.specs.declared.sent.Sent.{Sent}
use Rattle.enet_sender.specs.Invariant.{reliable_in}
use Rattle.enet_sender.specs.Pending.{vacant, named, times, held, Passes}
use Rattle.enet_sender.specs.Rings.{Rings, Keeps, GoesOn, at_place, is_due, keys_of, commands_at, command_of}
use Rattle.enet_sender.proofs.Named.{times-append, times-here, times-other, times-some, held-some, held-none, named-other, named-append, named-cons}

-- what is known where the command p has just come under a key that nothing had
pub record Comes (at later : ℕ → Option Sent) (r : Rings) (key : ℕ) (p : Sent) : Type 0 where
  pub keeps : Keeps at r
  pub low : key < vacant
  pub none : at key ≡ None
  pub now : later key ≡ Some p
  pub others : (k : ℕ) → k ≢ key → later k ≡ at k
  pub short : length p.command.body ≤ 4068
  pub waits : p.transmission.due ≡ true
  pub next : p.command.reliable ≡ true → p.command.number ≡ after r.number 1

-- the rings with it
abbrev pub queued_on : Rings → ℕ → Sent → Rings
queued_on r key p = record {
  number = cond p.command.reliable p.command.number r.number;
  unreliable = r.unreliable;
  passed = r.passed;
  reliable = r.reliable + cond p.command.reliable 1 0;
  due_from = r.due_from;
  queued = r.queued ++ key ∷ [];
  sent = r.sent;
}

-- no ring has the key
absent : {at later : ℕ → Option Sent} {r : Rings} {key : ℕ} {p : Sent} → Comes at later r key p → (times key r.queued ≡ 0) × (times key r.sent ≡ 0)
absent {at} {later} {r} {key} {p} h =
    let most = h.keeps.names key h.low in
    let none = held-none at key h.none in
    let all = times-append key r.queued r.sent in
    (omega arith, omega arith)

nothing-later : {at later : ℕ → Option Sent} {r : Rings} {key : ℕ} {p : Sent} → Comes at later r key p → later vacant ≡ None
nothing-later {at} {later} {r} {key} {p} h = let low = h.low in h.others vacant (λ same. omega arith) ∙ h.keeps.nothing

pub comes-named : {at later : ℕ → Option Sent} {r : Rings} {key : ℕ} {p : Sent} → Comes at later r key p → named later (r.queued ++ key ∷ []) ≡ named at r.queued ++ p ∷ []
comes-named {at} {later} {r} {key} {p} h =
    named-append later r.queued (key ∷ []) ∙ ap (λ xs. named later r.queued ++ xs) (named-cons later key [] p h.now) ∙ ap (λ xs. xs ++ p ∷ []) (named-other at later key r.queued (absent h).0 h.others)

pub comes-queued : {at later : ℕ → Option Sent} {r : Rings} {key : ℕ} {p : Sent} → Comes at later r key p → commands_at later (r.queued ++ key ∷ []) ≡ commands_at at r.queued ++ p.command ∷ []
comes-queued {at} {later} {r} {key} {p} h =
    ap (map command_of) (comes-named h)
    ∙ map_push command_of (named at r.queued) p

pub comes-sent : {at later : ℕ → Option Sent} {r : Rings} {key : ℕ} {p : Sent} → Comes at later r key p → named later r.sent ≡ named at r.sent
comes-sent {at} {later} {r} {key} {p} h = named-other at later key r.sent (absent h).1 h.others

goes_on-more : (cs : List DataCommand) (c : DataCommand) (passed number : ℕ) → GoesOn passed cs number → (c.reliable ≡ true → c.number ≡ after number 1) → GoesOn passed (cs ++ c ∷ []) (cond c.reliable c.number number)
goes_on-more [] c passed number h next = (λ reliable. next reliable ∙ ap (λ n. after n 1) (sym h), ap (λ n. cond c.reliable c.number n) h)
goes_on-more (d ∷ cs) c passed number h next = (h.0, goes_on-more cs c (cond d.reliable d.number passed) number h.1 next)

same-place : {at later : ℕ → Option Sent} {r : Rings} {key : ℕ} {p : Sent} → Comes at later r key p → (i : ℕ) → at_place later r.sent i ≡ at_place at r.sent i
same-place {at} {later} {r} {key} {p} h i =
    elim (cases_lt i (length r.sent)) [
      | inl inside ↦
          h.others (get_or r.sent i vacant) (λ same.
          let none = (absent h).1 in
          let some = times-some r.sent i vacant inside in
          let e = ap (λ k. times k r.sent) same in
          omega arith)
      | inr past ↦ let e = get_or_past r.sent i vacant past in ap later e ∙ nothing-later h ∙ sym (ap at e ∙ h.keeps.nothing)
    ]

comes-times : {at later : ℕ → Option Sent} {r : Rings} {key : ℕ} {p : Sent} → Comes at later r key p → (k : ℕ) → times k (keys_of (queued_on r key p)) + held at k ≡ times k (keys_of r) + held later k
comes-times {at} {later} {r} {key} {p} h k =
    let was = times-append k r.queued r.sent in
    let now = times-append k (r.queued ++ key ∷ []) r.sent in
    let queued = times-append k r.queued (key ∷ []) in
    elim (cases_eq key k) [
      | inl same ↦
          let one = ap (λ j. times k (j ∷ [])) same ∙ times-here k [] in
          let held_was = held-none at k (ap at (sym same) ∙ h.none) in
          let held_now = held-some later k p (ap later (sym same) ∙ h.now) in
          omega arith
      | inr other ↦
          let none = times-other k key [] other in
          let same = ap (λ (o : Option Sent). held (λ j. o) k) (h.others k (λ e. other (sym e))) in
          omega arith
    ]

pub comes-keeps : {at later : ℕ → Option Sent} {r : Rings} {key : ℕ} {p : Sent} → Comes at later r key p → Keeps later (queued_on r key p)
comes-keeps {at} {later} {r} {key} {p} h =
    let queued = comes-queued h in record {
      nothing = nothing-later h;
      short = λ k y e. elim (cases_eq k key) [
        | inl is ↦
            let y_is : p ≡ y = let f = ap later is in let now = h.now in cc in
            subst (λ (z : Sent). length z.command.body ≤ 4068) y_is h.short
        | inr other ↦ h.keeps.short k y (sym (h.others k other) ∙ e)
      ];
      names = λ k less. let was = h.keeps.names k less in let times = comes-times h k in omega arith;
      keys = All-push (λ (k : ℕ). k < vacant) r.queued key h.keeps.keys h.low;
      sent = record {
        few = h.keeps.sent.few;
        numbered = λ i x e. h.keeps.sent.numbered i x (sym (same-place h i) ∙ e);
        not_due = λ i from low. ap is_due (same-place h i) ∙ h.keeps.sent.not_due i from low;
        fits = h.keeps.sent.fits;
      };
      first = h.keeps.first;
      passed = h.keeps.passed;
      goes_on = subst (λ (cs : List DataCommand). GoesOn r.passed cs (cond p.command.reliable p.command.number r.number)) (sym queued)
          (goes_on-more (commands_at at r.queued) p.command r.passed r.number h.keeps.goes_on h.next);
      counted = ap (λ n. n + cond p.command.reliable 1 0) h.keeps.counted
          ∙ sym (ap reliable_in queued ∙ sum_by_push (λ (c : DataCommand). cond c.reliable 1 0) (commands_at at r.queued) p.command);
      waits = subst (All (λ (q : Sent). q.transmission.due ≡ true)) (sym (comes-named h)) (All-push (λ (q : Sent). q.transmission.due ≡ true) (named at r.queued) p h.keeps.waits h.waits);
    }

pub comes-passes : {at later : ℕ → Option Sent} {r : Rings} {key : ℕ} {p : Sent} → Comes at later r key p → Passes at later (keys_of r) (keys_of (queued_on r key p))
comes-passes {at} {later} {r} {key} {p} h = record {
  others = λ k x low none e. h.others k (λ same. let f = ap at same in let gone = h.none in cc) ∙ e;
  balanced = λ k low. comes-times h k;
  nothing = nothing-later h;
}
