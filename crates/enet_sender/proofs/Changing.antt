-- The command under a key of a ring changes how it was sent, and nothing else.
use Rattle.std.proofs.Common.{inl, inr, ◌≡◌, ◌≢◌, ℕ, suc, ◌+◌, ◌<◌, ◌≤◌, true, false, List, ◌∷◌, ◌++◌, length, map, get_or, take, drop, Option, Some, None, IfSome, IfNone, is_some, refl, sym, ap, subst, ◌∙◌, arith, All}
use Rattle.std.specs.List.{list_any, position, slice_get, slice_set}
use Rattle.std.proofs.lemmas.Bool.{cases_eq}
use Rattle.std.proofs.lemmas.List.{length-take, get_or-take}
use Rattle.std.proofs.lemmas.List.Elements.{All-get_or}
use Rattle.enet_fragment.specs.declared.data.DataCommand.{DataCommand}
use Rattle.enet_sender.specs.declared.sent.Sent.{Sent}
use Rattle.enet_sender.specs.Invariant.{reliable_in}
use Rattle.enet_sender.specs.Pending.{vacant, named, times, held, Passes}
use Rattle.enet_sender.specs.Rings.{Rings, Keeps, GoesOn, at_place, is_due, NoneDue, keys_of, commands_at, command_of}
use Rattle.enet_sender.specs.Private.Rings.{IsFirstDue, with_due}
use Rattle.enet_sender.proofs.Rounds.{any-position}
use Rattle.enet_sender.proofs.Lists.{position_at, position_none, get_at, set_at, split}
use Rattle.enet_sender.proofs.Named.{times-append, times-here, times-some, held-some, named-other, named-append, named-cons, named-all}

-- what is known where the command p under a key, at a place of the second ring, has just become q
pub record Changes (at after : ℕ → Option Sent) (r : Rings) (place key : ℕ) (p q : Sent) : Type 0 where
  pub keeps : Keeps at r
  pub inside : place < length r.sent
  pub key_is : get_or r.sent place vacant ≡ key
  pub there : at key ≡ Some p
  pub now : after key ≡ Some q
  pub others : (k : ℕ) → k ≢ key → after k ≡ at k
  pub same : q.command ≡ p.command

change-low : {at after : ℕ → Option Sent} {r : Rings} {place key : ℕ} {p q : Sent} → Changes at after r place key p q → key < vacant
change-low {at} {after} {r} {place} {key} {p} {q} h =
    let fits : key ≤ vacant = subst (λ (k : ℕ). k ≤ vacant) h.key_is (All-get_or (λ (k : ℕ). k ≤ vacant) r.sent place vacant h.inside h.keeps.sent.fits) in
    elim (cases_eq key vacant) [
      | inl same ↦ absurd (let e = ap at same in let none = h.keeps.nothing in let some = h.there in cc)
      | inr other ↦ omega arith
    ]

pub change-named : {at after : ℕ → Option Sent} {r : Rings} {place key : ℕ} {p q : Sent} → Changes at after r place key p q
    → (named at r.sent ≡ named at (take place r.sent) ++ p ∷ named at (drop (suc place) r.sent))
    × (named after r.sent ≡ named at (take place r.sent) ++ q ∷ named at (drop (suc place) r.sent))
    × (named after r.queued ≡ named at r.queued)
change-named {at} {after} {r} {place} {key} {p} {q} h =
    let fs = take place r.sent in
    let bs = drop (suc place) r.sent in
    let is : r.sent ≡ fs ++ key ∷ bs = split r.sent place vacant h.inside ∙ ap (λ k. fs ++ k ∷ bs) h.key_is in
    let most = h.keeps.names key (change-low h) in
    let one = held-some at key p h.there in
    let all = times-append key r.queued r.sent in
    let sent = ap (times key) is ∙ times-append key fs (key ∷ bs) in
    let here = times-here key bs in
    let was : named at r.sent ≡ named at fs ++ p ∷ named at bs = ap (named at) is ∙ named-append at fs (key ∷ bs) ∙ ap (λ xs. named at fs ++ xs) (named-cons at key bs p h.there) in
    let before : named after fs ≡ named at fs = named-other at after key fs (omega arith) h.others in
    let behind : named after bs ≡ named at bs = named-other at after key bs (omega arith) h.others in
    let now : named after r.sent ≡ named at fs ++ q ∷ named at bs =
    ap (named after) is ∙ named-append after fs (key ∷ bs) ∙ ap (λ xs. named after fs ++ xs) (named-cons after key bs q h.now)
    ∙ ap (λ xs. xs ++ q ∷ named after bs) before ∙ ap (λ xs. named at fs ++ q ∷ xs) behind in
    (was, now, named-other at after key r.queued (omega arith) h.others)

-- the change in the list
pub change-sent : {at after : ℕ → Option Sent} {r : Rings} {place key : ℕ} {p q : Sent} → Changes at after r place key p q
    → (slice_get (named at r.sent) (length (named at (take place r.sent))) ≡ Some p)
    × (named after r.sent ≡ slice_set (named at r.sent) (length (named at (take place r.sent))) q)
change-sent {at} {after} {r} {place} {key} {p} {q} h =
    let f = change-named h in
    let fs = named at (take place r.sent) in
    let bs = named at (drop (suc place) r.sent) in
    (ap (λ xs. slice_get xs (length fs)) f.0 ∙ get_at fs bs p, f.1 ∙ sym (ap (λ xs. slice_set xs (length fs) q) f.0 ∙ set_at fs bs p q))

-- what stands under a key has the command that stood there
same_command : {at after : ℕ → Option Sent} {r : Rings} {place key : ℕ} {p q : Sent} → Changes at after r place key p q → (k : ℕ) (y : Sent) → after k ≡ Some y → (x : Sent) × (at k ≡ Some x) × (y.command ≡ x.command)
same_command {at} {after} {r} {place} {key} {p} {q} h k y e =
    elim (cases_eq k key) [
      | inl same ↦
          let is : q ≡ y = let f = ap after same in let now = h.now in cc in
          (p, ap at same ∙ h.there, ap (λ (z : Sent). z.command) (sym is) ∙ h.same)
      | inr other ↦ (y, sym (h.others k other) ∙ e, refl)
    ]

same_held : {at after : ℕ → Option Sent} {r : Rings} {place key : ℕ} {p q : Sent} → Changes at after r place key p q → (k : ℕ) → held after k ≡ held at k
same_held {at} {after} {r} {place} {key} {p} {q} h k =
    elim (cases_eq k key) [
      | inl same ↦ held-some after k q (ap after same ∙ h.now) ∙ sym (held-some at k p (ap at same ∙ h.there))
      | inr other ↦ ap (λ (o : Option Sent). held (λ j. o) k) (h.others k other)
    ]

pub change-keeps : {at after : ℕ → Option Sent} {r : Rings} {place key : ℕ} {p q : Sent} → Changes at after r place key p q → (due : ℕ)
    → NoneDue after r.sent 0 due → Keeps after (with_due r due)
change-keeps {at} {after} {r} {place} {key} {p} {q} h due none =
    let low = change-low h in
    let same : commands_at after r.queued ≡ commands_at at r.queued = ap (map command_of) (change-named h).2 in record {
      nothing = h.others vacant (λ e. omega arith) ∙ h.keeps.nothing;
      short = λ k y e. let x = same_command h k y e in subst (λ (c : DataCommand). length c.body ≤ 4068) (sym x.2) (h.keeps.short k x.0 x.1);
      names = λ k less. let names = h.keeps.names k less in let one = same_held h k in omega arith;
      keys = h.keeps.keys;
      sent = record {
        few = h.keeps.sent.few;
        numbered = λ i y e. let x = same_command h (get_or r.sent i vacant) y e in ap (λ (c : DataCommand). c.number) x.2 ∙ h.keeps.sent.numbered i x.0 x.1;
        not_due = none;
        fits = h.keeps.sent.fits;
      };
      first = h.keeps.first;
      passed = h.keeps.passed;
      goes_on = subst (λ (cs : List DataCommand). GoesOn r.passed cs r.number) (sym same) h.keeps.goes_on;
      counted = h.keeps.counted ∙ ap reliable_in (sym same);
      waits = subst (All (λ (q : Sent). q.transmission.due ≡ true)) (sym (change-named h).2) h.keeps.waits;
    }

pub change-passes : {at after : ℕ → Option Sent} {r : Rings} {place key : ℕ} {p q : Sent} → Changes at after r place key p q → (due : ℕ) → Passes at after (keys_of r) (keys_of (with_due r due))
change-passes {at} {after} {r} {place} {key} {p} {q} h due = record {
  others = λ k x low none e.
      h.others k (λ same.
      let some = times-some r.sent place vacant h.inside in
      let all = times-append k r.queued r.sent in
      let is = ap (λ j. times j r.sent) (h.key_is ∙ sym same) in
      omega arith) ∙ e;
  balanced = λ k low. let one = same_held h k in omega arith;
  nothing = let low = change-low h in h.others vacant (λ e. omega arith) ∙ h.keeps.nothing;
}

-- the first that is due, in the list
pub first_due-found : (at : ℕ → Option Sent) (sent : List ℕ) (place : ℕ) → IsFirstDue at sent place → (p : Sent) × (at_place at sent place ≡ Some p) × (position (λ (p : Sent). p.transmission.due) (named at sent) ≡ Some (length (named at (take place sent))))
first_due-found at sent place h = by (at_place at sent place) refl h.due
  where
    fs : List ℕ
    fs = take place sent

    bs : List ℕ
    bs = drop (suc place) sent

    none : All (λ (p : Sent). p.transmission.due ≡ false) (named at fs)
    none = named-all (λ (p : Sent). p.transmission.due ≡ false) at fs vacant (λ i p inside there.
        let short = length-take place sent in
        let less : i < place = omega arith in
        ap is_due (sym there) ∙ ap (λ k. is_due (at k)) (get_or-take place sent i vacant less) ∙ h.before i (omega arith) less)

    by : (o : Option Sent) → at_place at sent place ≡ o → is_due o ≡ true → (p : Sent) × (at_place at sent place ≡ Some p) × (position (λ (p : Sent). p.transmission.due) (named at sent) ≡ Some (length (named at fs)))
    by None e due = cc
    by (Some p) e due =
        let key = get_or sent place vacant in
        let is : named at sent ≡ named at fs ++ p ∷ named at bs = ap (named at) (split sent place vacant h.inside) ∙ named-append at fs (key ∷ bs) ∙ ap (λ xs. named at fs ++ xs) (named-cons at key bs p e) in
        (p, e, ap (position (λ (p : Sent). p.transmission.due)) is ∙ position_at (λ (p : Sent). p.transmission.due) (named at fs) (named at bs) p none due)

pub none_due-found : (at : ℕ → Option Sent) (sent : List ℕ) → NoneDue at sent 0 (length sent) → position (λ (p : Sent). p.transmission.due) (named at sent) ≡ None
none_due-found at sent none =
    position_none (λ (p : Sent). p.transmission.due) (named at sent)
    (named-all (λ (p : Sent). p.transmission.due ≡ false) at sent vacant (λ i p inside there. ap is_due (sym there) ∙ none i (omega arith) inside))

-- so it tells whether anything is due
pub any_due-found : (at : ℕ → Option Sent) (sent : List ℕ) (found : Option ℕ) → IfSome found (λ place. IsFirstDue at sent place) → IfNone found (NoneDue at sent 0 (length sent))
    → list_any (λ (p : Sent). p.transmission.due) (named at sent) ≡ is_some found
any_due-found at sent (Some place) some none = any-position (λ (p : Sent). p.transmission.due) (named at sent) ∙ ap is_some (first_due-found at sent place some).2
any_due-found at sent None some none = any-position (λ (p : Sent). p.transmission.due) (named at sent) ∙ ap is_some (none_due-found at sent none)

-- the command of a place, in the list
pub place-read : (at : ℕ → Option Sent) (sent : List ℕ) (place : ℕ) (p : Sent) → place < length sent → at_place at sent place ≡ Some p → slice_get (named at sent) (length (named at (take place sent))) ≡ Some p
place-read at sent place p inside there =
    let fs = take place sent in
    let bs = drop (suc place) sent in
    let key = get_or sent place vacant in
    let is : named at sent ≡ named at fs ++ p ∷ named at bs = ap (named at) (split sent place vacant inside) ∙ named-append at fs (key ∷ bs) ∙ ap (λ xs. named at fs ++ xs) (named-cons at key bs p there) in
    ap (λ xs. slice_get xs (length (named at fs))) is ∙ get_at (named at fs) (named at bs) p

-- once the first that was due is not, none is up to its place
pub none-due-after : {at after : ℕ → Option Sent} {r : Rings} {place key : ℕ} {p q : Sent} → Changes at after r place key p q → IsFirstDue at r.sent place → q.transmission.due ≡ false → NoneDue after r.sent 0 (place + 1)
none-due-after {at} {after} {r} {place} {key} {p} {q} h first fresh i from low =
    elim (cases_eq (get_or r.sent i vacant) key) [
      | inl same ↦ ap is_due (ap after same ∙ h.now) ∙ fresh
      | inr other ↦
          let less : i ≢ place = λ e. other (ap (λ j. get_or r.sent j vacant) e ∙ h.key_is) in
          ap is_due (h.others (get_or r.sent i vacant) other) ∙ first.before i from (omega arith)
    ]
