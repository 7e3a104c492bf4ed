-- One sent command goes.
use Rattle.std.proofs.Common.{inl, inr, ◌≡◌, ◌≢◌, ℕ, suc, ◌+◌, ◌-◌, ◌<◌, ◌≤◌, Bool, true, false, cond, eqb, List, [], ◌∷◌, ◌++◌, length, map, get_or, set, take, drop, Option, Some, None, refl, sym, ap, subst, ◌∙◌, arith, All}
use Rattle.std.specs.List.{slice_get, remove}
use Rattle.std.proofs.lemmas.Bool.{cases_eq, eq-eqb, ne_eqb}
use Rattle.std.proofs.lemmas.List.{length-set, length-take, get_or-take, get_or-set_same, get_or-set_other}
use Rattle.std.proofs.lemmas.List.Elements.{All-set, All-get_or}
use Rattle.enet_rtt.specs.Transmission.{went_at}
use Rattle.enet_seq.specs.Windows.{ahead}
use Rattle.enet_fragment.specs.declared.data.DataCommand.{DataCommand}
use Rattle.enet_sender.specs.declared.outgoing.Acknowledged.{Acknowledged}
use Rattle.enet_sender.specs.declared.sent.Sent.{Sent}
use Rattle.enet_sender.specs.Sender.{position_of, without_place, matching, matching_at, told_of}
use Rattle.enet_sender.specs.Invariant.{reliable_in}
use Rattle.enet_sender.specs.Pending.{vacant, named, times, held, Passes}
use Rattle.enet_sender.specs.Rings.{Rings, KeepsSent, Keeps, GoesOn, at_place, is_due, keys_of, commands_at, command_of}
use Rattle.enet_sender.specs.Private.Rounds.{test_at}
use Rattle.enet_sender.specs.Private.Trims.{Trims}
use Rattle.enet_sender.proofs.Lists.{position_at, position_none, get_at, remove_at, split, split_set}
use Rattle.enet_sender.proofs.Named.{times-append, times-here, times-other, held-some, held-none, named-other, named-append, named-cons, named-skip, named-all}

-- the distance back from a number, and back again
pub ahead-ahead : (n c : ℕ) → n < 65536 → c < 65536 → ahead (ahead n c) c ≡ n
ahead-ahead n c low small = omega arith

pub ahead-same : (a b c : ℕ) → a < 65536 → b < 65536 → c < 65536 → ahead a c ≡ ahead b c → a ≡ b
ahead-same a b c low less small e = sym (ahead-ahead a c low small) ∙ ap (λ n. ahead n c) e ∙ ahead-ahead b c less small

abbrev has_number : ℕ → Sent → Bool
has_number number p = eqb p.command.number number

-- a command of a number stands at the place of that number alone
number-place : (at : ℕ → Option Sent) (passed due : ℕ) (sent : List ℕ) (number place : ℕ) (p : Sent) → KeepsSent at passed due sent → passed < 65536 → number < 65536
    → at_place at sent place ≡ Some p → place < length sent → p.command.number ≡ number → place + (ahead number passed + 1) ≡ length sent
number-place at passed due sent number place p keeps small low there inside is =
    let few = keeps.few in
    let back : ahead (length sent - (place + 1)) passed ≡ number = sym (keeps.numbered place p there) ∙ is in
    let same : length sent - (place + 1) ≡ ahead number passed = sym (ahead-ahead (length sent - (place + 1)) passed (omega arith) small) ∙ ap (λ n. ahead n passed) back in
    omega arith

-- where no command stands at the place of a number, none has it
pub number-none : (at : ℕ → Option Sent) (passed due : ℕ) (sent : List ℕ) (number : ℕ) → KeepsSent at passed due sent → passed < 65536 → number < 65536
    → ((place : ℕ) → place + (ahead number passed + 1) ≡ length sent → at_place at sent place ≡ None) → All (λ p. has_number number p ≡ false) (named at sent)
number-none at passed due sent number keeps small low none =
    named-all (λ p. has_number number p ≡ false) at sent vacant
    (λ place p inside there. ne_eqb p.command.number number (λ is. let gone = none place (number-place at passed due sent number place p keeps small low there inside is) in cc))

pub acknowledges-none : (at : ℕ → Option Sent) (r : Rings) (number : ℕ) → Keeps at r → number < 65536
    → ((place : ℕ) → place + (ahead number r.passed + 1) ≡ length r.sent → at_place at r.sent place ≡ None)
    → position_of number (named at r.sent) ≡ None
acknowledges-none at r number keeps low none = position_none (has_number number) (named at r.sent) (number-none at r.passed r.due_from r.sent number keeps.sent keeps.passed low none)

-- what is known where the command p under a key, at a place of the second ring, has just gone
pub record Goes (at after : ℕ → Option Sent) (r : Rings) (number place key : ℕ) (p : Sent) : Type 0 where
  pub keeps : Keeps at r
  pub low : number < 65536
  pub place_is : place + (ahead number r.passed + 1) ≡ length r.sent
  pub key_is : get_or r.sent place vacant ≡ key
  pub there : at key ≡ Some p
  pub gone : after key ≡ None
  pub others : (k : ℕ) → k ≢ key → after k ≡ at k

key-low : {at after : ℕ → Option Sent} {r : Rings} {number place key : ℕ} {p : Sent} → Goes at after r number place key p → key < vacant
key-low {at} {after} {r} {number} {place} {key} {p} h =
    let fits : key ≤ vacant = subst (λ (k : ℕ). k ≤ vacant) h.key_is (All-get_or (λ (k : ℕ). k ≤ vacant) r.sent place vacant (let e = h.place_is in omega arith) h.keeps.sent.fits) in
    elim (cases_eq key vacant) [
      | inl same ↦ absurd (let e = ap at same in let none = h.keeps.nothing in let some = h.there in cc)
      | inr other ↦ omega arith
    ]

pub vacant-after : {at after : ℕ → Option Sent} {r : Rings} {number place key : ℕ} {p : Sent} → Goes at after r number place key p → after vacant ≡ None
vacant-after {at} {after} {r} {number} {place} {key} {p} h = let low = key-low h in h.others vacant (λ same. omega arith) ∙ h.keeps.nothing

-- what stands after it stood before
stood : {at after : ℕ → Option Sent} {r : Rings} {number place key : ℕ} {p : Sent} → Goes at after r number place key p → (k : ℕ) (q : Sent) → after k ≡ Some q → at k ≡ Some q
stood {at} {after} {r} {number} {place} {key} {p} h k q e =
    elim (cases_eq k key) [
      | inl same ↦ absurd (let f = ap after same in let gone = h.gone in cc)
      | inr other ↦ sym (h.others k other) ∙ e
    ]

abbrev front : ℕ → List ℕ → List ℕ
front place sent = take place sent

abbrev back : ℕ → List ℕ → List ℕ
back place sent = drop (suc place) sent

-- the rings have it there alone
pub record Once (r : Rings) (place key : ℕ) : Type 0 where
  pub inside : place < length r.sent
  pub is : r.sent ≡ front place r.sent ++ key ∷ back place r.sent
  pub queued : times key r.queued ≡ 0
  pub in_front : times key (front place r.sent) ≡ 0
  pub in_back : times key (back place r.sent) ≡ 0

once : {at after : ℕ → Option Sent} {r : Rings} {number place key : ℕ} {p : Sent} → Goes at after r number place key p → Once r place key
once {at} {after} {r} {number} {place} {key} {p} h =
    let e = h.place_is in
    let inside : place < length r.sent = omega arith in
    let is : r.sent ≡ front place r.sent ++ key ∷ back place r.sent = split r.sent place vacant inside ∙ ap (λ k. front place r.sent ++ k ∷ back place r.sent) h.key_is in
    let most = h.keeps.names key (key-low h) in
    let one = held-some at key p h.there in
    let all = times-append key r.queued r.sent in
    let sent = ap (times key) is ∙ times-append key (front place r.sent) (key ∷ back place r.sent) in
    let here = times-here key (back place r.sent) in
    record { inside = inside; is = is; queued = omega arith; in_front = omega arith; in_back = omega arith }

-- where it is found
pub goes-found : {at after : ℕ → Option Sent} {r : Rings} {number place key : ℕ} {p : Sent} → Goes at after r number place key p
    → (named at r.sent ≡ named at (front place r.sent) ++ p ∷ named at (back place r.sent)) × (position_of number (named at r.sent) ≡ Some (length (named at (front place r.sent))))
goes-found {at} {after} {r} {number} {place} {key} {p} h =
    let o = once h in
    let e = h.place_is in
    let fs = front place r.sent in
    let bs = back place r.sent in
    let is : named at r.sent ≡ named at fs ++ p ∷ named at bs = ap (named at) o.is ∙ named-append at fs (key ∷ bs) ∙ ap (λ xs. named at fs ++ xs) (named-cons at key bs p h.there) in
    let here : at_place at r.sent place ≡ Some p = ap at h.key_is ∙ h.there in
    let number_is : p.command.number ≡ number =
    h.keeps.sent.numbered place p here ∙ ap (λ n. ahead n r.passed) (let same : length r.sent - (place + 1) ≡ ahead number r.passed = omega arith in same) ∙ ahead-ahead number r.passed h.low h.keeps.passed in
    let none : All (λ q. has_number number q ≡ false) (named at fs) =
    named-all (λ q. has_number number q ≡ false) at fs vacant (λ i q inside there.
    let short = length-take place r.sent in
    let less : i < place = omega arith in
    let at_i : at_place at r.sent i ≡ Some q = ap at (sym (get_or-take place r.sent i vacant less)) ∙ there in
    ne_eqb q.command.number number (λ same. let f = number-place at r.passed r.due_from r.sent number i q h.keeps.sent h.keeps.passed h.low at_i (omega arith) same in omega arith)) in
    (is, ap (position_of number) is ∙ position_at (has_number number) (named at fs) (named at bs) p none (eq-eqb p.command.number number number_is))

-- what is sent is so without it
pub goes-sent : {at after : ℕ → Option Sent} {r : Rings} {number place key : ℕ} {p : Sent} → Goes at after r number place key p
    → named after (set r.sent place vacant) ≡ without_place (named at r.sent) (position_of number (named at r.sent))
goes-sent {at} {after} {r} {number} {place} {key} {p} h =
    let o = once h in
    let f = goes-found h in
    let fs = front place r.sent in
    let bs = back place r.sent in
    let now : named after (set r.sent place vacant) ≡ named at fs ++ named at bs =
    ap (named after) (split_set r.sent place vacant o.inside) ∙ named-append after fs (vacant ∷ bs)
    ∙ ap (λ xs. named after fs ++ xs) (named-skip after vacant bs (vacant-after h))
    ∙ ap (λ xs. xs ++ named after bs) (named-other at after key fs o.in_front h.others)
    ∙ ap (λ xs. named at fs ++ xs) (named-other at after key bs o.in_back h.others) in
    let then : without_place (named at r.sent) (position_of number (named at r.sent)) ≡ named at fs ++ named at bs =
    ap (without_place (named at r.sent)) f.1 ∙ ap (λ xs. remove xs (length (named at fs))) f.0 ∙ remove_at (named at fs) (named at bs) p in
    now ∙ sym then

-- whether it matches goes by the time alone
pub goes-matching : {at after : ℕ → Option Sent} {r : Rings} {number place key : ℕ} {p : Sent} → Goes at after r number place key p → (time : ℕ)
    → matching_at time (named at r.sent) (position_of number (named at r.sent)) ≡ matching time (Some p)
goes-matching {at} {after} {r} {number} {place} {key} {p} h time =
    let f = goes-found h in
    let fs = front place r.sent in
    ap (matching_at time (named at r.sent)) f.1 ∙ ap (λ xs. matching time (slice_get xs (length (named at fs)))) f.0 ∙ ap (matching time) (get_at (named at fs) (named at (back place r.sent)) p)

pub goes-told : {at after : ℕ → Option Sent} {r : Rings} {number place key : ℕ} {p : Sent} → Goes at after r number place key p → (time : ℕ) → went_at time p.transmission ≡ true
    → matching_at time (named at r.sent) (position_of number (named at r.sent)) ≡ Some (told_of time p)
goes-told {p = p} h time went = let told : Option Acknowledged = Some (told_of time p) in goes-matching h time ∙ ap (λ b. cond b told None) went

-- where it wasn't sent at the time, nothing matches
pub goes-untimely : (at : ℕ → Option Sent) (r : Rings) (number place key : ℕ) (time : ℕ) → Keeps at r → number < 65536 → place + (ahead number r.passed + 1) ≡ length r.sent → get_or r.sent place vacant ≡ key
    → test_at (λ (p : Sent). went_at time p.transmission) (at key) ≡ false → matching_at time (named at r.sent) (position_of number (named at r.sent)) ≡ None
goes-untimely at r number place key time keeps low here is untimely = by (at key) refl untimely
  where
    by : (o : Option Sent) → at key ≡ o → test_at (λ (p : Sent). went_at time p.transmission) o ≡ false → matching_at time (named at r.sent) (position_of number (named at r.sent)) ≡ None
    by None e u =
        ap (matching_at time (named at r.sent)) (acknowledges-none at r number keeps low (λ other there.
        let same : other ≡ place = omega arith in
        ap (at_place at r.sent) same ∙ ap at is ∙ e))
    by (Some p) e u =
        let gone : ℕ → Option Sent = λ k. cond (eqb k key) None (at k) in
        let g : Goes at gone r number place key p = record {
          keeps = keeps;
          low = low;
          place_is = here;
          key_is = is;
          there = e;
          gone = ap (λ b. cond b None (at key)) (eq-eqb key key refl);
          others = λ k other. ap (λ b. cond b None (at k)) (ne_eqb k key other);
        } in
        let told : Option Acknowledged = Some (told_of time p) in
        goes-matching g time ∙ ap (λ b. cond b told None) u

pub goes-queued : {at after : ℕ → Option Sent} {r : Rings} {number place key : ℕ} {p : Sent} → Goes at after r number place key p → named after r.queued ≡ named at r.queued
goes-queued {at} {after} {r} {number} {place} {key} {p} h = named-other at after key r.queued (once h).queued h.others

-- what stands at a place of the ring stood there
stood_at : {at after : ℕ → Option Sent} {r : Rings} {number place key : ℕ} {p : Sent} → Goes at after r number place key p → (i : ℕ) (q : Sent) → at_place after (set r.sent place vacant) i ≡ Some q → at_place at r.sent i ≡ Some q
stood_at {at} {after} {r} {number} {place} {key} {p} h i q e =
    elim (cases_eq i place) [
      | inl same ↦ absurd (
          let is : get_or (set r.sent place vacant) i vacant ≡ vacant = ap (λ j. get_or (set r.sent place vacant) j vacant) same ∙ get_or-set_same r.sent place vacant vacant (once h).inside in
          let none = ap after is ∙ vacant-after h in cc)
      | inr other ↦ stood h (get_or r.sent i vacant) q (ap after (sym (get_or-set_other r.sent place i vacant vacant other)) ∙ e)
    ]

-- and it is due where it was
not_due-at : {at after : ℕ → Option Sent} {r : Rings} {number place key : ℕ} {p : Sent} → Goes at after r number place key p → (i : ℕ) → is_due (at_place at r.sent i) ≡ false → is_due (at_place after (set r.sent place vacant) i) ≡ false
not_due-at {at} {after} {r} {number} {place} {key} {p} h i was = by (at_place after (set r.sent place vacant) i) refl
  where
    by : (o : Option Sent) → at_place after (set r.sent place vacant) i ≡ o → is_due o ≡ false
    by None e = refl
    by (Some q) e = sym (ap is_due (stood_at h i q e)) ∙ was

goes-kept : {at after : ℕ → Option Sent} {r : Rings} {number place key : ℕ} {p : Sent} → Goes at after r number place key p → KeepsSent after r.passed r.due_from (set r.sent place vacant)
goes-kept {at} {after} {r} {number} {place} {key} {p} h =
    let len = length-set r.sent place vacant in record {
      few = let few = h.keeps.sent.few in omega arith;
      numbered = λ i q e. h.keeps.sent.numbered i q (stood_at h i q e) ∙ ap (λ n. ahead (n - (i + 1)) r.passed) (sym len);
      not_due = λ i from low. not_due-at h i (h.keeps.sent.not_due i from low);
      fits = All-set (λ (k : ℕ). k ≤ vacant) r.sent place vacant (omega arith) h.keeps.sent.fits;
    }

-- the rings once the place is vacant, and those before the first command are gone
abbrev pub vacated : Rings → List ℕ → ℕ → Rings
vacated r sent due = record { number = r.number; unreliable = r.unreliable; passed = r.passed; reliable = r.reliable; due_from = due; queued = r.queued; sent = sent }

goes-times : {at after : ℕ → Option Sent} {r : Rings} {number place key : ℕ} {p : Sent} → Goes at after r number place key p → (k : ℕ) → k < vacant → times k (set r.sent place vacant) + held at k ≡ times k r.sent + held after k
goes-times {at} {after} {r} {number} {place} {key} {p} h k low =
    let o = once h in
    let fs = front place r.sent in
    let bs = back place r.sent in
    let now : times k (set r.sent place vacant) ≡ times k fs + times k bs =
    ap (times k) (split_set r.sent place vacant o.inside) ∙ times-append k fs (vacant ∷ bs) ∙ ap (λ n. times k fs + n) (times-other k vacant bs (λ same. omega arith)) in
    let was : times k r.sent ≡ times k fs + times k (key ∷ bs) = ap (times k) o.is ∙ times-append k fs (key ∷ bs) in
    elim (cases_eq key k) [
      | inl same ↦
          let one = times-here k bs in
          let as_one : times k (key ∷ bs) ≡ times k (k ∷ bs) = ap (λ j. times k (j ∷ bs)) same in
          let held_was = held-some at k p (ap at (sym same) ∙ h.there) in
          let held_now = held-none after k (ap after (sym same) ∙ h.gone) in
          omega arith
      | inr other ↦
          let none = times-other k key bs other in
          let held_same = ap (λ (o : Option Sent). held (λ j. o) k) (h.others k (λ e. other (sym e))) in
          omega arith
    ]

pub goes-passes : {at after : ℕ → Option Sent} {r : Rings} {number place key : ℕ} {p : Sent} → Goes at after r number place key p → (sent : List ℕ) (due : ℕ) → Trims after (set r.sent place vacant) r.due_from sent due
    → Passes at after (keys_of r) (keys_of (vacated r sent due))
goes-passes {at} {after} {r} {number} {place} {key} {p} h sent due trims = record {
  others = λ k q low none e.
      h.others k (λ same.
      let o = once h in
      let all = times-append k r.queued r.sent in
      let was = ap (times k) o.is ∙ times-append k (front place r.sent) (key ∷ back place r.sent) in
      let here = times-here key (back place r.sent) in
      let as_one : times k (key ∷ back place r.sent) ≡ times key (key ∷ back place r.sent) = ap (λ j. times j (key ∷ back place r.sent)) same in
      omega arith) ∙ e;
  balanced = λ k low.
      let was = times-append k r.queued r.sent in
      let now = times-append k r.queued sent in
      let trimmed = trims.times k low in
      let changed = goes-times h k low in
      omega arith;
  nothing = vacant-after h;
}

pub goes-keeps : {at after : ℕ → Option Sent} {r : Rings} {number place key : ℕ} {p : Sent} → Goes at after r number place key p → (sent : List ℕ) (due : ℕ) → Trims after (set r.sent place vacant) r.due_from sent due
    → ((k : ℕ) → slice_get sent 0 ≡ Some k → k ≢ vacant) → Keeps after (vacated r sent due)
goes-keeps {at} {after} {r} {number} {place} {key} {p} h sent due trims first =
    let sent_kept = trims.kept r.passed (vacant-after h) (goes-kept h) in
    let same : commands_at after r.queued ≡ commands_at at r.queued = ap (map command_of) (goes-queued h) in record {
      nothing = vacant-after h;
      short = λ k q e. h.keeps.short k q (stood h k q e);
      names = λ k low.
          let balanced = (goes-passes h sent due trims).balanced k low in
          let names = h.keeps.names k low in
          omega arith;
      keys = h.keeps.keys;
      sent = sent_kept;
      first = λ k e. let other = first k e in let fits = first-fits sent k e sent_kept.fits in omega arith;
      passed = h.keeps.passed;
      goes_on = subst (λ (cs : List DataCommand). GoesOn r.passed cs r.number) (sym same) h.keeps.goes_on;
      counted = h.keeps.counted ∙ ap reliable_in (sym same);
      waits = subst (All (λ (q : Sent). q.transmission.due ≡ true)) (sym (goes-queued h)) h.keeps.waits;
    }
  where
    first-fits : (sent : List ℕ) (k : ℕ) → slice_get sent 0 ≡ Some k → All (λ (k : ℕ). k ≤ vacant) sent → k ≤ vacant
    first-fits [] k e all = cc
    first-fits (j ∷ sent) k e all = let is : j ≡ k = cc in subst (λ (k : ℕ). k ≤ vacant) is (all 0 j (omega arith))
