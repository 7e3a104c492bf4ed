-- What one channel's call leaves to the others.
use Rattle.std.proofs.Common.{inl, inr, ◌≡◌, ◌≢◌, ℕ, zero, suc, ◌+◌, ◌<◌, ◌≤◌, true, List, [], ◌∷◌, length, map, get_or, set, Option, Some, None, refl, sym, ap, subst, ◌∙◌, arith, All}
use Rattle.std.proofs.lemmas.Bool.{cases_eq, cases_lt}
use Rattle.std.proofs.lemmas.List.{length-set, get_or-set_same, get_or-set_other, get_or_default, get_or_past, map-set}
use Rattle.std.proofs.lemmas.List.Sums.{sum_by-cons, sum_by-set, get_or-le-sum_by}
use Rattle.std.specs.List.{sum_by, slice_get}
use Rattle.std.specs.Option.{option_map}
use Rattle.std.proofs.lemmas.Option.{slice_get_read, slice_get-map}
use Rattle.slab.specs.Slab.{Slab, get}
use Rattle.enet_fragment.specs.declared.data.DataCommand.{DataCommand}
use Rattle.enet_sender.specs.declared.sent.Sent.{Sent}
use Rattle.enet_sender.specs.Due.{SendingEnd}
use Rattle.enet_sender.specs.Invariant.{reliable_in}
use Rattle.enet_sender.specs.declared.outgoing.Outgoing.{Outgoing}
use Rattle.enet_sender.specs.Pending.{vacant, named, times, held, Passes}
use Rattle.enet_sender.specs.Rings.{HasRoom, Rings, no_rings, rings_of, Keeps, GoesOn, at_place, is_due, keys_of, commands_at, command_of, end_of}
use Rattle.enet_senders.specs.Senders.{ends_of, times_in, KeepsAll}
use Rattle.std.proofs.lemmas.List.Elements.{All-set, All-get_or, All-nil}
use Rattle.enet_sender.proofs.Named.{times-append, times-some, held-some, some-held, named-same}

-- two terms of a sum
sum-two : {X : Type 0} (f : X → ℕ) (xs : List X) (i j : ℕ) (d : X) → i < length xs → j < length xs → i ≢ j → f (get_or xs i d) + f (get_or xs j d) ≤ sum_by f xs
sum-two f [] i j d inside within other = absurd (omega arith)
sum-two f (x ∷ xs) zero zero d inside within other = absurd (other refl)
sum-two f (x ∷ xs) zero (suc j) d inside within other =
    let e = sum_by-cons f x xs in
    let h = get_or-le-sum_by f xs j d (omega arith) in
    omega arith
sum-two f (x ∷ xs) (suc i) zero d inside within other =
    let e = sum_by-cons f x xs in
    let h = get_or-le-sum_by f xs i d (omega arith) in
    omega arith
sum-two f (x ∷ xs) (suc i) (suc j) d inside within other =
    let e = sum_by-cons f x xs in
    let h = sum-two f xs i j d (omega arith) (omega arith) (λ same. other (ap (λ n. suc n) same)) in
    omega arith

maps-same : {X Y : Type 0} (f g : X → Y) (xs : List X) (d : X) → ((j : ℕ) → j < length xs → f (get_or xs j d) ≡ g (get_or xs j d)) → map f xs ≡ map g xs
maps-same f g [] d same = refl
maps-same f g (x ∷ xs) d same =
    let here : f x ≡ g x = same 0 (omega arith) in
    ap (λ z. z ∷ map f xs) here ∙ ap (λ zs. g x ∷ zs) (maps-same f g xs d (λ j inside. same (suc j) (omega arith)))

-- a list written at one place, where two maps agree at all others
maps-agree : {X Y : Type 0} (f g : X → Y) (xs : List X) (i : ℕ) (y : Y) (d : X) → ((j : ℕ) → j < length xs → j ≢ i → f (get_or xs j d) ≡ g (get_or xs j d)) → set (map f xs) i y ≡ set (map g xs) i y
maps-agree f g [] i y d same = refl
maps-agree f g (x ∷ xs) zero y d same = ap (λ zs. y ∷ zs) (maps-same f g xs d (λ j inside. same (suc j) (omega arith) (λ e. omega arith)))
maps-agree f g (x ∷ xs) (suc i) y d same =
    let here : f x ≡ g x = same 0 (omega arith) (λ e. omega arith) in
    ap (λ z. z ∷ set (map f xs) i y) here ∙ ap (λ zs. g x ∷ zs) (maps-agree f g xs i y d (λ j inside other. same (suc j) (omega arith) (λ e. other (omega arith))))

-- what stands under the keys of a ring is the same
abbrev Agrees : (ℕ → Option Sent) → (ℕ → Option Sent) → List ℕ → Type 0
Agrees at after keys = (i : ℕ) → i < length keys → after (get_or keys i vacant) ≡ at (get_or keys i vacant)

place-agrees : (at after : ℕ → Option Sent) (ring : List ℕ) (i : ℕ) → after vacant ≡ at vacant → Agrees at after ring → at_place after ring i ≡ at_place at ring i
place-agrees at after ring i none same =
    elim (cases_lt i (length ring)) [
      | inl inside ↦ same i inside
      | inr past ↦ let e = get_or_past ring i vacant past in ap after e ∙ none ∙ sym (ap at e)
    ]

-- a channel to whose keys nothing happens
pub keeps-other : (at after : ℕ → Option Sent) (r : Rings) → Keeps at r → after vacant ≡ None → ((key : ℕ) (p : Sent) → after key ≡ Some p → length p.command.body ≤ 4068)
    → Agrees at after r.queued → Agrees at after r.sent → ((key : ℕ) → key < vacant → times key (keys_of r) ≤ held after key) → Keeps after r
keeps-other at after r keeps none short queued sent names =
    let same : commands_at after r.queued ≡ commands_at at r.queued = ap (map command_of) (named-same at after r.queued vacant queued) in
    let both = none ∙ sym keeps.nothing in record {
      nothing = none;
      short = short;
      names = names;
      keys = keeps.keys;
      sent = record {
        few = keeps.sent.few;
        numbered = λ i p e. keeps.sent.numbered i p (sym (place-agrees at after r.sent i both sent) ∙ e);
        not_due = λ i from low. ap is_due (place-agrees at after r.sent i both sent) ∙ keeps.sent.not_due i from low;
        fits = keeps.sent.fits;
      };
      first = keeps.first;
      passed = keeps.passed;
      goes_on = subst (λ (cs : List DataCommand). GoesOn r.passed cs r.number) (sym same) keeps.goes_on;
      counted = keeps.counted ∙ ap reliable_in (sym same);
      waits = subst (All (λ (p : Sent). p.transmission.due ≡ true)) (sym (named-same at after r.queued vacant queued)) keeps.waits;
    }

-- a key of another channel keeps its command
key-stays : (at after : ℕ → Option Sent) (old new : List ℕ) (key others : ℕ) → Passes at after old new → at vacant ≡ None → key ≤ vacant → 1 ≤ others → (key < vacant → times key old + others ≤ held at key) → after key ≡ at key
key-stays at after old new key others passes none fits some most =
    elim (cases_eq key vacant) [
      | inl same ↦ ap after same ∙ passes.nothing ∙ sym (ap at same ∙ none)
      | inr other ↦
          let low : key < vacant = omega arith in
          let few = most low in
          let there = some-held (at key) (omega arith) in
          passes.others key there.0 low (let one = held-some at key there.0 there.1 in omega arith) there.1 ∙ sym there.1
    ]

-- the other channels keep what they have, and the list of their ends is written at one place
pub record Framed (s t : Slab Sent) (channels : List Outgoing) (i : ℕ) (new : Outgoing) : Type 0 where
  pub keeps : KeepsAll (get t) (set channels i new)
  pub ends : ends_of t (set channels i new) ≡ set (ends_of s channels) i (end_of t new)

pub framed : (s t : Slab Sent) (channels : List Outgoing) (i : ℕ) (old new : Outgoing) → i < length channels → get_or channels i old ≡ old → KeepsAll (get s) channels
    → Keeps (get t) (rings_of new) → Passes (get s) (get t) (keys_of (rings_of old)) (keys_of (rings_of new)) → HasRoom new → Framed s t channels i new
framed s t channels i old new inside is all kept passes room = record {
  keeps = record { each = each; nothing = passes.nothing; short = kept.short; names = names; room = All-set HasRoom channels i new room all.room };
  ends = map-set (end_of t) channels i new ∙ maps-agree (end_of t) (end_of s) channels i (end_of t new) old same;
}
  where
    at : ℕ → Option Sent
    at = get s

    after : ℕ → Option Sent
    after = get t

    two : (key j : ℕ) → key < vacant → j < length channels → j ≢ i → times key (keys_of (rings_of old)) + times_in key (get_or channels j old) ≤ held at key
    two key j low within other =
        let h = sum-two (times_in key) channels i j old inside within (λ e. other (sym e)) in
        let e = ap (times_in key) is in
        let most = all.names key low in
        omega arith

    agrees_queued : (j : ℕ) → j < length channels → j ≢ i → Agrees at after (get_or channels j old).queued.items
    agrees_queued j within other k inside_ring =
        let o = get_or channels j old in
        let keeps : Keeps at (rings_of o) = all.each j old within in
        let key = get_or o.queued.items k vacant in
        let low : key < vacant = keeps.keys k vacant inside_ring in
        let some = times-some o.queued.items k vacant inside_ring in
        let sum = times-append key o.queued.items o.sent.items in
        key-stays at after (keys_of (rings_of old)) (keys_of (rings_of new)) key (times_in key o) passes all.nothing (omega arith) (omega arith) (λ less. two key j less within other)

    agrees_sent : (j : ℕ) → j < length channels → j ≢ i → Agrees at after (get_or channels j old).sent.items
    agrees_sent j within other k inside_ring =
        let o = get_or channels j old in
        let keeps : Keeps at (rings_of o) = all.each j old within in
        let key = get_or o.sent.items k vacant in
        let fits : key ≤ vacant = keeps.sent.fits k vacant inside_ring in
        let some = times-some o.sent.items k vacant inside_ring in
        let sum = times-append key o.queued.items o.sent.items in
        key-stays at after (keys_of (rings_of old)) (keys_of (rings_of new)) key (times_in key o) passes all.nothing fits (omega arith) (λ less. two key j less within other)

    names : (key : ℕ) → key < vacant → sum_by (times_in key) (set channels i new) ≡ held after key
    names key low =
        let sum = sum_by-set (times_in key) channels i new old inside in
        let e = ap (times_in key) is in
        let most = all.names key low in
        let balanced = passes.balanced key low in
        omega arith

    other_keeps : (j : ℕ) → j < length channels → j ≢ i → Keeps after (rings_of (get_or channels j old))
    other_keeps j within other =
        keeps-other at after (rings_of (get_or channels j old)) (all.each j old within) passes.nothing kept.short (agrees_queued j within other) (agrees_sent j within other)
        (λ key low.
        let e = get_or-set_other channels i j new old other in
        let same = ap (times_in key) e in
        let len = length-set channels i new in
        let part = get_or-le-sum_by (times_in key) (set channels i new) j old (omega arith) in
        let most = names key low in
        omega arith)

    each : All (λ (o : Outgoing). Keeps after (rings_of o)) (set channels i new)
    each j d within =
        let len = length-set channels i new in
        elim (cases_eq j i) [
          | inl same ↦
              let e : get_or (set channels i new) j d ≡ new = ap (λ k. get_or (set channels i new) k d) same ∙ get_or-set_same channels i new d inside in
              subst (λ (o : Outgoing). Keeps after (rings_of o)) (sym e) kept
          | inr other ↦
              let e : get_or (set channels i new) j d ≡ get_or channels j old = get_or-set_other channels i j new d other ∙ get_or_default channels j d old (omega arith) in
              subst (λ (o : Outgoing). Keeps after (rings_of o)) (sym e) (other_keeps j (omega arith) other)
        ]

    same : (j : ℕ) → j < length channels → j ≢ i → end_of t (get_or channels j old) ≡ end_of s (get_or channels j old)
    same j within other =
        let o = get_or channels j old in
        let queued : commands_at after o.queued.items ≡ commands_at at o.queued.items = ap (map command_of) (named-same at after o.queued.items vacant (agrees_queued j within other)) in
        let sent : named after o.sent.items ≡ named at o.sent.items = named-same at after o.sent.items vacant (agrees_sent j within other) in
        λ k. record { channel = o.channel; sender = record { number = o.number; unreliable = o.unreliable; queued = queued k; sent = sent k } }

-- the end of one channel, as the list has it
pub end-there : (s : Slab Sent) (channels : List Outgoing) (i : ℕ) (old : Outgoing) (e : SendingEnd) → i < length channels → get_or channels i old ≡ old → slice_get (ends_of s channels) i ≡ Some e → end_of s old ≡ e
end-there s channels i old e inside is there =
    let one : slice_get channels i ≡ Some old = slice_get_read channels (length channels) i old refl inside (sym is) in
    let same : Some (end_of s old) ≡ Some e = sym (slice_get-map (end_of s) channels i ∙ ap (λ o. option_map (end_of s) o) one) ∙ there in
    cc

-- one channel's end becomes what the call makes of it, and the others stay
pub framed-write : {s t : Slab Sent} {channels : List Outgoing} {i : ℕ} {new : Outgoing} (h : Framed s t channels i new) (f : SendingEnd → SendingEnd) (old : Outgoing) → i < length channels → get_or channels i old ≡ old → end_of t new ≡ f (end_of s old)
    → (k : ℕ) → i ≡ k → (e : SendingEnd) → slice_get (ends_of s channels) k ≡ Some e → ends_of t (set channels i new) ≡ set (ends_of s channels) k (f e)
framed-write {s} {t} {channels} {i} {new} h f old inside is made k same e there =
    let here = end-there s channels i old e inside is (ap (λ j. slice_get (ends_of s channels) j) same ∙ there) in
    h.ends ∙ ap (λ x. set (ends_of s channels) i x) (made ∙ ap f here) ∙ ap (λ j. set (ends_of s channels) j (f e)) same

-- a channel of the list
pub room-there : (at : ℕ → Option Sent) (channels : List Outgoing) (i : ℕ) (old : Outgoing) → KeepsAll at channels → i < length channels → get_or channels i old ≡ old → HasRoom old
room-there at channels i old all inside is = subst HasRoom is (All-get_or HasRoom channels i old inside all.room)

-- one channel to which nothing was submitted
pub keeps-new : (at : ℕ → Option Sent) → at vacant ≡ None → ((key : ℕ) (p : Sent) → at key ≡ Some p → length p.command.body ≤ 4068) → Keeps at no_rings
keeps-new at nothing short = record {
  nothing = nothing;
  short = short;
  names = λ key low. omega arith;
  keys = All-nil (λ (key : ℕ). key < vacant);
  sent = record {
    few = omega arith;
    numbered = λ place p e. absurd (cc);
    not_due = λ place from low. ap is_due nothing;
    fits = All-nil (λ (key : ℕ). key ≤ vacant);
  };
  first = λ key e. absurd (cc);
  passed = omega arith;
  goes_on = refl;
  counted = refl;
  waits = All-nil (λ (p : Sent). p.transmission.due ≡ true);
}
