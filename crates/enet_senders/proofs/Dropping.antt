-- Channels that have no command any more.
use Rattle.std.proofs.Common.{inl, inr, ◌≡◌, ℕ, zero, suc, ◌+◌, ◌<◌, ◌≤◌, false, ltb, List, [], ◌∷◌, ◌++◌, length, drop, get_or, set, take, Option, Some, refl, sym, ap, ap₂, subst, ◌∙◌, arith}
use Rattle.std.specs.List.{slice_get, sum_by}
use Rattle.std.specs.Option.{option_map}
use Rattle.std.proofs.lemmas.Bool.{cases_eq, lt-ltb}
use Rattle.std.proofs.lemmas.List.{length-map, append-nil, get_or-set_same, get_or-set_other}
use Rattle.std.proofs.lemmas.List.Sums.{sum_by-cons}
use Rattle.std.proofs.lemmas.Option.{slice_get-get_or, slice_get-map, slice_get_within, get_or_from_slice_get}
use Rattle.slab.specs.Slab.{Slab, get}
use Rattle.enet_fragment.specs.declared.data.DataCommand.{DataCommand}
use Rattle.enet_sender.specs.declared.sent.Sent.{Sent}
use Rattle.enet_sender.specs.declared.outgoing.Outgoing.{Outgoing}
use Rattle.enet_sender.specs.Due.{SendingEnd, new_end}
use Rattle.enet_sender.specs.Pending.{named, times}
use Rattle.enet_sender.specs.Rings.{Rings, Keeps, rings_of, keys_of, commands_at, command_of, end_of}
use Rattle.enet_sender.proofs.Sending.{head-there, by_first}
use Rattle.enet_sender.proofs.Skipping.{some-named, first-there}
use Rattle.enet_senders.specs.Senders.{ends_of, times_in, cleared_end, KeepsAll}

-- nothing is queued or sent
pub record IsBare (e : SendingEnd) : Type 0 where
  pub queued : e.sender.queued ≡ []
  pub sent : e.sender.sent ≡ []

-- nor is it on the channels from one place on, up to another
abbrev pub AreBare : ℕ → ℕ → List SendingEnd → Type 0
AreBare from until es = (j : ℕ) → from ≤ j → j < until → IsBare (get_or es j (new_end 0))

-- one more is cleared
pub one-bare : (n i : ℕ) (ys zs : List SendingEnd) → i < length ys → ((s : SendingEnd) → slice_get ys i ≡ Some s → zs ≡ set ys i (cleared_end s)) → AreBare n i ys → AreBare n (i + 1) zs
one-bare n i ys zs inside cleared bare j from until =
    let s = get_or ys i (new_end 0) in
    let is : zs ≡ set ys i (cleared_end s) = cleared s (slice_get-get_or ys i (new_end 0) inside) in
    let at : get_or zs j (new_end 0) ≡ get_or (set ys i (cleared_end s)) j (new_end 0) = ap (λ (xs : List SendingEnd). get_or xs j (new_end 0)) is in
    elim (cases_eq j i) [
      | inl same ↦
          let e : get_or zs j (new_end 0) ≡ cleared_end s = at ∙ ap (λ k. get_or (set ys i (cleared_end s)) k (new_end 0)) same ∙ get_or-set_same ys i (cleared_end s) (new_end 0) inside in
          subst IsBare (sym e) (record { queued = refl; sent = refl })
      | inr other ↦ subst IsBare (sym (at ∙ get_or-set_other ys i j (cleared_end s) (new_end 0) other)) (bare j from (omega arith))
    ]

-- the rings of such a channel have no key
empty-by : (keys : List ℕ) → ltb 0 (length keys) ≡ false → keys ≡ []
empty-by [] none = refl
empty-by (k ∷ keys) none = absurd (let some = lt-ltb 0 (suc (length keys)) (omega arith) in cc)

bare-keys : (at : ℕ → Option Sent) (r : Rings) → Keeps at r → commands_at at r.queued ≡ [] → named at r.sent ≡ [] → keys_of r ≡ []
bare-keys at r keeps queued sent =
    let q : ltb 0 (length r.queued) ≡ false =
    some-named at r.queued (λ key is. head-there at r key (drop 1 r.queued) keeps (by_first r.queued key is))
    ∙ ap (λ n. ltb 0 n) (sym (length-map (named at r.queued) command_of) ∙ ap (λ (cs : List DataCommand). length cs) queued) in
    let s : ltb 0 (length r.sent) ≡ false =
    some-named at r.sent (λ key is. first-there at r r.sent r.queued [] key keeps (keeps.first key is) (sym (append-nil (r.queued ++ r.sent))) is)
    ∙ ap (λ (ps : List Sent). ltb 0 (length ps)) sent in
    ap₂ (λ (a b : List ℕ). a ++ b) (empty-by r.queued q) (empty-by r.sent s)

pub bare-times : (s : Slab Sent) (n : ℕ) (channels : List Outgoing) → KeepsAll (get s) channels → AreBare n (length channels) (ends_of s channels)
    → (key j : ℕ) (o : Outgoing) → n ≤ j → slice_get channels j ≡ Some o → times_in key o ≡ 0
bare-times s n channels all bare key j o behind there =
    let within = slice_get_within channels j o there in
    let keeps : Keeps (get s) (rings_of o) = subst (λ (o : Outgoing). Keeps (get s) (rings_of o)) (get_or_from_slice_get channels j o o there) (all.each j o within) in
    let at : slice_get (ends_of s channels) j ≡ Some (end_of s o) = slice_get-map (end_of s) channels j ∙ ap (λ o. option_map (end_of s) o) there in
    let none : IsBare (end_of s o) = subst IsBare (get_or_from_slice_get (ends_of s channels) j (end_of s o) (new_end 0) at) (bare j behind within) in
    ap (times key) (bare-keys (get s) (rings_of o) keeps none.queued none.sent)

-- a sum over the first, where the others add nothing
sum-none : {X : Type 0} (f : X → ℕ) (xs : List X) → ((j : ℕ) (x : X) → slice_get xs j ≡ Some x → f x ≡ 0) → sum_by f xs ≡ 0
sum-none f [] none = refl
sum-none f (x ∷ xs) none =
    let here : f x ≡ 0 = none 0 x refl in
    let rest = sum-none f xs (λ j y there. none (suc j) y there) in
    let both = sum_by-cons f x xs in
    omega arith

pub sum-front : {X : Type 0} (f : X → ℕ) (n : ℕ) (xs : List X) → ((j : ℕ) (x : X) → n ≤ j → slice_get xs j ≡ Some x → f x ≡ 0) → sum_by f (take n xs) ≡ sum_by f xs
sum-front f zero xs none = sym (sum-none f xs (λ j x there. none j x (omega arith) there))
sum-front f (suc n) [] none = refl
sum-front f (suc n) (x ∷ xs) none =
    let rest = sum-front f n xs (λ j y behind there. none (suc j) y (omega arith) there) in
    let one = sum_by-cons f x (take n xs) in
    let all = sum_by-cons f x xs in
    omega arith
