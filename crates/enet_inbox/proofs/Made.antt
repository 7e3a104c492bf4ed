-- An inbox of all channels, by that of the receivers that are made.
use Rattle.std.proofs.Common.{◌≡◌, ℕ, zero, suc, ◌+◌, ◌-◌, ◌*◌, ◌<◌, ◌≤◌, ◌^◌, min, ltb, inl, inr, true, false, cond, Option, Some, None, Ok, is_ok, List, [], ◌∷◌, ◌++◌, All, length, map, take, get_or, set, sum_by, refl, sym, ap, ap₂, subst, ◌∙◌, arith, length-append, length-set}
use Rattle.std.specs.Prelude.{slice_get}
use Rattle.std.specs.List.{range_with_len}
use Rattle.std.proofs.Math.Nat.{mul-le-mul_right}
use Rattle.std.proofs.lemmas.Bool.{cases_lt, lt-ltb}
use Rattle.std.proofs.lemmas.Bool.Decides.{nat_tests}
use Rattle.std.proofs.lemmas.List.{append-nil, append_assoc, map-append, length-map, length-take-le, set-append_left, take_all, take-append-le, get_or_append_left, get_or-append_right}
use Rattle.std.proofs.lemmas.List.FromFn.{length-map-range_with_len, get_or-map-range_with_len, take-map-range_with_len, map-range_with_len_more}
use Rattle.std.proofs.lemmas.List.Sums.{sum_by-append, sum_by-cons}
use Rattle.std.proofs.lemmas.Option.{slice_get-get_or, slice_get_past, slice_get_read}
use Rattle.enet_seq.specs.Windows.{acknowledges}
use Rattle.enet_fragment.specs.declared.data.DataCommand.{DataCommand}
use Rattle.enet_receiver.specs.declared.took.Took.{Took}
use Rattle.enet_receiver.specs.declared.took.Took.TheVariants.{Held, Again, Outside, Bad, Waiting, Memory}
use Rattle.enet_receiver.specs.Receiver.{held_bytes, held_packets}
use Rattle.enet_receiver.specs.DataOutcome.{is_next}
use Rattle.enet_receiver.specs.Foresight.{ReceivingEnd, new_end, outcome_for, after_command, foreseen}
use Rattle.enet_receiver.specs.Places.{early_packets}
use Rattle.enet_receiver.specs.Room.{early_bytes}
use Rattle.enet_receiver.proofs.Rooming.{early_least}
use Rattle.enet_inbox.specs.declared.arriving.Foreseen.{Foreseen}
use Rattle.enet_inbox.specs.declared.inbox.Inbox.TheInside.{Inside}
use Rattle.enet_inbox.specs.Inbox.{Inbox, empty_inbox, place_limit, untaken_of, waiting_of, places_of, is_at_limit, is_full, is_full_of_untaken, is_full_for, cleared, cleared_receiver, forgotten, narrowed, given_way, given_way_receiver}
use Rattle.enet_inbox.specs.DataEffect.{DataEffect, by_took, sequenced, sequenced_on, handled, handed_over, emptied, packet_of}
use Rattle.enet_inbox.specs.InboxParts.{inbox_of, foresight_on, foreseen_sequenced, seen_of}
use Rattle.enet_inbox.specs.Invariant.{IsInPlace, KeepsInbox, Keeps, packets_in}
use Rattle.enet_inbox.specs.Made.{all_receivers, with_all}
use Rattle.enet_inbox.specs.Private.InboxParts.{new_at, FindsRoom}
use Rattle.enet_inbox.specs.Private.Invariant.{HasFront, held_in}
use Rattle.enet_inbox.proofs.Keeping.{in_place, nothing_held, new_in_place}
use Rattle.enet_inbox.proofs.Counting.{none_of_packets}
use Rattle.enet_inbox.proofs.Bounding.{early_or_next, few_held}
use Rattle.enet_inbox.proofs.Weighing.{light_held}

-- receivers to which nothing came
abbrev news : ℕ → ℕ → ℕ → List ReceivingEnd
news most from n = map (λ channel. new_end channel most) (range_with_len from n)

-- the inbox of the receivers that are made
abbrev pub made_of : Inside → Inbox
made_of i = inbox_of i.max_packet i.max_waiting i.receivers.items i.groups i.untaken.items

-- ---- lists

front : {X : Type 0} (xs ys : List X) (i : ℕ) → i < length xs → slice_get (xs ++ ys) i ≡ slice_get xs i
front [] ys i low = absurd (omega arith)
front (x ∷ xs) ys zero low = refl
front (x ∷ xs) ys (suc i) low = front xs ys i (omega arith)

behind : {X : Type 0} (xs ys : List X) (i : ℕ) → length xs ≤ i → slice_get (xs ++ ys) i ≡ slice_get ys (i - length xs)
behind [] ys i past = let same : i ≡ i - 0 = omega arith in ap (slice_get ys) same
behind (x ∷ xs) ys zero past = absurd (omega arith)
behind (x ∷ xs) ys (suc i) past = let same : i - length xs ≡ suc i - suc (length xs) = omega arith in behind xs ys i (omega arith) ∙ ap (slice_get ys) same

take-past : {X : Type 0} (n : ℕ) (xs ys : List X) → length xs ≤ n → take n (xs ++ ys) ≡ xs ++ take (n - length xs) ys
take-past n [] ys past = let same : n ≡ n - 0 = omega arith in ap (λ m. take m ys) same
take-past zero (x ∷ xs) ys past = absurd (omega arith)
take-past (suc n) (x ∷ xs) ys past =
    let same : n - length xs ≡ suc n - suc (length xs) = omega arith in
    ap (λ zs. x ∷ zs) (take-past n xs ys (omega arith) ∙ ap (λ m. xs ++ take m ys) same)

-- some, and those that follow
split : (most from a b : ℕ) → news most from a ++ news most (from + a) b ≡ news most from (a + b)
split most from zero b =
    let start : from + 0 ≡ from = omega arith in
    let long : b ≡ 0 + b = omega arith in
    ap₂ (news most) start long
split most from (suc a) b =
    let start : from + suc a ≡ from + 1 + a = omega arith in
    let long : suc (a + b) ≡ suc a + b = omega arith in
    ap (λ n. new_end from most ∷ (news most (from + 1) a ++ news most n b)) start ∙ ap (λ rs. new_end from most ∷ rs) (split most (from + 1) a b) ∙ ap (news most from) long

fixed : (most : ℕ) (f : ReceivingEnd → ReceivingEnd) → ((c : ℕ) → f (new_end c most) ≡ new_end c most) → (ns : List ℕ) → map f (map (λ channel. new_end channel most) ns) ≡ map (λ channel. new_end channel most) ns
fixed most f same [] = refl
fixed most f same (n ∷ ns) = ap₂ (λ (r : ReceivingEnd) (rs : List ReceivingEnd). r ∷ rs) (same n) (fixed most f same ns)

none-in : (most : ℕ) (f : ReceivingEnd → ℕ) → ((c : ℕ) → f (new_end c most) ≡ 0) → (ns : List ℕ) → sum_by f (map (λ channel. new_end channel most) ns) ≡ 0
none-in most f zeros [] = refl
none-in most f zeros (n ∷ ns) =
    let one = zeros n in
    let rest = none-in most f zeros ns in
    let both = sum_by-cons f (new_end n most) (map (λ channel. new_end channel most) ns) in
    omega arith

-- ---- all receivers

pub all_length : (most count : ℕ) (rs : List ReceivingEnd) → length rs ≤ count → length (all_receivers most count rs) ≡ count
unfolding all_receivers
all_length most count rs within =
    let both = length-append rs (news most (length rs) (count - length rs)) in
    let others = length-map-range_with_len (λ channel. new_end channel most) (length rs) (count - length rs) in
    omega arith

-- one that is made
pub all_at : (most count : ℕ) (rs : List ReceivingEnd) (i : ℕ) → i < length rs → slice_get (all_receivers most count rs) i ≡ slice_get rs i
unfolding all_receivers
all_at most count rs i low = front rs (news most (length rs) (count - length rs)) i low

-- one that isn't
pub all_new : (most count : ℕ) (rs : List ReceivingEnd) (i : ℕ) → length rs ≤ i → i < count → slice_get (all_receivers most count rs) i ≡ Some (new_end i most)
unfolding all_receivers
all_new most count rs i past low =
    let others = news most (length rs) (count - length rs) in
    let ends : ℕ → ReceivingEnd = λ channel. new_end channel most in
    let long = length-map-range_with_len ends (length rs) (count - length rs) in
    let inside : i - length rs < length others = omega arith in
    behind rs others i past ∙ slice_get-get_or others (i - length rs) (new_end 0 most) inside
    ∙ ap Some (get_or-map-range_with_len ends (length rs) (count - length rs) (i - length rs) i (new_end 0 most) (omega arith) (omega arith))

pub all_past : (most count : ℕ) (rs : List ReceivingEnd) (i : ℕ) → length rs ≤ count → count ≤ i → slice_get (all_receivers most count rs) i ≡ None
all_past most count rs i within past =
    let long = all_length most count rs within in
    slice_get_past (all_receivers most count rs) i (omega arith)

pub all_set : (most count : ℕ) (rs : List ReceivingEnd) (i : ℕ) (r : ReceivingEnd) → i < length rs → all_receivers most count (set rs i r) ≡ set (all_receivers most count rs) i r
unfolding all_receivers
all_set most count rs i r low =
    ap (λ n. set rs i r ++ news most n (count - n)) (length-set rs i r) ∙ sym (set-append_left rs (news most (length rs) (count - length rs)) i r low)

pub all_map : (most count : ℕ) (rs : List ReceivingEnd) (f : ReceivingEnd → ReceivingEnd) → ((c : ℕ) → f (new_end c most) ≡ new_end c most) → all_receivers most count (map f rs) ≡ map f (all_receivers most count rs)
unfolding all_receivers
all_map most count rs f same =
    let others = news most (length rs) (count - length rs) in
    ap (λ n. map f rs ++ news most n (count - n)) (length-map rs f)
    ∙ ap (λ xs. map f rs ++ xs) (sym (fixed most f same (range_with_len (length rs) (count - length rs))))
    ∙ sym (map-append f rs others)

pub all_sum : (most count : ℕ) (rs : List ReceivingEnd) (f : ReceivingEnd → ℕ) → ((c : ℕ) → f (new_end c most) ≡ 0) → sum_by f (all_receivers most count rs) ≡ sum_by f rs
unfolding all_receivers
all_sum most count rs f zeros =
    let both = sum_by-append f rs (news most (length rs) (count - length rs)) in
    let rest = none-in most f zeros (range_with_len (length rs) (count - length rs)) in
    omega arith

pub all_none : (most count : ℕ) → all_receivers most count [] ≡ map (λ channel. new_end channel most) (range_with_len 0 count)
unfolding all_receivers
all_none most count = let same : count - 0 ≡ count = omega arith in ap (news most 0) same

-- some are made
pub all_pushed : (most n : ℕ) (rs made : List ReceivingEnd) (r : ReceivingEnd) → length rs ≤ n → made ≡ all_receivers most n rs → r ≡ new_end n most → made ++ r ∷ [] ≡ all_receivers most (n + 1) rs
unfolding all_receivers
all_pushed most n rs made r within is new =
    let others = news most (length rs) (n - length rs) in
    let more : n - length rs + 1 ≡ n + 1 - length rs = omega arith in
    (λ i. is i ++ new i ∷ []) ∙ append_assoc rs others (new_end n most ∷ [])
    ∙ ap (λ xs. rs ++ xs) (sym (map-range_with_len_more (λ channel. new_end channel most) (length rs) (n - length rs) n (omega arith)) ∙ ap (news most (length rs)) more)

pub all_begun : (most n : ℕ) (rs : List ReceivingEnd) → n ≡ length rs → rs ≡ all_receivers most n rs
unfolding all_receivers
all_begun most n rs is =
    let none_more : n - length rs ≡ 0 = omega arith in
    sym (append-nil rs) ∙ ap (λ k. rs ++ news most (length rs) k) (sym none_more)

outer : (most n m : ℕ) (rs : List ReceivingEnd) → length (all_receivers most m rs) ≡ m → all_receivers most n (all_receivers most m rs) ≡ all_receivers most m rs ++ news most m (n - m)
unfolding all_receivers
outer most n m rs long = ap (λ k. (rs ++ news most (length rs) (m - length rs)) ++ news most k (n - k)) long

inner : (most n m : ℕ) (rs : List ReceivingEnd) → length rs ≤ m → m ≤ n → all_receivers most m rs ++ news most m (n - m) ≡ all_receivers most n rs
unfolding all_receivers
inner most n m rs low high =
    let start : m ≡ length rs + (m - length rs) = omega arith in
    let long : m - length rs + (n - m) ≡ n - length rs = omega arith in
    append_assoc rs (news most (length rs) (m - length rs)) (news most m (n - m))
    ∙ ap (λ k. rs ++ (news most (length rs) (m - length rs) ++ news most k (n - m))) start
    ∙ ap (λ xs. rs ++ xs) (split most (length rs) (m - length rs) (n - m) ∙ ap (news most (length rs)) long)

made-all : (most n m : ℕ) (rs : List ReceivingEnd) → length rs ≤ m → m ≤ n → all_receivers most n (all_receivers most m rs) ≡ all_receivers most n rs
made-all most n m rs low high = outer most n m rs (all_length most m rs low) ∙ inner most n m rs low high

-- those that were made are among them
pub made_more : (most : ℕ) (rs made : List ReceivingEnd) → made ≡ all_receivers most (length made) rs → length rs ≤ length made
unfolding all_receivers
made_more most rs made is =
    let both = length-append rs (news most (length rs) (length made - length rs)) in
    let long : length made ≡ length (rs ++ news most (length rs) (length made - length rs)) = ap (λ (xs : List ReceivingEnd). length xs) is in
    omega arith

pub all_made : (most count : ℕ) (rs made : List ReceivingEnd) → made ≡ all_receivers most (length made) rs → length made ≤ count → all_receivers most count made ≡ all_receivers most count rs
all_made most count rs made is within =
    ap (all_receivers most count) is ∙ made-all most count (length made) rs (made_more most rs made is) within

-- only the first channels stay
pub all_taken : (most k n : ℕ) (rs : List ReceivingEnd) → k ≤ n → length rs ≤ n → all_receivers most k (take (min (length rs) k) rs) ≡ take k (all_receivers most n rs)
unfolding all_receivers
all_taken most k n rs low within =
    let others = news most (length rs) (n - length rs) in
    elim (cases_lt k (length rs)) [
      | inl fewer ↦
          let least : min (length rs) k ≡ k = omega arith in
          let no_more : k - k ≡ 0 = omega arith in
          ap (λ m. all_receivers most k (take m rs)) least
          ∙ ap (λ j. take k rs ++ news most j (k - j)) (length-take-le k rs (omega arith))
          ∙ ap (λ j. take k rs ++ news most k j) no_more ∙ append-nil (take k rs)
          ∙ sym (take-append-le k rs others (omega arith))
      | inr all ↦
          let least : min (length rs) k ≡ length rs = omega arith in
          ap (λ m. all_receivers most k (take m rs)) least
          ∙ ap (all_receivers most k) (take_all (length rs) rs (omega arith))
          ∙ ap (λ xs. rs ++ xs) (sym (take-map-range_with_len (λ channel. new_end channel most) (length rs) (n - length rs) (k - length rs) (omega arith)))
          ∙ sym (take-past k rs others all)
    ]

-- ---- an inbox

pub all_held : (n : ℕ) (b : Inbox) → held_in (with_all n b).receivers ≡ held_in b.receivers
all_held n b = all_sum b.max_packet n b.receivers (λ (r : ReceivingEnd). held_bytes r.receiver) (λ c. nothing_held (new_end c b.max_packet))

pub all_packets : (n : ℕ) (b : Inbox) → packets_in (with_all n b).receivers ≡ packets_in b.receivers
all_packets n b = all_sum b.max_packet n b.receivers (λ (r : ReceivingEnd). held_packets r.receiver) (λ c. none_of_packets (new_end c b.max_packet))

pub all_waiting : (n : ℕ) (b : Inbox) → waiting_of (with_all n b) ≡ waiting_of b
all_waiting n b = let held = all_held n b in omega arith

pub all_places : (n : ℕ) (b : Inbox) → places_of (with_all n b) ≡ places_of b
all_places n b = let packets = all_packets n b in omega arith

pub all_full : (n : ℕ) (b : Inbox) → is_full (with_all n b) ≡ is_full b
all_full n b = λ i. is_at_limit b.max_waiting (all_waiting n b i) (all_places n b i)

pub all_full_for : (n : ℕ) (b : Inbox) (r : ReceivingEnd) (c : DataCommand) → is_full_for (with_all n b) r c ≡ is_full_for b r c
all_full_for n b r c = ap (λ t. cond (is_next r.receiver c) (is_full_of_untaken b) t) (all_full n b)

pub all_given_way : (n : ℕ) (b : Inbox) → given_way (with_all n b) ≡ with_all n (given_way b)
all_given_way n b = ap (λ (rs : List ReceivingEnd). record b { receivers = rs }) (sym (all_map b.max_packet n b.receivers given_way_receiver (λ c. refl)))

pub all_cleared : (n : ℕ) (b : Inbox) → cleared (with_all n b) ≡ with_all n (cleared b)
all_cleared n b = ap (λ (rs : List ReceivingEnd). record b { receivers = rs }) (sym (all_map b.max_packet n b.receivers cleared_receiver (λ c. refl)))

pub all_forgotten : (n : ℕ) (b : Inbox) → forgotten (with_all n b) ≡ with_all n (forgotten b)
all_forgotten n b = ap (λ (x : Inbox). record x { untaken = [] }) (all_cleared n b)

pub all_narrowed : (k n : ℕ) (b : Inbox) → k ≤ n → length b.receivers ≤ n → narrowed (with_all n b) k ≡ with_all k (narrowed b (min (length b.receivers) k))
all_narrowed k n b low within = ap (λ (rs : List ReceivingEnd). record b { receivers = rs }) (sym (all_taken b.max_packet k n b.receivers low within))

pub all_empty : (channels most limit : ℕ) → with_all channels (empty_inbox 0 most limit) ≡ empty_inbox channels most limit
all_empty channels most limit = ap (λ (rs : List ReceivingEnd). record (empty_inbox channels most limit) { receivers = rs }) (all_none most channels)

-- a channel's front is a number of the wire
pub all_front : (n : ℕ) (b : Inbox) (waiting channel : ℕ) → KeepsInbox b waiting → length b.receivers ≤ n → HasFront (with_all n b) channel
all_front n b waiting channel k within r at =
    elim (cases_lt channel (length b.receivers)) [
      | inl made ↦ (in_place b waiting channel r k (sym (all_at b.max_packet n b.receivers channel made) ∙ at)).front
      | inr past ↦ elim (cases_lt channel n) [
        | inl low ↦
            let new : ◌≡◌ {A = Option ReceivingEnd} (Some (new_end channel b.max_packet)) (Some r) = sym (all_new b.max_packet n b.receivers channel past low) ∙ at in
            let is : new_end channel b.max_packet ≡ r = cc in
            subst (λ (x : ReceivingEnd). x.receiver.front < 65536) is (omega arith)
        | inr out ↦ absurd (let nothing = sym (all_past b.max_packet n b.receivers channel within out) ∙ at in cc)
      ]
    ]

-- ---- one receiver, seen from all

pub there_made : (n : ℕ) (b outer : Inbox) (xs : List ReceivingEnd) (channel : ℕ) (r : ReceivingEnd) → with_all n b ≡ outer → xs ≡ b.receivers → channel < length xs → r ≡ get_or xs channel r
    → slice_get outer.receivers channel ≡ Some r
there_made n b outer xs channel r view same low at =
    ap (λ (x : Inbox). slice_get x.receivers channel) (sym view)
    ∙ all_at b.max_packet n b.receivers channel (subst (λ (ys : List ReceivingEnd). channel < length ys) same low)
    ∙ ap (λ (ys : List ReceivingEnd). slice_get ys channel) (sym same) ∙ slice_get_read xs (length xs) channel r refl low at

not-below : (a n : ℕ) → n ≤ a → ltb a n ≡ false
not-below a n past = grind (arith, nat_tests)

-- of a channel whose receiver isn't made
new-there : (n : ℕ) (b : Inbox) (channel : ℕ) → length b.receivers ≤ n → length b.receivers ≤ channel → slice_get (with_all n b).receivers channel ≡ new_at (with_all n b) channel
new-there n b channel within past =
    let long : length (with_all n b).receivers ≡ n = all_length b.max_packet n b.receivers within in
    elim (cases_lt channel n) [
      | inl low ↦
          let test : ltb channel (length (with_all n b).receivers) ≡ true = ap (ltb channel) long ∙ lt-ltb channel n low in
          all_new b.max_packet n b.receivers channel past low ∙ sym (ap (λ t. cond t (Some (new_end channel b.max_packet)) None) test)
      | inr out ↦
          let test : ltb channel (length (with_all n b).receivers) ≡ false = ap (ltb channel) long ∙ not-below channel n out in
          all_past b.max_packet n b.receivers channel within out ∙ sym (ap (λ t. cond t (Some (new_end channel b.max_packet)) None) test)
    ]

pub there_new : (n : ℕ) (b outer : Inbox) (xs : List ReceivingEnd) (channel : ℕ) → with_all n b ≡ outer → xs ≡ b.receivers → length b.receivers ≤ n → length xs ≤ channel
    → slice_get outer.receivers channel ≡ new_at outer channel
there_new n b outer xs channel view same within past =
    subst (λ (x : Inbox). slice_get x.receivers channel ≡ new_at x channel) view
    (new-there n b channel within (subst (λ (ys : List ReceivingEnd). length ys ≤ channel) same past))

-- ---- a sequenced command of a channel whose receiver is made

-- what it makes of all
abbrev pub effect_on_all : ℕ → DataEffect → DataEffect
effect_on_all n e = record { answer = e.answer; after = with_all n e.after }

took-all : (t : Took) (n : ℕ) (b : Inbox) (channel : ℕ) (r : ReceivingEnd) (c : DataCommand) → channel < length b.receivers → by_took t (with_all n b) channel r c ≡ effect_on_all n (by_took t b channel r c)
took-all Held n b channel r c low =
    let new : ReceivingEnd = after_command r (Some c) (is_full_for b r c) in
    ap (λ full. handled (handed_over (with_all n b) channel (after_command r (Some c) full)) (acknowledges r.receiver.front c.number)) (all_full_for n b r c)
    ∙ ap (λ (rs : List ReceivingEnd). handled (record b { receivers = rs; untaken = b.untaken ++ map (packet_of channel) new.receiver.dispatched }) (acknowledges r.receiver.front c.number))
    (sym (all_set b.max_packet n b.receivers channel (emptied new) low))
took-all Again n b channel r c low = refl
took-all Outside n b channel r c low = refl
took-all Bad n b channel r c low = refl
took-all Waiting n b channel r c low = refl
took-all Memory n b channel r c low = refl

on-all : (n : ℕ) (b : Inbox) (channel : ℕ) (c : DataCommand) (o : Option ReceivingEnd) → channel < length b.receivers → sequenced_on (with_all n b) channel c o ≡ effect_on_all n (sequenced_on b channel c o)
on-all n b channel c None low = refl
on-all n b channel c (Some r) low =
    ap (λ full. by_took (outcome_for r (Some c) full) (with_all n b) channel r c) (all_full_for n b r c) ∙ took-all (outcome_for r (Some c) (is_full_for b r c)) n b channel r c low

pub all_sequenced : (n : ℕ) (b : Inbox) (channel : ℕ) (c : DataCommand) → channel < length b.receivers → sequenced (with_all n b) channel (Some c) ≡ effect_on_all n (sequenced b channel (Some c))
all_sequenced n b channel c low =
    ap (sequenced_on (with_all n b) channel c) (all_at b.max_packet n b.receivers channel low) ∙ on-all n b channel c (slice_get b.receivers channel) low

foresight-on-all : (n : ℕ) (b : Inbox) (c : DataCommand) (o : Option ReceivingEnd) → foresight_on (with_all n b) c o ≡ foresight_on b c o
foresight-on-all n b c None = refl
foresight-on-all n b c (Some r) = ap (λ full. Ok (foreseen r (Some c) full)) (all_full_for n b r c)

pub all_foreseen : (n : ℕ) (b : Inbox) (channel : ℕ) (c : DataCommand) → channel < length b.receivers → foreseen_sequenced (with_all n b) channel (Some c) ≡ foreseen_sequenced b channel (Some c)
all_foreseen n b channel c low =
    ap seen_of (ap (foresight_on (with_all n b) c) (all_at b.max_packet n b.receivers channel low) ∙ foresight-on-all n b c (slice_get b.receivers channel))

-- where the unreliable packets that wait give way first
pub all_given_sequenced : (n : ℕ) (b : Inbox) (channel : ℕ) (c : DataCommand) → channel < length b.receivers
    → sequenced (given_way (with_all n b)) channel (Some c) ≡ effect_on_all n (sequenced (given_way b) channel (Some c))
all_given_sequenced n b channel c low =
    ap (λ (x : Inbox). sequenced x channel (Some c)) (all_given_way n b)
    ∙ all_sequenced n (given_way b) channel c (subst (λ k. channel < k) (sym (length-map b.receivers given_way_receiver)) low)

pub all_finds_room : (n : ℕ) (b : Inbox) (channel : ℕ) (c : DataCommand) → channel < length b.receivers → FindsRoom (with_all n b) channel (Some c) → FindsRoom b channel (Some c)
all_finds_room n b channel c low h = record {
  none_yet = sym (ap (λ (e : DataEffect). e.answer) (all_sequenced n b channel c low)) ∙ h.none_yet;
  then_room = sym (ap (λ (e : DataEffect). is_ok e.answer) (all_given_sequenced n b channel c low)) ∙ h.then_room;
}

-- seen from all
pub foreseen_made : (n : ℕ) (b outer : Inbox) (channel : ℕ) (c : DataCommand) (what : Foreseen) → with_all n b ≡ outer → channel < length b.receivers → foreseen_sequenced outer channel (Some c) ≡ Ok what
    → foreseen_sequenced b channel (Some c) ≡ Ok what
foreseen_made n b outer channel c what view low told =
    sym (all_foreseen n b channel c low) ∙ ap (λ (x : Inbox). foreseen_sequenced x channel (Some c)) view ∙ told

pub after_all : (n : ℕ) (b outer : Inbox) (channel : ℕ) (c : DataCommand) → with_all n b ≡ outer → channel < length b.receivers
    → with_all n (sequenced b channel (Some c)).after ≡ (sequenced outer channel (Some c)).after
after_all n b outer channel c view low =
    sym (ap (λ (e : DataEffect). e.after) (all_sequenced n b channel c low)) ∙ ap (λ (x : Inbox). (sequenced x channel (Some c)).after) view

pub after_all_given : (n : ℕ) (b outer : Inbox) (channel : ℕ) (c : DataCommand) → with_all n b ≡ outer → channel < length b.receivers
    → with_all n (sequenced (given_way b) channel (Some c)).after ≡ (sequenced (given_way outer) channel (Some c)).after
after_all_given n b outer channel c view low =
    sym (ap (λ (e : DataEffect). e.after) (all_given_sequenced n b channel c low)) ∙ ap (λ (x : Inbox). (sequenced (given_way x) channel (Some c)).after) view

-- ---- more are made

placed-all : (most n : ℕ) (rs : List ReceivingEnd) → most < 2 ^ 32 → length rs ≤ n → ((i : ℕ) (d : ReceivingEnd) → i < length rs → IsInPlace most i (get_or rs i d)) → (i : ℕ) (d : ReceivingEnd) → i < length (all_receivers most n rs)
    → IsInPlace most i (get_or (all_receivers most n rs) i d)
unfolding all_receivers
placed-all most n rs small within is i d inside =
    let others = news most (length rs) (n - length rs) in
    let long = all_length most n rs within in
    elim (cases_lt i (length rs)) [
      | inl low ↦ subst (λ (r : ReceivingEnd). IsInPlace most i r) (sym (get_or_append_left rs others d i low)) (is i d low)
      | inr past ↦
          let at = get_or-append_right rs others (length rs) i d refl past in
          let new = get_or-map-range_with_len (λ channel. new_end channel most) (length rs) (n - length rs) (i - length rs) i d (omega arith) (omega arith) in
          subst (λ (r : ReceivingEnd). IsInPlace most i r) (sym (at ∙ new)) (new_in_place most i small)
    ]

few-all : (most n : ℕ) (rs : List ReceivingEnd) → length rs ≤ n → All (λ (r : ReceivingEnd). held_packets r.receiver < 2 ^ 32) rs → All (λ (r : ReceivingEnd). held_packets r.receiver < 2 ^ 32) (all_receivers most n rs)
unfolding all_receivers
few-all most n rs within few = λ i d inside.
    let others = news most (length rs) (n - length rs) in
    let long = all_length most n rs within in
    elim (cases_lt i (length rs)) [
      | inl low ↦ subst (λ (r : ReceivingEnd). held_packets r.receiver < 2 ^ 32) (sym (get_or_append_left rs others d i low)) (few i d low)
      | inr past ↦
          let at = get_or-append_right rs others (length rs) i d refl past in
          let new = get_or-map-range_with_len (λ channel. new_end channel most) (length rs) (n - length rs) (i - length rs) i d (omega arith) (omega arith) in
          let nothing = none_of_packets (new_end i most) in
          subst (λ (r : ReceivingEnd). held_packets r.receiver < 2 ^ 32) (sym (at ∙ new)) (omega arith)
    ]

pub keeps_all : (n count : ℕ) (b : Inbox) (waiting packets : ℕ) → b.max_packet < 2 ^ 32 → length b.receivers ≤ n → n ≤ count → count ≤ 255 → Keeps b count waiting packets → Keeps (with_all n b) count waiting packets
keeps_all n count b waiting packets small more low few k =
    let long = all_length b.max_packet n b.receivers more in
    let held = all_waiting n b in
    let places = all_places n b in
    let here = all_packets n b in
    let early = all_sum b.max_packet n b.receivers (λ (r : ReceivingEnd). early_packets r.receiver) (λ c. let none = none_of_packets (new_end c b.max_packet) in let least = (early_or_next (new_end c b.max_packet).receiver).0 in omega arith) in
    let early_held = all_sum b.max_packet n b.receivers (λ (r : ReceivingEnd). early_bytes r.receiver) (λ c. let none = nothing_held (new_end c b.max_packet) in let least = early_least (new_end c b.max_packet).receiver in omega arith) in
    let counted = k.inbox.counted in
    let also = k.places.counted in
    let fits = k.bounded.packets.early in
    let fits_in = k.bounded.packets.places in
    let light = k.bounded.bytes.early in
    let light_in = k.bounded.bytes.bytes in
    record {
      inbox = record {
        receivers = placed-all b.max_packet n b.receivers small more k.inbox.receivers;
        few = omega arith;
        short = k.inbox.short;
        counted = omega arith;
      };
      places = record { few = few-all b.max_packet n b.receivers more k.places.few; counted = omega arith };
      bounded = record { packets = record { early = omega arith; places = omega arith }; bytes = record { early = omega arith; bytes = omega arith } };
      within = omega arith;
    }

-- ---- its bounds

pub few_of_all : (n : ℕ) (b : Inbox) (waiting packets : ℕ) → Keeps b n waiting packets → packets_in (with_all n b).receivers ≤ place_limit b.max_waiting + length (with_all n b).receivers
few_of_all n b waiting packets k =
    let held = few_held b k.bounded.packets in
    let all = all_packets n b in
    let long = all_length b.max_packet n b.receivers k.within in
    let within = k.within in
    omega arith

pub light_of_all : (n : ℕ) (b : Inbox) (waiting packets : ℕ) → Keeps b n waiting packets
    → waiting_of (with_all n b) ≤ b.max_waiting + (length (with_all n b).receivers + 1) * b.max_packet + untaken_of b
light_of_all n b waiting packets k =
    let held = light_held b waiting k.inbox k.bounded.bytes in
    let all = all_waiting n b in
    let long = all_length b.max_packet n b.receivers k.within in
    let within = k.within in
    let more : (length b.receivers + 1) * b.max_packet ≤ (length (with_all n b).receivers + 1) * b.max_packet = mul-le-mul_right b.max_packet (omega arith) in
    omega arith
