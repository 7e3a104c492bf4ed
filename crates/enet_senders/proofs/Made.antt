-- The ends of all channels, by those whose senders are made.
use Rattle.std.proofs.Common.{◌≡◌, ℕ, zero, suc, ◌+◌, ◌-◌, ◌<◌, ◌≤◌, inl, inr, Bool, true, false, ◌&&◌, ◌||◌, Option, Some, Result, Ok, Err, OnOk, OnErr, List, [], ◌∷◌, ◌++◌, length, map, take, set, sum_by, refl, sym, ap, ap₂, subst, ◌∙◌, arith, length-append, length-set}
use Rattle.std.specs.List.{slice_get, range_with_len, list_all, list_any}
use Rattle.std.proofs.lemmas.Bool.{cases_lt}
use Rattle.std.proofs.lemmas.List.{append-nil, append_assoc, map-append, length-map, length-take-le, set-append_left, take_all, take-append-le}
use Rattle.std.proofs.lemmas.List.FromFn.{length-map-range_with_len, get_or-map-range_with_len, take-map-range_with_len, map-range_with_len_more}
use Rattle.std.proofs.lemmas.List.Elements.{All-nil}
use Rattle.std.proofs.lemmas.List.Sums.{sum_by-append, sum_by-cons}
use Rattle.std.proofs.lemmas.Option.{slice_get-get_or, slice_get_within}
use Rattle.enet_rtt.specs.declared.transmission.Tick.{Tick}
use Rattle.enet_sender.specs.declared.lateness.Late.{Late}
use Rattle.enet_sender.specs.declared.sent.Sent.{Sent}
use Rattle.enet_sender.specs.Late.{capped}
use Rattle.enet_sender.specs.Sender.{late_bytes, late_price, lost_price}
use Rattle.enet_sender.specs.Due.{SendingEnd, new_end}
use Rattle.enet_senders.specs.declared.channel_set.ChannelSet.{ChannelSet}
use Rattle.enet_sender.specs.Outstanding.{outstanding_bytes, outstanding_commands}
use Rattle.enet_senders.specs.Outstanding.{outstanding_over}
use Rattle.enet_senders.specs.Senders.{IsStill, IsLateOver, sum_over}
use Rattle.enet_senders.specs.Sets.{KeepsSets}
use Rattle.enet_senders.proofs.Sums.{so_much}
use Rattle.enet_senders.specs.Made.{all_ends}

-- ends to which nothing was submitted
abbrev news : ℕ → ℕ → List SendingEnd
news from n = map new_end (range_with_len from n)

-- ---- lists

front : {X : Type 0} (xs ys : List X) (i : ℕ) → i < length xs → slice_get (xs ++ ys) i ≡ slice_get xs i
front [] ys i low = absurd (omega arith)
front (x ∷ xs) ys zero low = refl
front (x ∷ xs) ys (suc i) low = front xs ys i (omega arith)

behind : {X : Type 0} (xs ys : List X) (i : ℕ) → length xs ≤ i → slice_get (xs ++ ys) i ≡ slice_get ys (i - length xs)
behind [] ys i past = let same : i ≡ i - 0 = omega arith in ap (slice_get ys) same
behind (x ∷ xs) ys zero past = absurd (omega arith)
behind (x ∷ xs) ys (suc i) past = let same : i - length xs ≡ suc i - suc (length xs) = omega arith in behind xs ys i (omega arith) ∙ ap (slice_get ys) same

take-past : {X : Type 0} (n : ℕ) (xs ys : List X) → length xs ≤ n → take n (xs ++ ys) ≡ xs ++ take (n - length xs) ys
take-past n [] ys past = let same : n ≡ n - 0 = omega arith in ap (λ m. take m ys) same
take-past zero (x ∷ xs) ys past = absurd (omega arith)
take-past (suc n) (x ∷ xs) ys past =
    let same : n - length xs ≡ suc n - suc (length xs) = omega arith in
    ap (λ zs. x ∷ zs) (take-past n xs ys (omega arith) ∙ ap (λ m. xs ++ take m ys) same)

any-front : {X : Type 0} (p : X → Bool) (xs ys : List X) → list_any p ys ≡ false → list_any p (xs ++ ys) ≡ list_any p xs
any-front p [] ys h = h
any-front p (x ∷ xs) ys h = ap (λ b. p x || b) (any-front p xs ys h)

all-front : {X : Type 0} (p : X → Bool) (xs ys : List X) → list_all p ys ≡ true → list_all p (xs ++ ys) ≡ list_all p xs
all-front p [] ys h = h
all-front p (x ∷ xs) ys h = ap (λ b. p x && b) (all-front p xs ys h)

-- some, and those that follow
split : (from a b : ℕ) → news from a ++ news (from + a) b ≡ news from (a + b)
split from zero b =
    let start : from + 0 ≡ from = omega arith in
    let long : b ≡ 0 + b = omega arith in
    ap₂ news start long
split from (suc a) b =
    let start : from + suc a ≡ from + 1 + a = omega arith in
    let long : suc (a + b) ≡ suc a + b = omega arith in
    ap (λ n. new_end from ∷ (news (from + 1) a ++ news n b)) start ∙ ap (λ es. new_end from ∷ es) (split (from + 1) a b) ∙ ap (news from) long

fixed : (f : SendingEnd → SendingEnd) → ((c : ℕ) → f (new_end c) ≡ new_end c) → (ns : List ℕ) → map f (map new_end ns) ≡ map new_end ns
fixed f same [] = refl
fixed f same (n ∷ ns) = ap₂ (λ (e : SendingEnd) (es : List SendingEnd). e ∷ es) (same n) (fixed f same ns)

none-in : (f : SendingEnd → ℕ) → ((c : ℕ) → f (new_end c) ≡ 0) → (ns : List ℕ) → sum_by f (map new_end ns) ≡ 0
none-in f zeros [] = refl
none-in f zeros (n ∷ ns) =
    let one = zeros n in
    let rest = none-in f zeros ns in
    let both = sum_by-cons f (new_end n) (map new_end ns) in
    omega arith

none-passes : (p : SendingEnd → Bool) → ((c : ℕ) → p (new_end c) ≡ false) → (ns : List ℕ) → list_any p (map new_end ns) ≡ false
none-passes p fails [] = refl
none-passes p fails (n ∷ ns) = ap₂ (λ a b. a || b) (fails n) (none-passes p fails ns)

each-passes : (p : SendingEnd → Bool) → ((c : ℕ) → p (new_end c) ≡ true) → (ns : List ℕ) → list_all p (map new_end ns) ≡ true
each-passes p passes [] = refl
each-passes p passes (n ∷ ns) = ap₂ (λ a b. a && b) (passes n) (each-passes p passes ns)

-- ---- all ends

pub all_length : (count : ℕ) (es : List SendingEnd) → length es ≤ count → length (all_ends count es) ≡ count
unfolding all_ends
all_length count es within =
    let both = length-append es (news (length es) (count - length es)) in
    let others = length-map-range_with_len new_end (length es) (count - length es) in
    omega arith

-- one that is made
pub all_at : (count : ℕ) (es : List SendingEnd) (i : ℕ) → i < length es → slice_get (all_ends count es) i ≡ slice_get es i
unfolding all_ends
all_at count es i low = front es (news (length es) (count - length es)) i low

-- one that isn't
pub all_new : (count : ℕ) (es : List SendingEnd) (i : ℕ) → length es ≤ i → i < count → slice_get (all_ends count es) i ≡ Some (new_end i)
unfolding all_ends
all_new count es i past low =
    let others = news (length es) (count - length es) in
    let long = length-map-range_with_len new_end (length es) (count - length es) in
    let inside : i - length es < length others = omega arith in
    behind es others i past ∙ slice_get-get_or others (i - length es) (new_end 0) inside
    ∙ ap Some (get_or-map-range_with_len new_end (length es) (count - length es) (i - length es) i (new_end 0) (omega arith) (omega arith))

pub all_set : (count : ℕ) (es : List SendingEnd) (i : ℕ) (e : SendingEnd) → i < length es → all_ends count (set es i e) ≡ set (all_ends count es) i e
unfolding all_ends
all_set count es i e low =
    ap (λ n. set es i e ++ news n (count - n)) (length-set es i e) ∙ sym (set-append_left es (news (length es) (count - length es)) i e low)

pub all_map : (count : ℕ) (es : List SendingEnd) (f : SendingEnd → SendingEnd) → ((c : ℕ) → f (new_end c) ≡ new_end c) → all_ends count (map f es) ≡ map f (all_ends count es)
unfolding all_ends
all_map count es f same =
    let others = news (length es) (count - length es) in
    ap (λ n. map f es ++ news n (count - n)) (length-map es f)
    ∙ ap (λ xs. map f es ++ xs) (sym (fixed f same (range_with_len (length es) (count - length es))))
    ∙ sym (map-append f es others)

pub all_sum : (count : ℕ) (es : List SendingEnd) (f : SendingEnd → ℕ) → ((c : ℕ) → f (new_end c) ≡ 0) → sum_by f (all_ends count es) ≡ sum_by f es
unfolding all_ends
all_sum count es f zeros =
    let both = sum_by-append f es (news (length es) (count - length es)) in
    let rest = none-in f zeros (range_with_len (length es) (count - length es)) in
    omega arith

pub all_any : (count : ℕ) (es : List SendingEnd) (p : SendingEnd → Bool) → ((c : ℕ) → p (new_end c) ≡ false) → list_any p (all_ends count es) ≡ list_any p es
unfolding all_ends
all_any count es p fails = any-front p es (news (length es) (count - length es)) (none-passes p fails (range_with_len (length es) (count - length es)))

pub all_each : (count : ℕ) (es : List SendingEnd) (p : SendingEnd → Bool) → ((c : ℕ) → p (new_end c) ≡ true) → list_all p (all_ends count es) ≡ list_all p es
unfolding all_ends
all_each count es p passes = all-front p es (news (length es) (count - length es)) (each-passes p passes (range_with_len (length es) (count - length es)))

pub all_none : (count : ℕ) → all_ends count [] ≡ map new_end (range_with_len 0 count)
unfolding all_ends
all_none count = let same : count - 0 ≡ count = omega arith in ap (news 0) same

-- some are made
pub all_begun : (n : ℕ) (es : List SendingEnd) → n ≡ length es → es ≡ all_ends n es
unfolding all_ends
all_begun n es is =
    let no_more : n - length es ≡ 0 = omega arith in
    sym (append-nil es) ∙ ap (λ k. es ++ news (length es) k) (sym no_more)

pub all_pushed : (n : ℕ) (es made : List SendingEnd) → length es ≤ n → made ≡ all_ends n es → made ++ new_end n ∷ [] ≡ all_ends (n + 1) es
unfolding all_ends
all_pushed n es made within is =
    let others = news (length es) (n - length es) in
    let more : n - length es + 1 ≡ n + 1 - length es = omega arith in
    ap (λ xs. xs ++ new_end n ∷ []) is ∙ append_assoc es others (new_end n ∷ [])
    ∙ ap (λ xs. es ++ xs) (sym (map-range_with_len_more new_end (length es) (n - length es) n (omega arith)) ∙ ap (news (length es)) more)

outer : (n m : ℕ) (es : List SendingEnd) → length (all_ends m es) ≡ m → all_ends n (all_ends m es) ≡ all_ends m es ++ news m (n - m)
unfolding all_ends
outer n m es long = ap (λ k. (es ++ news (length es) (m - length es)) ++ news k (n - k)) long

inner : (n m : ℕ) (es : List SendingEnd) → length es ≤ m → m ≤ n → all_ends m es ++ news m (n - m) ≡ all_ends n es
unfolding all_ends
inner n m es low high =
    let start : m ≡ length es + (m - length es) = omega arith in
    let long : m - length es + (n - m) ≡ n - length es = omega arith in
    append_assoc es (news (length es) (m - length es)) (news m (n - m))
    ∙ ap (λ k. es ++ (news (length es) (m - length es) ++ news k (n - m))) start
    ∙ ap (λ xs. es ++ xs) (split (length es) (m - length es) (n - m) ∙ ap (news (length es)) long)

-- those that were made are among them
pub made_more : (es made : List SendingEnd) → made ≡ all_ends (length made) es → length es ≤ length made
unfolding all_ends
made_more es made is =
    let both = length-append es (news (length es) (length made - length es)) in
    let long : length made ≡ length (es ++ news (length es) (length made - length es)) = ap (λ (xs : List SendingEnd). length xs) is in
    omega arith

pub all_made : (count : ℕ) (es made : List SendingEnd) → made ≡ all_ends (length made) es → length made ≤ count → all_ends count made ≡ all_ends count es
all_made count es made is within =
    let more = made_more es made is in
    ap (all_ends count) is ∙ outer count (length made) es (all_length (length made) es more) ∙ inner count (length made) es more within

-- only the first channels stay
pub all_taken : (k n : ℕ) (es : List SendingEnd) → k ≤ n → length es ≤ n → all_ends k (take k es) ≡ take k (all_ends n es)
unfolding all_ends
all_taken k n es low within =
    let others = news (length es) (n - length es) in
    elim (cases_lt k (length es)) [
      | inl fewer ↦
          let no_more : k - k ≡ 0 = omega arith in
          ap (λ j. take k es ++ news j (k - j)) (length-take-le k es (omega arith))
          ∙ ap (λ j. take k es ++ news k j) no_more ∙ append-nil (take k es)
          ∙ sym (take-append-le k es others (omega arith))
      | inr all ↦
          ap (all_ends k) (take_all k es all)
          ∙ ap (λ xs. es ++ xs) (sym (take-map-range_with_len new_end (length es) (n - length es) (k - length es) (omega arith)))
          ∙ sym (take-past k es others all)
    ]

-- ---- one channel

still : (c : ℕ) → IsStill (new_end c).sender
still c = record { queued = refl; sent = All-nil (λ (p : Sent). p.transmission.due ≡ false) }

-- nothing of one that isn't made may go
pub all_still : (count i : ℕ) (es : List SendingEnd) (e : SendingEnd) → length es ≤ count → length es ≤ i → slice_get (all_ends count es) i ≡ Some e → IsStill e.sender
all_still count i es e within past there =
    let long = all_length count es within in
    let low : i < count = subst (λ n. i < n) long (slice_get_within (all_ends count es) i e there) in
    let new : ◌≡◌ {A = Option SendingEnd} (Some (new_end i)) (Some e) = sym (all_new count es i past low) ∙ there in
    let is : new_end i ≡ e = cc in
    subst (λ (x : SendingEnd). IsStill x.sender) is (still i)

-- the sets of channels keep what they keep as more are made
pub sets_made : (ready flying : ChannelSet) (n : ℕ) (es made : List SendingEnd) → made ≡ all_ends n es → length es ≤ n → KeepsSets ready flying es → KeepsSets ready flying made
sets_made ready flying n es made is within k = record {
  still = λ i e lacks there. elim (cases_lt i (length es)) [
    | inl low ↦ k.still i e lacks (sym (all_at n es i low) ∙ ap (λ (xs : List SendingEnd). slice_get xs i) (sym is) ∙ there)
    | inr past ↦ all_still n i es e within past (ap (λ (xs : List SendingEnd). slice_get xs i) (sym is) ∙ there)
  ];
  grounded = λ i e lacks there. elim (cases_lt i (length es)) [
    | inl low ↦ k.grounded i e lacks (sym (all_at n es i low) ∙ ap (λ (xs : List SendingEnd). slice_get xs i) (sym is) ∙ there)
    | inr past ↦ bare n i es e within past (ap (λ (xs : List SendingEnd). slice_get xs i) (sym is) ∙ there)
  ];
}
  where
    bare : (count i : ℕ) (es : List SendingEnd) (e : SendingEnd) → length es ≤ count → length es ≤ i → slice_get (all_ends count es) i ≡ Some e → e.sender.sent ≡ []
    bare count i es e within past there =
        let long = all_length count es within in
        let low : i < count = subst (λ n. i < n) long (slice_get_within (all_ends count es) i e there) in
        let new : ◌≡◌ {A = Option SendingEnd} (Some (new_end i)) (Some e) = sym (all_new count es i past low) ∙ there in
        let is : new_end i ≡ e = cc in
        ap (λ (x : SendingEnd). x.sender.sent) (sym is)

-- the end of a channel of all, seen from outside
pub made_there : (count i : ℕ) (es outer_ends : List SendingEnd) (e : SendingEnd) → all_ends count es ≡ outer_ends → i < length es → slice_get outer_ends i ≡ Some e → slice_get es i ≡ Some e
made_there count i es outer_ends e view low there = sym (all_at count es i low) ∙ ap (λ (xs : List SendingEnd). slice_get xs i) view ∙ there

pub new_there : (count i : ℕ) (es outer_ends : List SendingEnd) (e : SendingEnd) → all_ends count es ≡ outer_ends → length es ≤ count → i < length outer_ends → length es ≤ i → slice_get outer_ends i ≡ Some e → new_end i ≡ e
new_there count i es outer_ends e view within low past there =
    let long : length outer_ends ≡ count = ap (λ (xs : List SendingEnd). length xs) (sym view) ∙ all_length count es within in
    let new : ◌≡◌ {A = Option SendingEnd} (Some (new_end i)) (Some e) = sym (all_new count es i past (omega arith)) ∙ ap (λ (xs : List SendingEnd). slice_get xs i) view ∙ there in
    cc

-- it is written
pub made_set : (count i : ℕ) (es new outer_ends : List SendingEnd) (e : SendingEnd) → all_ends count es ≡ outer_ends → i < length es → new ≡ set es i e → all_ends count new ≡ set outer_ends i e
made_set count i es new outer_ends e view low is =
    ap (all_ends count) is ∙ all_set count es i e low ∙ ap (λ (xs : List SendingEnd). set xs i e) view

-- ---- answers

-- what follows from what a clause says of a call that was refused
pub where-err : {T E P Q : Type 0} (r : Result T E) → (P → Q) → OnErr r P → OnErr r Q
where-err (Ok x) f p = p
where-err (Err e) f p = f p

-- a packet changes one end or none
pub same_long : {T E : Type 0} (P : Type 0) (r : Result T E) (es new : List SendingEnd) (i : ℕ) (e : SendingEnd) → OnOk r (new ≡ set es i e) → OnErr r ((new ≡ es) × P) → length new ≡ length es
same_long P (Ok x) es new i e ok err = ap (λ (xs : List SendingEnd). length xs) ok ∙ length-set es i e
same_long P (Err x) es new i e ok err = ap (λ (xs : List SendingEnd). length xs) err.0

-- what is late on all
none-late : (weight : Sent → ℕ) (count : ℕ) (es : List SendingEnd) → sum_over weight (all_ends count es) ≡ sum_over weight es
none-late weight count es = all_sum count es (λ (s : SendingEnd). sum_by weight s.sender.sent) (λ n. refl)

pub late_of_all : (count : ℕ) (tick : Tick) (es : List SendingEnd) (late : Late) → IsLateOver tick es late → IsLateOver tick (all_ends count es) late
late_of_all count tick es late is = record {
  bytes = is.bytes ∙ ap capped (sym (none-late (late_bytes tick) count es));
  prices = is.prices ∙ ap capped (sym (none-late (late_price tick) count es));
  lost = is.lost ∙ ap capped (sym (none-late (lost_price tick) count es));
}

-- what is outstanding on all
pub outstanding_of_all : (count : ℕ) (es : List SendingEnd) → outstanding_over es ≡ outstanding_over (all_ends count es)
outstanding_of_all count es =
    ap₂ so_much
    (sym (all_sum count es (λ (s : SendingEnd). outstanding_commands s.sender) (λ n. refl))) (sym (all_sum count es (λ (s : SendingEnd). outstanding_bytes s.sender) (λ n. refl)))
