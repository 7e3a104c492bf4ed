-- Which channels surely have nothing that may go, and which nothing that is sent, as the senders change.
use Rattle.std.proofs.Common.{◌⊎◌, All, is_some, nat_lt, inl, inr, bit_or, bit_and, w64, ◌≡◌, ◌≢◌, ℕ, zero, suc, ◌+◌, ◌-◌, ◌*◌, ◌/◌, ◌%◌, ◌^◌, ◌<◌, ◌≤◌, Bool, true, false, ◌&&◌, ◌||◌, not, List, [], ◌∷◌, length, map, take, drop, get_or, set, Option, Some, None, refl, sym, ap, subst, ◌∙◌, arith}
use Rattle.std.specs.Int.{bit_at, bit_not}
use Rattle.std.specs.List.{range_with_len, slice_get, slice_set, list_all, list_any, position, remove}
use Rattle.std.proofs.lemmas.Bool.{cases_eq}
use Rattle.std.proofs.lemmas.Bool.Decides.{nat_tests}
use Rattle.std.proofs.lemmas.List.{length-set, get_or-set_same, get_or-set_other}
use Rattle.std.proofs.lemmas.List.Elements.{All-nil, All-append, All-take, All-drop}
use Rattle.std.proofs.lemmas.Nat.Bits.{bit_at_or, bit_at_set_same, bit_at_set_other, bit_at_clear_other}
use Rattle.std.proofs.lemmas.Nat.{pow-add}
use Rattle.std.proofs.Math.Nat.{div-div-eq-div-mul}
use Rattle.std.proofs.lemmas.Option.{get_or_from_slice_get}
use Rattle.slab.specs.Slab.{Slab}
use Rattle.enet_rtt.specs.Clock.{HappensIn}
use Rattle.enet_rtt.specs.declared.transmission.Tick.{Tick}
use Rattle.enet_rtt.proofs.Waits.{same-in}
use Rattle.enet_fragment.specs.declared.data.DataCommand.{DataCommand}
use Rattle.enet_sender.specs.declared.outgoing.Outgoing.{Outgoing}
use Rattle.enet_sender.specs.declared.sent.Sent.{Sent}
use Rattle.enet_sender.specs.Rings.{end_of}
use Rattle.enet_seq.specs.Numbering.{Numbering, wire}
use Rattle.enet_sender.specs.declared.outgoing.Acknowledged.{Acknowledged}
use Rattle.enet_sender.specs.declared.outgoing.Occasion.{Occasion}
use Rattle.enet_sender.specs.Sender.{Sender, Next, marked, left, after_acknowledgement, after_match, without_place, position_of, skipped, with_skipped, next, next_of, next_queued, wants_room, wants_room_at, head_lacks}
use Rattle.enet_sender.proofs.Lists.{position_none}
use Rattle.enet_sender.specs.declared.outgoing.Due.{Due}
use Rattle.enet_sender.specs.declared.outgoing.Due.TheVariants as due
use Rattle.enet_sender.specs.declared.outgoing.Kind.{Kind}
use Rattle.enet_sender.specs.Due.{SendingEnd, Did, new_end, with_submitted}
use Rattle.enet_senders.specs.declared.channel_set.ChannelSet.{ChannelSet}
use Rattle.enet_senders.specs.Senders.{IsStill, ends_of, marked_end, cleared_end}
use Rattle.enet_senders.specs.Sets.{Lacks, KeepsSets}
use Rattle.enet_senders.proofs.Each.{end-at, ends-length, set-there}

pub All-remove : {X : Type 0} (P : X → Type 0) (xs : List X) (i : ℕ) → All P xs → All P (remove xs i)
All-remove P xs i h = All-append P (take i xs) (drop (suc i) xs) (All-take P i xs h) (All-drop P (suc i) xs h)

pub slice_get-some : {A : Type 0} (xs : List A) (i : ℕ) → i < length xs → (x : A) × (slice_get xs i ≡ Some x)
slice_get-some [] i inside = absurd (omega arith)
slice_get-some (x ∷ xs) zero inside = (x, refl)
slice_get-some (x ∷ xs) (suc i) inside = slice_get-some xs i (omega arith)

-- one word is written, in which at most the bit of channel c changes
pub written-other : (words : List ℕ) (c word : ℕ) → c / 64 < length words → ((k : ℕ) → k < 64 → k ≢ c % 64 → bit_at word k ≡ bit_at (get_or words (c / 64) 0) k)
    → (i : ℕ) → i ≢ c → bit_at (get_or (set words (c / 64) word) (i / 64) 0) (i % 64) ≡ bit_at (get_or words (i / 64) 0) (i % 64)
written-other words c word inside others i other =
    elim (cases_eq (i / 64) (c / 64)) [
      | inl same ↦
          let apart : i % 64 ≢ c % 64 = λ e. other (omega arith) in
          let now = ap (λ n. get_or (set words (c / 64) word) n 0) same ∙ get_or-set_same words (c / 64) word 0 inside in
          ap (λ n. bit_at n (i % 64)) now ∙ others (i % 64) (omega arith) apart ∙ ap (λ n. bit_at (get_or words n 0) (i % 64)) (sym same)
      | inr apart ↦ ap (λ n. bit_at n (i % 64)) (get_or-set_other words (c / 64) (i / 64) word 0 apart)
    ]

-- a bit set or cleared in the word of channel c
pub set-this : (words : List ℕ) (m c n : ℕ) → m ≡ c → m / 64 < length words → bit_at (get_or (set words (m / 64) (bit_or n (1 * 2 ^ (c % 64) % 2 ^ 64))) (c / 64) 0) (c % 64) ≡ 1
set-this words m c n is inside =
    let same : m / 64 ≡ c / 64 = ap (λ k. k / 64) is in
    let word = bit_or n (1 * 2 ^ (c % 64) % 2 ^ 64) in
    ap (λ k. bit_at (get_or (set words k word) (c / 64) 0) (c % 64)) same
    ∙ ap (λ w. bit_at w (c % 64)) (get_or-set_same words (c / 64) word 0 (omega arith)) ∙ bit_at_set_same w64 n (c % 64) (omega arith)

pub set-other : (words : List ℕ) (m c n : ℕ) → m ≡ c → m / 64 < length words → n ≡ get_or words (m / 64) 0
    → (i : ℕ) → i ≢ c → bit_at (get_or (set words (m / 64) (bit_or n (1 * 2 ^ (c % 64) % 2 ^ 64))) (i / 64) 0) (i % 64) ≡ bit_at (get_or words (i / 64) 0) (i % 64)
set-other words m c n is inside there i other =
    let same : m / 64 ≡ c / 64 = ap (λ k. k / 64) is in
    let word = bit_or n (1 * 2 ^ (c % 64) % 2 ^ 64) in
    ap (λ k. bit_at (get_or (set words k word) (i / 64) 0) (i % 64)) same
    ∙ written-other words c word (omega arith) (λ k low apart. bit_at_set_other w64 n (c % 64) (omega arith) k apart ∙ ap (λ w. bit_at w k) (there ∙ ap (λ j. get_or words j 0) same)) i other

pub clear-other : (words : List ℕ) (m c n : ℕ) → m ≡ c → m / 64 < length words → n ≡ get_or words (m / 64) 0
    → (i : ℕ) → i ≢ c → bit_at (get_or (set words (m / 64) (bit_and n (bit_not w64 (1 * 2 ^ (c % 64) % 2 ^ 64)))) (i / 64) 0) (i % 64) ≡ bit_at (get_or words (i / 64) 0) (i % 64)
clear-other words m c n is inside there i other =
    let same : m / 64 ≡ c / 64 = ap (λ k. k / 64) is in
    let word = bit_and n (bit_not w64 (1 * 2 ^ (c % 64) % 2 ^ 64)) in
    ap (λ k. bit_at (get_or (set words k word) (i / 64) 0) (i % 64)) same
    ∙ written-other words c word (omega arith) (λ k low apart. bit_at_clear_other w64 n (c % 64) (omega arith) k low apart ∙ ap (λ w. bit_at w k) (there ∙ ap (λ j. get_or words j 0) same)) i other

-- what no channel between two places adds to an answer over all before
pub any-skip : {X : Type 0} (p : X → Bool) (xs : List X) (i j : ℕ) → i ≤ j → ((k : ℕ) (x : X) → i ≤ k → k < j → slice_get xs k ≡ Some x → p x ≡ false) → list_any p (take i xs) ≡ list_any p (take j xs)
any-skip p [] zero zero le h = refl
any-skip p [] zero (suc j) le h = refl
any-skip p [] (suc i) zero le h = refl
any-skip p [] (suc i) (suc j) le h = refl
any-skip p (x ∷ xs) zero zero le h = refl
any-skip p (x ∷ xs) zero (suc j) le h =
    any-skip p xs zero j (omega arith) (λ k y low less there. h (suc k) y (omega arith) (omega arith) there)
    ∙ ap (λ b. b || list_any p (take j xs)) (sym (h zero x (omega arith) (omega arith) refl))
any-skip p (x ∷ xs) (suc i) zero le h = absurd (omega arith)
any-skip p (x ∷ xs) (suc i) (suc j) le h = ap (λ b. p x || b) (any-skip p xs i j (omega arith) (λ k y low less there. h (suc k) y (omega arith) (omega arith) there))

pub all-skip : {X : Type 0} (p : X → Bool) (xs : List X) (i j : ℕ) → i ≤ j → ((k : ℕ) (x : X) → i ≤ k → k < j → slice_get xs k ≡ Some x → p x ≡ true) → list_all p (take i xs) ≡ list_all p (take j xs)
all-skip p [] zero zero le h = refl
all-skip p [] zero (suc j) le h = refl
all-skip p [] (suc i) zero le h = refl
all-skip p [] (suc i) (suc j) le h = refl
all-skip p (x ∷ xs) zero zero le h = refl
all-skip p (x ∷ xs) zero (suc j) le h =
    all-skip p xs zero j (omega arith) (λ k y low less there. h (suc k) y (omega arith) (omega arith) there)
    ∙ ap (λ b. b && list_all p (take j xs)) (sym (h zero x (omega arith) (omega arith) refl))
all-skip p (x ∷ xs) (suc i) zero le h = absurd (omega arith)
all-skip p (x ∷ xs) (suc i) (suc j) le h = ap (λ b. p x && b) (all-skip p xs i j (omega arith) (λ k y low less there. h (suc k) y (omega arith) (omega arith) there))

-- nor to when something happens first
pub skip-in : {X : Type 0} (f : ℕ → X → Bool) (xs : List X) (i j now wait : ℕ) → i ≤ j → ((k : ℕ) (x : X) → i ≤ k → k < j → slice_get xs k ≡ Some x → (later : ℕ) → f later x ≡ false)
    → HappensIn (λ (later : ℕ). list_any (f later) (take i xs)) now wait → HappensIn (λ (later : ℕ). list_any (f later) (take j xs)) now wait
skip-in f xs i j now wait le none h =
    same-in (λ later. list_any (f later) (take i xs)) (λ later. list_any (f later) (take j xs)) now wait
    (λ later. any-skip (f later) xs i j le (λ k x low less there. none k x low less there later)) h

-- a bit of a number without its first bits
pub bit_at-shifted : (n k i : ℕ) → k ≤ i → bit_at n i ≡ bit_at (n / 2 ^ k) (i - k)
bit_at-shifted n k i low =
    let e : i ≡ k + (i - k) = omega arith in
    ap (λ m. n / 2 ^ m % 2) e ∙ ap (λ m. n / m % 2) (pow-add 2 k (i - k)) ∙ ap (λ m. m % 2) (sym (div-div-eq-div-mul n (2 ^ k) (2 ^ (i - k))))

-- what joins one word
pub join-word : (words : List ℕ) (m o i : ℕ) → m < length words → bit_at (get_or (set words m (bit_or (get_or words m 0) o)) (i / 64) 0) (i % 64) ≡ 0
    → (bit_at (get_or words (i / 64) 0) (i % 64) ≡ 0) × (i / 64 ≡ m → bit_at o (i % 64) ≡ 0)
join-word words m o i inside lacks =
    let word = get_or words m 0 in
    elim (cases_eq (i / 64) m) [
      | inl same ↦
          let now : bit_at (bit_or word o) (i % 64) ≡ 0 =
          ap (λ w. bit_at w (i % 64)) (sym (ap (λ k. get_or (set words m (bit_or word o)) k 0) same ∙ get_or-set_same words m (bit_or word o) 0 inside)) ∙ lacks in
          let both = sym (bit_at_or word o (i % 64)) ∙ now in
          let mine : bit_at word (i % 64) ≡ 0 = omega arith in
          let its : bit_at o (i % 64) ≡ 0 = omega arith in
          (ap (λ k. bit_at (get_or words k 0) (i % 64)) same ∙ mine, λ e. its)
      | inr apart ↦
          (ap (λ w. bit_at w (i % 64)) (sym (get_or-set_other words m (i / 64) (bit_or word o) 0 apart)) ∙ lacks, λ e. absurd (apart e))
    ]

-- the end of a channel
pub end-is : (s : Slab Sent) (channels : List Outgoing) (i m : ℕ) (o : Outgoing) (e : SendingEnd) → m ≡ i → m < length channels → get_or channels m o ≡ o → slice_get (ends_of s channels) i ≡ Some e → end_of s o ≡ e
end-is s channels i m o e is inside read there =
    sym (end-at s channels m o inside read) ∙ ap (λ k. get_or (ends_of s channels) k (end_of s o)) is ∙ get_or_from_slice_get (ends_of s channels) i e (end_of s o) there

-- what nothing that is left shows
pub some-long : {X : Type 0} (x : X) (xs : List X) → nat_lt 0 (length (x ∷ xs)) ≡ true
some-long x xs = by (length (x ∷ xs)) refl
  where
    by : (n : ℕ) → n ≡ suc (length xs) → nat_lt 0 n ≡ true
    by n e = grind (arith, nat_tests)

none-long : {X : Type 0} (xs : List X) → nat_lt 0 (length xs) ≡ false → xs ≡ []
none-long [] e = refl
none-long (x ∷ xs) e = absurd (let y : true ≡ false = sym (some-long x xs) ∙ e in cc)

or-right : (a b : Bool) → (a || b) ≡ false → b ≡ false
or-right false b e = e
or-right true b e = absurd (cc)

pub queued-none : (s : Sender) → (left s).packets ≡ false → s.queued ≡ []
queued-none s e = none-long s.queued e

pub sent-none : (s : Sender) → (left s).reliable ≡ false → s.sent ≡ []
sent-none s e = none-long s.sent (or-right (is_some (position (λ (c : DataCommand). c.reliable) s.queued)) (nat_lt 0 (length s.sent)) e)

pub packets-none : (s : Sender) → s.queued ≡ [] → not (left s).packets ≡ true
packets-none s e = ap (λ (xs : List DataCommand). not (nat_lt 0 (length xs))) e

pub reliable-none : (s : Sender) → s.queued ≡ [] → s.sent ≡ [] → not (left s).reliable ≡ true
reliable-none s e f =
    ap (λ (xs : List DataCommand). not (is_some (position (λ (c : DataCommand). c.reliable) xs) || nat_lt 0 (length s.sent))) e
    ∙ ap (λ (xs : List Sent). not (nat_lt 0 (length xs))) f

pub none-in : (p : Sent → Bool) (sent : List Sent) → sent ≡ [] → list_any p sent ≡ false
none-in p sent e = ap (λ (xs : List Sent). list_any p xs) e

pub not-true : (b : Bool) → not b ≡ true → b ≡ false
not-true true e = absurd (cc)
not-true false e = refl

-- a list with one element replaced
pub get-set : {A : Type 0} (xs : List A) (i : ℕ) (x y : A) → slice_get xs i ≡ Some x → slice_get (slice_set xs i y) i ≡ Some y
get-set [] i x y e = cc
get-set (z ∷ xs) zero x y e = refl
get-set (z ∷ xs) (suc i) x y e = get-set xs i x y e

pub get-other : {A : Type 0} (xs : List A) (i j : ℕ) (y : A) → j ≢ i → slice_get (slice_set xs i y) j ≡ slice_get xs j
get-other [] i j y apart = refl
get-other (z ∷ xs) zero zero y apart = absurd (apart refl)
get-other (z ∷ xs) zero (suc j) y apart = refl
get-other (z ∷ xs) (suc i) zero y apart = refl
get-other (z ∷ xs) (suc i) (suc j) y apart = get-other xs i j y (λ e. apart (ap suc e))

mapped-at : {A B : Type 0} (f : A → B) (xs : List A) (i : ℕ) (y : B) → slice_get (map f xs) i ≡ Some y → (x : A) × ((slice_get xs i ≡ Some x) × (f x ≡ y))
mapped-at f [] i y e = absurd (cc)
mapped-at f (x ∷ xs) zero y e = (x, (refl, cc))
mapped-at f (x ∷ xs) (suc i) y e = mapped-at f xs i y e

-- one of the channels is changed, and the sets lack at most that one more
pub keeps-one : (ready flying ready2 flying2 : ChannelSet) (es new : List SendingEnd) (c : ℕ) (s t : SendingEnd) → slice_get es c ≡ Some s → new ≡ slice_set es c t
    → ((i : ℕ) → i ≢ c → Lacks ready2 i → Lacks ready i) → ((i : ℕ) → i ≢ c → Lacks flying2 i → Lacks flying i)
    → (Lacks ready2 c → IsStill t.sender) → (Lacks flying2 c → t.sender.sent ≡ []) → KeepsSets ready flying es → KeepsSets ready2 flying2 new
keeps-one ready flying ready2 flying2 es new c s t there is readies flyings still grounded h = record {
  still = λ i e lacks at. elim (cases_eq i c) [
    | inl same ↦ let one = here i e at same in subst (λ (x : SendingEnd). IsStill x.sender) one (still (subst (Lacks ready2) same lacks))
    | inr other ↦ h.still i e (readies i other lacks) (before i e at other)
  ];
  grounded = λ i e lacks at. elim (cases_eq i c) [
    | inl same ↦ let one = here i e at same in subst (λ (x : SendingEnd). x.sender.sent ≡ []) one (grounded (subst (Lacks flying2) same lacks))
    | inr other ↦ h.grounded i e (flyings i other lacks) (before i e at other)
  ];
}
  where
    here : (i : ℕ) (e : SendingEnd) → slice_get new i ≡ Some e → i ≡ c → t ≡ e
    here i e at same =
        let now : slice_get new i ≡ Some t = ap (λ k. slice_get new k) same ∙ ap (λ (xs : List SendingEnd). slice_get xs c) is ∙ get-set es c s t there in
        let both : Some t ≡ Some e = sym now ∙ at in
        cc

    before : (i : ℕ) (e : SendingEnd) → slice_get new i ≡ Some e → i ≢ c → slice_get es i ≡ Some e
    before i e at other = sym (get-other es c i t other) ∙ ap (λ (xs : List SendingEnd). slice_get xs i) (sym is) ∙ at

-- all channels are changed, each of which keeps what the sets say of it
pub keeps-mapped : (ready2 flying2 : ChannelSet) (f : SendingEnd → SendingEnd) (es new : List SendingEnd) → new ≡ map f es
    → ((i : ℕ) (e : SendingEnd) → Lacks ready2 i → slice_get es i ≡ Some e → IsStill (f e).sender) → ((i : ℕ) (e : SendingEnd) → Lacks flying2 i → slice_get es i ≡ Some e → (f e).sender.sent ≡ [])
    → KeepsSets ready2 flying2 new
keeps-mapped ready2 flying2 f es new is still grounded = record {
  still = λ i e lacks at. let one = mapped-at f es i e (ap (λ (xs : List SendingEnd). slice_get xs i) (sym is) ∙ at) in subst (λ (x : SendingEnd). IsStill x.sender) one.1.1 (still i one.0 lacks one.1.0);
  grounded = λ i e lacks at. let one = mapped-at f es i e (ap (λ (xs : List SendingEnd). slice_get xs i) (sym is) ∙ at) in subst (λ (x : SendingEnd). x.sender.sent ≡ []) one.1.1 (grounded i one.0 lacks one.1.0);
}

-- the channels of no command
pub still-none : (s : Sender) → s.queued ≡ [] → s.sent ≡ [] → IsStill s
still-none s e f = record { queued = e; sent = subst (λ (xs : List Sent). All (λ (p : Sent). p.transmission.due ≡ false) xs) (sym f) (All-nil (λ (p : Sent). p.transmission.due ≡ false)) }

-- an acknowledgement leaves a channel still
still-acknowledged : (s : Sender) (number : ℕ) → IsStill s → IsStill (after_acknowledgement s number)
still-acknowledged s number h = record { queued = h.queued; sent = by (position_of number s.sent) }
  where
    by : (o : Option ℕ) → All (λ (p : Sent). p.transmission.due ≡ false) (without_place s.sent o)
    by None = h.sent
    by (Some i) = All-remove (λ (p : Sent). p.transmission.due ≡ false) s.sent i h.sent

pub still-matched : (s : Sender) (number : ℕ) (told : Option Acknowledged) → IsStill s → IsStill (after_match s number told)
still-matched s number None h = h
still-matched s number (Some told) h = still-acknowledged s number h

pub still-skipped : (s : Sender) → IsStill s → IsStill (with_skipped s)
still-skipped s h = record { queued = ap skipped h.queued; sent = h.sent }

-- what a call of next_due leaves: a still channel gives nothing
pub next-none : (g : Numbering) (occasion : Occasion) (s : Sender) → IsStill s → next g occasion s ≡ None
next-none g occasion s h =
    ap (λ (o : Option ℕ). next_of g occasion s o) (position_none (λ (p : Sent). p.transmission.due) s.sent h.sent)
    ∙ ap (λ (xs : List DataCommand). next_queued g occasion s xs) h.queued

-- and no room is to be kept for it
pub wants-none : (occasion : Occasion) (s : Sender) → IsStill s → wants_room occasion s ≡ false
wants-none occasion s h =
    ap (wants_room_at occasion s) (position_none (λ (p : Sent). p.transmission.due) s.sent h.sent) ∙ ap (head_lacks occasion s.sent) h.queued ∙ by s.sent
  where
    by : (sent : List Sent) → head_lacks occasion sent [] ≡ false
    by [] = refl
    by (p ∷ sent) = refl

-- one channel's sender is changed, by which it stays still; what is said of what it has sent comes from outside
pub keeps-changed : (ready flying flying2 : ChannelSet) (es new : List SendingEnd) (c : ℕ) (f : Sender → Sender) → c < length es → ((s : SendingEnd) → slice_get es c ≡ Some s → new ≡ slice_set es c (record s { sender = f s.sender }))
    → ((s : Sender) → IsStill s → IsStill (f s)) → ((i : ℕ) → i ≢ c → Lacks flying2 i → Lacks flying i) → ((e : SendingEnd) → Lacks flying2 c → slice_get new c ≡ Some e → e.sender.sent ≡ [])
    → KeepsSets ready flying es → KeepsSets ready flying2 new
keeps-changed ready flying flying2 es new c f inside changes still others this h =
    let one = slice_get-some es c inside in
    let s = one.0 in
    let t : SendingEnd = record s { sender = f s.sender } in
    let is : new ≡ slice_set es c t = changes s one.1 in
    keeps-one ready flying ready flying2 es new c s t one.1 is (λ i other lacks. lacks) others (λ lacks. still s.sender (h.still c s lacks one.1))
    (λ lacks. this t lacks (ap (λ (xs : List SendingEnd). slice_get xs c) is ∙ get-set es c s t one.1)) h

-- and the sets stay
pub keeps-fewer : (ready flying : ChannelSet) (es new : List SendingEnd) (c : ℕ) (f : Sender → Sender) → c < length es → ((s : SendingEnd) → slice_get es c ≡ Some s → new ≡ slice_set es c (record s { sender = f s.sender }))
    → ((s : Sender) → IsStill s → IsStill (f s)) → ((s : Sender) → s.sent ≡ [] → (f s).sent ≡ []) → KeepsSets ready flying es → KeepsSets ready flying new
keeps-fewer ready flying es new c f inside changes still ground h =
    let one = slice_get-some es c inside in
    let s = one.0 in
    keeps-one ready flying ready flying es new c s (record s { sender = f s.sender }) one.1 (changes s one.1) (λ i other lacks. lacks) (λ i other lacks. lacks)
    (λ lacks. still s.sender (h.still c s lacks one.1)) (λ lacks. ground s.sender (h.grounded c s lacks one.1)) h

-- there are as many channels as before
pub inside-changed : (es : List SendingEnd) (s : Slab Sent) (channels : List Outgoing) (c : ℕ) (t : SendingEnd) → c < length es → ends_of s channels ≡ slice_set es c t → c < length channels
inside-changed es s channels c t inside is =
    let long = ends-length s channels in
    let same : length (ends_of s channels) ≡ length (slice_set es c t) = ap (λ (xs : List SendingEnd). length xs) is in
    let set = length-set es c t in
    omega arith

-- what a call of next_due leaves of the channel on which it was made
did-still : (n : Option Next) (wants : Bool) (result : Due) (s t : SendingEnd) (from : List ℕ) (at : ℕ) (to : List ℕ) → n ≡ None → Did n wants result s t (record { old = from; at = at; new = to }) → t ≡ s
did-still None wants (due.Sent past added price kind again) s t from at to none d = absurd d
did-still None wants due.NoRoom s t from at to none d = absurd d
did-still None wants due.Full s t from at to none d = d.1
did-still None wants due.Nothing s t from at to none d = d.1
did-still (Some n) wants result s t from at to none d = absurd (cc)

did-unsent : (n : Option Next) (wants : Bool) (result : Due) (s t : SendingEnd) (from : List ℕ) (at : ℕ) (to : List ℕ) → ((past : ℕ) (added : ℕ) (price : ℕ) (kind : Kind) (again : Bool) → result ≢ due.Sent past added price kind again) → Did n wants result s t (record { old = from; at = at; new = to }) → t ≡ s
did-unsent n wants (due.Sent past added price kind again) s t from at to unsent d = absurd (unsent past added price kind again refl)
did-unsent (Some n) wants due.NoRoom s t from at to unsent d = d.1
did-unsent None wants due.NoRoom s t from at to unsent d = absurd d
did-unsent (Some n) wants due.Full s t from at to unsent d = absurd d
did-unsent None wants due.Full s t from at to unsent d = d.1
did-unsent (Some n) wants due.Nothing s t from at to unsent d = absurd d
did-unsent None wants due.Nothing s t from at to unsent d = d.1

-- what a call of next_due did on a channel
abbrev pub DidOn : Occasion → ℕ → Due → List SendingEnd → List SendingEnd → List ℕ → ℕ → List ℕ → Type 0
DidOn occasion c result es new from at to =
    (s : SendingEnd) → slice_get es c ≡ Some s → (t : SendingEnd) × ((new ≡ slice_set es c t) × Did (next wire occasion s.sender) (wants_room occasion s.sender) result s t (record { old = from; at = at; new = to }))

-- where the channel of a call was
pub inside-due : (occasion : Occasion) (es : List SendingEnd) (s : Slab Sent) (channels : List Outgoing) (c : ℕ) (result : Due) (from : List ℕ) (at : ℕ) (to : List ℕ) → c < length es → DidOn occasion c result es (ends_of s channels) from at to → c < length channels
inside-due occasion es s channels c result from at to inside did =
    let one = slice_get-some es c inside in
    let r = did one.0 one.1 in
    inside-changed es s channels c r.0 inside r.1.0

-- a still channel stays still
pub keeps-sent : (ready flying flying2 : ChannelSet) (occasion : Occasion) (es new : List SendingEnd) (c : ℕ) (result : Due) (from : List ℕ) (at : ℕ) (to : List ℕ) → c < length es → DidOn occasion c result es new from at to
    → ((i : ℕ) → i ≢ c → Lacks flying2 i → Lacks flying i) → ((e : SendingEnd) → Lacks flying2 c → slice_get new c ≡ Some e → e.sender.sent ≡ [])
    → KeepsSets ready flying es → KeepsSets ready flying2 new
keeps-sent ready flying flying2 occasion es new c result from at to inside did others this h =
    let one = slice_get-some es c inside in
    let s = one.0 in
    let r = did s one.1 in
    let t = r.0 in
    keeps-one ready flying ready flying2 es new c s t one.1 r.1.0 (λ i other lacks. lacks) others
    (λ lacks.
    let quiet = h.still c s lacks one.1 in
    let same : t ≡ s = did-still (next wire occasion s.sender) (wants_room occasion s.sender) result s t from at to (next-none wire occasion s.sender quiet) r.1.1 in
    subst (λ (x : SendingEnd). IsStill x.sender) (sym same) quiet)
    (λ lacks. this t lacks (ap (λ (xs : List SendingEnd). slice_get xs c) r.1.0 ∙ get-set es c s t one.1)) h

-- where nothing was sent all stays as it was
pub same-unsent : (occasion : Occasion) (es new : List SendingEnd) (c : ℕ) (result : Due) (from : List ℕ) (at : ℕ) (to : List ℕ) → c < length es → ((past : ℕ) (added : ℕ) (price : ℕ) (kind : Kind) (again : Bool) → result ≢ due.Sent past added price kind again)
    → DidOn occasion c result es new from at to → new ≡ es
same-unsent occasion es new c result from at to inside unsent did =
    let one = slice_get-some es c inside in
    let s = one.0 in
    let r = did s one.1 in
    let same : r.0 ≡ s = did-unsent (next wire occasion s.sender) (wants_room occasion s.sender) result s r.0 from at to unsent r.1.1 in
    r.1.0 ∙ ap (λ (x : SendingEnd). slice_set es c x) same ∙ set-there es c s one.1

-- the channel leaves the set of those that are ready, since it is still
pub keeps-still : (ready flying ready2 : ChannelSet) (es : List SendingEnd) (c : ℕ) → ((i : ℕ) → i ≢ c → Lacks ready2 i → Lacks ready i)
    → ((e : SendingEnd) → Lacks ready2 c → slice_get es c ≡ Some e → IsStill e.sender ⊎ Lacks ready c) → KeepsSets ready flying es → KeepsSets ready2 flying es
keeps-still ready flying ready2 es c others this h = record {
  still = λ i e lacks at. elim (cases_eq i c) [
    | inl same ↦ elim (this e (subst (Lacks ready2) same lacks) (ap (λ k. slice_get es k) (sym same) ∙ at)) [
      | inl quiet ↦ quiet
      | inr lacked ↦ h.still i e (subst (Lacks ready) (sym same) lacked) at
    ]
    | inr other ↦ h.still i e (others i other lacks) at
  ];
  grounded = h.grounded;
}

-- a packet was submitted: its channel is ready
pub keeps-submitted : (ready flying ready2 : ChannelSet) (mtu flags : ℕ) (body : List ℕ) (es new : List SendingEnd) (c : ℕ) → c < length es
    → ((s : SendingEnd) → slice_get es c ≡ Some s → new ≡ slice_set es c (with_submitted mtu s flags body))
    → ((i : ℕ) → i ≢ c → Lacks ready2 i → Lacks ready i) → (Lacks ready2 c → ⊥) → KeepsSets ready flying es → KeepsSets ready2 flying new
keeps-submitted ready flying ready2 mtu flags body es new c inside queued others this h =
    let one = slice_get-some es c inside in
    let s = one.0 in
    keeps-one ready flying ready2 flying es new c s (with_submitted mtu s flags body) one.1 (queued s one.1) others (λ i other lacks. lacks) (λ lacks. absurd (this lacks)) (λ lacks. h.grounded c s lacks one.1) h

-- all that is late is due to go again, on channels that have something sent
pub keeps-marked : (ready flying ready2 : ChannelSet) (tick : Tick) (es new : List SendingEnd) → new ≡ map (marked_end tick) es → ((i : ℕ) → Lacks ready2 i → Lacks ready i × Lacks flying i) → KeepsSets ready flying es → KeepsSets ready2 flying new
keeps-marked ready flying ready2 tick es new is both h =
    keeps-mapped ready2 flying (marked_end tick) es new is
    (λ i e lacks at. still-none (marked_end tick e).sender (h.still i e (both i lacks).0 at).queued (ap (map (marked tick)) (h.grounded i e (both i lacks).1 at)))
    (λ i e lacks at. ap (map (marked tick)) (h.grounded i e lacks at))

pub keeps-cleared : (ready flying : ChannelSet) (es new : List SendingEnd) → new ≡ map cleared_end es → KeepsSets ready flying new
keeps-cleared ready flying es new is = keeps-mapped ready flying cleared_end es new is (λ i e lacks at. still-none (cleared_end e).sender refl refl) (λ i e lacks at. refl)

pub keeps-new : (ready flying : ChannelSet) (from count : ℕ) (new : List SendingEnd) → new ≡ map new_end (range_with_len from count) → KeepsSets ready flying new
keeps-new ready flying from count new is = record {
  still = λ i e lacks at. let one = mapped-at new_end (range_with_len from count) i e (ap (λ (xs : List SendingEnd). slice_get xs i) (sym is) ∙ at) in subst (λ (x : SendingEnd). IsStill x.sender) one.1.1 (still-none (new_end one.0).sender refl refl);
  grounded = λ i e lacks at. let one = mapped-at new_end (range_with_len from count) i e (ap (λ (xs : List SendingEnd). slice_get xs i) (sym is) ∙ at) in subst (λ (x : SendingEnd). x.sender.sent ≡ []) one.1.1 refl;
}

taken-at : {A : Type 0} (n : ℕ) (xs : List A) (i : ℕ) (x : A) → slice_get (take n xs) i ≡ Some x → slice_get xs i ≡ Some x
taken-at zero [] i x e = absurd (cc)
taken-at zero (y ∷ xs) i x e = absurd (cc)
taken-at (suc n) [] i x e = e
taken-at (suc n) (y ∷ xs) zero x e = e
taken-at (suc n) (y ∷ xs) (suc i) x e = taken-at n xs i x e

pub keeps-taken : (ready flying : ChannelSet) (count : ℕ) (es new : List SendingEnd) → new ≡ take count es → KeepsSets ready flying es → KeepsSets ready flying new
keeps-taken ready flying count es new is h = record {
  still = λ i e lacks at. h.still i e lacks (taken-at count es i e (ap (λ (xs : List SendingEnd). slice_get xs i) (sym is) ∙ at));
  grounded = λ i e lacks at. h.grounded i e lacks (taken-at count es i e (ap (λ (xs : List SendingEnd). slice_get xs i) (sym is) ∙ at));
}
