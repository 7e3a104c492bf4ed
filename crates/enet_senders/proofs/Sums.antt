-- What the commands of a peer weigh together, by their keys and by their channels.
use Rattle.std.proofs.Common.{inl, inr, ◌≡◌, ℕ, zero, suc, ◌+◌, ◌*◌, ◌<◌, ◌≤◌, true, cond, ◌&&◌, eqb, ltb, List, [], ◌∷◌, length, map, take, Option, Some, None, is_some, refl, sym, ap, ap₂, ◌∙◌, arith, All}
use Rattle.std.specs.List.{cons_option, count_by, sum_by}
use Rattle.std.proofs.Math.Nat.{add-mul}
use Rattle.std.proofs.lemmas.Bool.{cases_eq, cases_lt, eq-eqb, ne_eqb, lt-ltb, le-ltb}
use Rattle.std.proofs.lemmas.List.{length-map}
use Rattle.std.proofs.lemmas.List.Sums.{sum_by-cons, sum_by-append}
use Rattle.std.proofs.lemmas.List.Elements.{All-head, All-tail}
use Rattle.slab.specs.Slab.{Slab, get, slab_len}
use Rattle.enet_rtt.specs.Transmission.{is_heard_since}
use Rattle.enet_rtt.specs.declared.transmission.Tick.{Tick}
use Rattle.enet_sender.specs.declared.lateness.Late.{Late}
use Rattle.enet_sender.specs.declared.outgoing.Outgoing.{Outgoing}
use Rattle.enet_sender.specs.declared.outstanding.Outstanding.{Outstanding}
use Rattle.enet_sender.specs.declared.sent.Sent.{Sent}
use Rattle.enet_fragment.specs.declared.data.DataCommand.{DataCommand}
use Rattle.enet_sender.specs.Due.{SendingEnd}
use Rattle.enet_sender.specs.Late.{IsLate, capped, sum_at, weight_at}
use Rattle.enet_sender.specs.Outstanding.{outstanding_at, outstanding_bytes, outstanding_commands, payload}
use Rattle.enet_sender.specs.Pending.{vacant, named, times, held}
use Rattle.enet_sender.specs.Rings.{Keeps, command_of, rings_of, keys_of, end_of}
use Rattle.enet_sender.specs.Sender.{bytes_of, late_bytes, late_price, lost_price, price_of}
use Rattle.enet_sender.proofs.Foretelling.{due-not_late}
use Rattle.enet_sender.proofs.Named.{times-cons}
use Rattle.enet_sender.proofs.Summing.{sum-suc, sum-whole}
use Rattle.enet_senders.specs.Outstanding.{outstanding_over}
use Rattle.enet_senders.specs.Senders.{IsLateOver, KeepsAll, ends_of, sum_over, times_in}

-- what the command under a key weighs
abbrev at_key : (Sent → ℕ) → (ℕ → Option Sent) → ℕ → ℕ
at_key w at key = weight_at w (at key)

-- the same where the key is below another, and else nothing
abbrev below : (ℕ → ℕ) → ℕ → ℕ → ℕ
below h n key = cond (ltb key n) (h key) 0

-- what the keys below another weigh
abbrev part : (ℕ → ℕ) → ℕ → List ℕ → ℕ
part h n keys = sum_by (below h n) keys

below-more : (h : ℕ → ℕ) (n key : ℕ) → below h (suc n) key ≡ below h n key + cond (eqb key n) 1 0 * h n
below-more h n key =
    elim (cases_lt key n) [
      | inl less ↦
          let now : below h (suc n) key ≡ h key = ap (λ b. cond b (h key) 0) (lt-ltb key (suc n) (omega arith)) in
          let was : below h n key ≡ h key = ap (λ b. cond b (h key) 0) (lt-ltb key n less) in
          let none : cond (eqb key n) 1 0 * h n ≡ 0 * h n = ap (λ b. cond b 1 0 * h n) (ne_eqb key n (λ e. omega arith)) in
          omega arith
      | inr more ↦ elim (cases_eq key n) [
        | inl same ↦
            let now : below h (suc n) key ≡ h key = ap (λ b. cond b (h key) 0) (lt-ltb key (suc n) (omega arith)) in
            let was : below h n key ≡ 0 = ap (λ b. cond b (h key) 0) (le-ltb key n more) in
            let one : cond (eqb key n) 1 0 * h n ≡ 1 * h n = ap (λ b. cond b 1 0 * h n) (eq-eqb key n same) in
            let is : h key ≡ h n = ap h same in
            omega arith
        | inr other ↦
            let now : below h (suc n) key ≡ 0 = ap (λ b. cond b (h key) 0) (le-ltb key (suc n) (omega (arith, other))) in
            let was : below h n key ≡ 0 = ap (λ b. cond b (h key) 0) (le-ltb key n more) in
            let none : cond (eqb key n) 1 0 * h n ≡ 0 * h n = ap (λ b. cond b 1 0 * h n) (ne_eqb key n other) in
            omega arith
      ]
    ]

-- one key more: it counts as often as it stands there
part-more : (h : ℕ → ℕ) (n : ℕ) (keys : List ℕ) → part h (suc n) keys ≡ part h n keys + times n keys * h n
part-more h n [] = omega arith
part-more h n (k ∷ keys) =
    let e = sum_by-cons (below h (suc n)) k keys in
    let f = sum_by-cons (below h n) k keys in
    let g : times n (k ∷ keys) * h n ≡ cond (eqb k n) 1 0 * h n + times n keys * h n = ap (λ m. m * h n) (times-cons n k keys) ∙ add-mul (cond (eqb k n) 1 0) (times n keys) (h n) in
    let here = below-more h n k in
    let rest = part-more h n keys in
    omega arith

-- on all channels
abbrev part_in : (ℕ → ℕ) → ℕ → Outgoing → ℕ
part_in h n o = part h n (keys_of (rings_of o))

parts-more : (h : ℕ → ℕ) (n : ℕ) (channels : List Outgoing) → sum_by (part_in h (suc n)) channels ≡ sum_by (part_in h n) channels + sum_by (times_in n) channels * h n
parts-more h n [] = omega arith
parts-more h n (o ∷ os) =
    let e = sum_by-cons (part_in h (suc n)) o os in
    let f = sum_by-cons (part_in h n) o os in
    let g : sum_by (times_in n) (o ∷ os) * h n ≡ times_in n o * h n + sum_by (times_in n) os * h n = ap (λ m. m * h n) (sum_by-cons (times_in n) o os) ∙ add-mul (times_in n o) (sum_by (times_in n) os) (h n) in
    let here = part-more h n (keys_of (rings_of o)) in
    let rest = parts-more h n os in
    omega arith

part-none : (h : ℕ → ℕ) (keys : List ℕ) → part h 0 keys ≡ 0
part-none h [] = refl
part-none h (k ∷ keys) =
    let e = sum_by-cons (below h 0) k keys in
    let here : below h 0 k ≡ 0 = ap (λ b. cond b (h k) 0) (le-ltb k 0 (omega arith)) in
    let rest = part-none h keys in
    omega arith

parts-none : (h : ℕ → ℕ) (channels : List Outgoing) → sum_by (part_in h 0) channels ≡ 0
parts-none h [] = refl
parts-none h (o ∷ os) =
    let e = sum_by-cons (part_in h 0) o os in
    let here = part-none h (keys_of (rings_of o)) in
    let rest = parts-none h os in
    omega arith

-- a command stands under a key once or not at all
once : (w : Sent → ℕ) (o : Option Sent) → cond (is_some o) 1 0 * weight_at w o ≡ weight_at w o
once w None = omega arith
once w (Some p) = omega arith

-- key by key, as long as each stands in one ring once
parts-slots : (w : Sent → ℕ) (s : Slab Sent) (channels : List Outgoing) (n : ℕ) → ((key : ℕ) → key < n → sum_by (times_in key) channels ≡ held (get s) key)
    → sum_by (part_in (at_key w (get s)) n) channels ≡ sum_at w (take n s.slots)
parts-slots w s channels zero names = parts-none (at_key w (get s)) channels
parts-slots w s channels (suc n) names =
    let h = at_key w (get s) in
    let so_far = parts-slots w s channels n (λ key low. names key (omega arith)) in
    let more = parts-more h n channels in
    let one : sum_by (times_in n) channels * h n ≡ h n = ap (λ m. m * h n) (names n (omega arith)) ∙ once w (get s n) in
    let next = sum-suc w s.slots n in
    omega arith

-- where all keys are below
part-all : (h : ℕ → ℕ) (n : ℕ) (keys : List ℕ) → ((key : ℕ) → n ≤ key → h key ≡ 0) → part h n keys ≡ sum_by h keys
part-all h n [] none = refl
part-all h n (k ∷ keys) none =
    let e = sum_by-cons (below h n) k keys in
    let f = sum_by-cons h k keys in
    let rest = part-all h n keys none in
    let here : below h n k ≡ h k = elim (cases_lt k n) [
      | inl less ↦ ap (λ b. cond b (h k) 0) (lt-ltb k n less)
      | inr past ↦ ap (λ b. cond b (h k) 0) (le-ltb k n past) ∙ sym (none k past)
    ] in
    omega arith

-- a ring's commands, in the list
keys-named : (w : Sent → ℕ) (at : ℕ → Option Sent) (keys : List ℕ) → sum_by (at_key w at) keys ≡ sum_by w (named at keys)
keys-named w at [] = refl
keys-named w at (k ∷ keys) = sum_by-cons (at_key w at) k keys ∙ ap (λ n. at_key w at k + n) (keys-named w at keys) ∙ by (at k)
  where
    by : (o : Option Sent) → weight_at w o + sum_by w (named at keys) ≡ sum_by w (cons_option o (named at keys))
    by None = omega arith
    by (Some p) = sym (sum_by-cons w p (named at keys))

-- what is queued stands as if it were due, and weighs nothing
abbrev WeighsNothing : (Sent → ℕ) → Type 0
WeighsNothing w = (p : Sent) → p.transmission.due ≡ true → w p ≡ 0

queued-nothing : (w : Sent → ℕ) (ps : List Sent) → WeighsNothing w → All (λ (p : Sent). p.transmission.due ≡ true) ps → sum_by w ps ≡ 0
queued-nothing w [] none due = refl
queued-nothing w (p ∷ ps) none due =
    let e = sum_by-cons w p ps in
    let here = none p (All-head (λ (p : Sent). p.transmission.due ≡ true) p ps due) in
    let rest = queued-nothing w ps none (All-tail (λ (p : Sent). p.transmission.due ≡ true) p ps due) in
    omega arith

channel-sum : (w : Sent → ℕ) (s : Slab Sent) (o : Outgoing) (n : ℕ) → WeighsNothing w → Keeps (get s) (rings_of o) → ((key : ℕ) → n ≤ key → at_key w (get s) key ≡ 0)
    → part_in (at_key w (get s)) n o ≡ sum_by w (named (get s) o.sent.items)
channel-sum w s o n none keeps past =
    let h = at_key w (get s) in
    let whole = part-all h n (keys_of (rings_of o)) past in
    let both = sum_by-append h o.queued.items o.sent.items in
    let queued = keys-named w (get s) o.queued.items in
    let sent = keys-named w (get s) o.sent.items in
    let nothing = queued-nothing w (named (get s) o.queued.items) none keeps.waits in
    omega arith

channels-sum : (w : Sent → ℕ) (s : Slab Sent) (channels : List Outgoing) (n : ℕ) → WeighsNothing w → All (λ (o : Outgoing). Keeps (get s) (rings_of o)) channels
    → ((key : ℕ) → n ≤ key → at_key w (get s) key ≡ 0) → sum_by (part_in (at_key w (get s)) n) channels ≡ sum_over w (ends_of s channels)
channels-sum w s [] n none each past = refl
channels-sum w s (o ∷ os) n none each past =
    let e = sum_by-cons (part_in (at_key w (get s)) n) o os in
    let f = sum_by-cons (λ (x : SendingEnd). sum_by w x.sender.sent) (end_of s o) (ends_of s os) in
    let here = channel-sum w s o n none (All-head (λ (o : Outgoing). Keeps (get s) (rings_of o)) o os each) past in
    let rest = channels-sum w s os n none (All-tail (λ (o : Outgoing). Keeps (get s) (rings_of o)) o os each) past in
    omega arith

-- so what stands under all keys weighs as much as what is sent on all channels
sum-same : (w : Sent → ℕ) (s : Slab Sent) (channels : List Outgoing) (n : ℕ) → WeighsNothing w → All (λ (o : Outgoing). Keeps (get s) (rings_of o)) channels
    → ((key : ℕ) → key < n → sum_by (times_in key) channels ≡ held (get s) key) → ((key : ℕ) (p : Sent) → get s key ≡ Some p → key < n) → sum_at w s.slots ≡ sum_over w (ends_of s channels)
sum-same w s channels n none each names low =
    sum-whole w s.slots n (λ key more. by key more (get s key) refl) ∙ sym (parts-slots w s channels n names) ∙ channels-sum w s channels n none each (λ key more. by key more (get s key) refl)
  where
    by : (key : ℕ) → n ≤ key → (o : Option Sent) → get s key ≡ o → weight_at w o ≡ 0
    by key more None e = refl
    by key more (Some p) e = absurd (let less = low key p e in omega arith)

-- ---- what is queued counts, too

-- what the commands of a channel weigh, queued or sent
abbrev pub weight_on : (Sent → ℕ) → Slab Sent → Outgoing → ℕ
weight_on w s o = sum_by w (named (get s) o.queued.items) + sum_by w (named (get s) o.sent.items)

channel-all : (w : Sent → ℕ) (s : Slab Sent) (o : Outgoing) (n : ℕ) → ((key : ℕ) → n ≤ key → at_key w (get s) key ≡ 0) → part_in (at_key w (get s)) n o ≡ weight_on w s o
channel-all w s o n past =
    let h = at_key w (get s) in
    let whole = part-all h n (keys_of (rings_of o)) past in
    let both = sum_by-append h o.queued.items o.sent.items in
    let queued = keys-named w (get s) o.queued.items in
    let sent = keys-named w (get s) o.sent.items in
    omega arith

-- a number of each end that is what its commands weigh
abbrev pub Weighs : (Sent → ℕ) → (SendingEnd → ℕ) → Slab Sent → Type 0
Weighs w g s = (o : Outgoing) → g (end_of s o) ≡ weight_on w s o

channels-all : (w : Sent → ℕ) (g : SendingEnd → ℕ) (s : Slab Sent) (channels : List Outgoing) (n : ℕ) → Weighs w g s → ((key : ℕ) → n ≤ key → at_key w (get s) key ≡ 0)
    → sum_by (part_in (at_key w (get s)) n) channels ≡ sum_by g (ends_of s channels)
channels-all w g s [] n weighs past = refl
channels-all w g s (o ∷ os) n weighs past =
    let e = sum_by-cons (part_in (at_key w (get s)) n) o os in
    let f = sum_by-cons g (end_of s o) (ends_of s os) in
    let here = channel-all w s o n past in
    let is = weighs o in
    let rest = channels-all w g s os n weighs past in
    omega arith

whole-same : (w : Sent → ℕ) (g : SendingEnd → ℕ) (s : Slab Sent) (channels : List Outgoing) (n : ℕ) → Weighs w g s
    → ((key : ℕ) → key < n → sum_by (times_in key) channels ≡ held (get s) key) → ((key : ℕ) (p : Sent) → get s key ≡ Some p → key < n) → sum_at w s.slots ≡ sum_by g (ends_of s channels)
whole-same w g s channels n weighs names low =
    sum-whole w s.slots n (λ key more. by key more (get s key) refl) ∙ sym (parts-slots w s channels n names) ∙ channels-all w g s channels n weighs (λ key more. by key more (get s key) refl)
  where
    by : (key : ℕ) → n ≤ key → (o : Option Sent) → get s key ≡ o → weight_at w o ≡ 0
    by key more None e = refl
    by key more (Some p) e = absurd (let less = low key p e in omega arith)

-- how many there are
abbrev one : Sent → ℕ
one p = 1

count-slots : (slots : List (Option Sent)) → count_by is_some slots ≡ sum_at one slots
count-slots [] = refl
count-slots (None ∷ slots) = sum_by-cons (λ (o : Option Sent). cond (is_some o) 1 0) None slots ∙ ap (λ n. 0 + n) (count-slots slots) ∙ sym (sum_by-cons (weight_at one) None slots)
count-slots (Some p ∷ slots) = sum_by-cons (λ (o : Option Sent). cond (is_some o) 1 0) (Some p) slots ∙ ap (λ n. 1 + n) (count-slots slots) ∙ sym (sum_by-cons (weight_at one) (Some p) slots)

count-list : (ps : List Sent) → length ps ≡ sum_by one ps
count-list [] = refl
count-list (p ∷ ps) = let e = sum_by-cons one p ps in let rest = count-list ps in omega arith

counts-on : (s : Slab Sent) → Weighs one (λ (e : SendingEnd). outstanding_commands e.sender) s
counts-on s o =
    let queued = named (get s) o.queued.items in
    let sent = named (get s) o.sent.items in
    let long : length (map command_of queued) ≡ length queued = length-map queued command_of in
    let a = count-list queued in
    let b = count-list sent in
    omega arith

bodies : (ps : List Sent) → sum_by (λ (c : DataCommand). length c.body) (map command_of ps) ≡ sum_by payload ps
bodies [] = refl
bodies (p ∷ ps) =
    let e = sum_by-cons (λ (c : DataCommand). length c.body) p.command (map command_of ps) in
    let f = sum_by-cons payload p ps in
    let rest = bodies ps in
    omega arith

bytes-on : (s : Slab Sent) → Weighs payload (λ (e : SendingEnd). outstanding_bytes e.sender) s
bytes-on s o =
    let queued = bodies (named (get s) o.queued.items) in
    omega arith

abbrev pub so_much : ℕ → ℕ → Outstanding
so_much n m = record { commands = n; bytes = m }

pub outstanding-is : (s : Slab Sent) (channels : List Outgoing) → KeepsAll (get s) channels → ((key : ℕ) (p : Sent) → get s key ≡ Some p → key < vacant)
    → outstanding_at s ≡ outstanding_over (ends_of s channels)
outstanding-is s channels all low =
    let commands : slab_len s ≡ (outstanding_over (ends_of s channels)).commands =
    count-slots s.slots ∙ whole-same one (λ (e : SendingEnd). outstanding_commands e.sender) s channels vacant (counts-on s) all.names low in
    let bytes : sum_at payload s.slots ≡ (outstanding_over (ends_of s channels)).bytes =
    whole-same payload (λ (e : SendingEnd). outstanding_bytes e.sender) s channels vacant (bytes-on s) all.names low in
    ap₂ so_much commands bytes

due-bytes : (tick : Tick) → WeighsNothing (late_bytes tick)
due-bytes tick p due = ap (λ b. cond b (bytes_of p.command) 0) (due-not_late tick.now p due)

due-price : (tick : Tick) → WeighsNothing (late_price tick)
due-price tick p due = ap (λ b. cond b (price_of p.command) 0) (due-not_late tick.now p due)

due-lost : (tick : Tick) → WeighsNothing (lost_price tick)
due-lost tick p due = ap (λ b. cond (b && is_heard_since tick p.transmission) (price_of p.command) 0) (due-not_late tick.now p due)

pub late-over : (tick : Tick) (s : Slab Sent) (channels : List Outgoing) (late : Late) → KeepsAll (get s) channels → ((key : ℕ) (p : Sent) → get s key ≡ Some p → key < vacant)
    → IsLate tick s.slots late → IsLateOver tick (ends_of s channels) late
late-over tick s channels late all low l = record {
  bytes = l.bytes ∙ ap capped (sum-same (late_bytes tick) s channels vacant (due-bytes tick) all.each all.names low);
  prices = l.prices ∙ ap capped (sum-same (late_price tick) s channels vacant (due-price tick) all.each all.names low);
  lost = l.lost ∙ ap capped (sum-same (lost_price tick) s channels vacant (due-lost tick) all.each all.names low);
}
