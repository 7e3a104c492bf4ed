-- How much can be held and wait.
use Rattle.std.proofs.Common.{◌≡◌, ◌≢◌, ℕ, zero, suc, ◌+◌, ◌-◌, ◌*◌, ◌^◌, ◌%◌, ◌<◌, ◌≤◌, ◌||◌, Bool, true, false, cond, List, [], ◌∷◌, length, map, sum_by, refl, sym, ap, subst, ◌∙◌, inl, inr, ◌⊎◌, arith, Option, Some, None, Result, Ok, Err}
use Rattle.std.proofs.lemmas.List.Sums.{sum_by-cons}
use Rattle.std.proofs.Math.Nat.{mul-le-mul_right}
use Rattle.std.specs.Ordering.{nat_cmp, eq_by_cmp}
use Rattle.std.specs.Cmp.{nat_cmp_total, tied_itself}
use Rattle.std.specs.List.{list_any}
use Rattle.std.specs.Option.{is_some}
use Rattle.std.specs.Result.{is_ok, OnOk}
use Rattle.std.specs.FinMap.{FinMap, get, insert, remove, len, entries, values, contains_key, len-insert, len-remove, len-entries, contains_key-keys}
use Rattle.enet_seq.specs.Windows.{ahead}
use Rattle.enet_packets.specs.declared.incoming_packet.IncomingPacket.{IncomingPacket}
use Rattle.enet_packets.specs.Packets.{bytes_of, packets_in, bytes_in}
use Rattle.enet_receiver.specs.Receiver.{Receiver, held_bytes}
use Rattle.enet_receiver.specs.Invariant.{IsLine, Keeps}
use Rattle.enet_receiver.specs.Members.{Has}
use Rattle.enet_receiver.proofs.Maps.{get_removed, get_inserted, get-insert_other}
use Rattle.enet_receiver.proofs.Entries.{get_entry}
use Rattle.enet_receiver.proofs.LineLemmas.{Line}

same_number : (k : ℕ) → eq_by_cmp nat_cmp k k ≡ true
same_number k = grind (arith, nat_cmp_total, tied_itself)

-- a map with a key
has_key : {X : Type 0} (es : List (ℕ × X)) → 0 < length es → (q : ℕ) × (list_any (eq_by_cmp nat_cmp q) (map (λ (e : ℕ × X). e.0) es) ≡ true)
has_key [] low = absurd (omega arith)
has_key {X = X} (e ∷ es) low = (e.0, ap (λ b. b || list_any (eq_by_cmp nat_cmp e.0) (map (λ (x : ℕ × X). x.0) es)) (same_number e.0))

empty_or_not : (n : ℕ) → (n ≡ 0) ⊎ (0 < n)
empty_or_not n = grind arith

some_there : {X : Type 0} (o : Option X) → is_some o ≡ true → (x : X) × (o ≡ Some x)
some_there None e = absurd (cc)
some_there (Some x) e = (x, refl)

less_one : (b : Bool) (n m k : ℕ) → m ≡ cond b (n - 1) n → m ≤ k → n ≤ suc k
less_one true n m k e h = omega arith
less_one false n m k e h = omega arith

-- numbers below n are at most n
pub len-le : {X : Type 0} (n : ℕ) (m : FinMap nat_cmp X) → ((q : ℕ) (x : X) → get m q ≡ Some x → q < n) → len m ≤ n
len-le {X = X} zero m below = elim (empty_or_not (len m)) [
  | inl none ↦ omega arith
  | inr more ↦
      let k = has_key (entries m) (subst (λ x. 0 < x) (len-entries m) more) in
      let v = some_there (get m k.0) (contains_key-keys m k.0 ∙ k.1) in
      absurd (let b = below k.0 v.0 v.1 in omega arith)
]
len-le {X = X} (suc n) m below =
    let fewer : len (remove m n) ≤ n = len-le n (remove m n) (λ q x there. (let parts = get_removed m n q x there in let b = below q x parts.1 in let apart = parts.0 in grind arith)) in
    less_one (contains_key m n) (len m) (len (remove m n)) n (len-remove nat_cmp_total m n) fewer

one_more_key : (b : Bool) (n m : ℕ) → b ≡ false → n ≡ cond b m (m + 1) → n ≡ m + 1
one_more_key true n m t e = absurd (cc)
one_more_key false n m t e = e

-- and where one of them is missing, at most one less
pub len-lt : {X : Type 0} (n k : ℕ) (m : FinMap nat_cmp X) (x : X) → ((q : ℕ) (x : X) → get m q ≡ Some x → q < n) → k < n → get m k ≡ None → len m < n
len-lt n k m x below low none =
    let all : len (insert m k x) ≤ n = len-le n (insert m k x) (λ q y there. elim (get_inserted m k q x y there) [
      | inl same ↦ omega arith
      | inr other ↦ below q y other.1
    ]) in
    let grown : len (insert m k x) ≡ len m + 1 = one_more_key (contains_key m k) (len (insert m k x)) (len m) (ap is_some none) (len-insert nat_cmp_total m k x) in
    omega arith

sum_step : (a b n s : ℕ) → a ≤ b → s ≤ n * b → a + s ≤ suc n * b
sum_step a b n s one rest = omega arith

sum-le : {X : Type 0} (f : X → ℕ) (b : ℕ) (es : List (ℕ × X)) → ((e : ℕ × X) → Has es e → f e.1 ≤ b) → sum_by f (map (λ (e : ℕ × X). e.1) es) ≤ length es * b
sum-le f b [] h = omega arith
sum-le {X = X} f b (e ∷ es) h =
    subst (λ n. n ≤ suc (length es) * b) (sym (sum_by-cons f e.1 (map (λ (x : ℕ × X). x.1) es)))
    (sum_step (f e.1) b (length es) (sum_by f (map (λ (x : ℕ × X). x.1) es)) (h e (inl refl)) (sum-le f b es (λ x k. h x (inr k))))

-- and where two are missing
len-lt_two : {X : Type 0} (n k j : ℕ) (m : FinMap nat_cmp X) (x : X) → ((q : ℕ) (x : X) → get m q ≡ Some x → q < n) → k < n → j < n → j ≢ k → get m k ≡ None → get m j ≡ None → len m + 1 < n
len-lt_two n k j m x below low low_too apart none none_too =
    let all = len-lt n j (insert m k x) x (λ q y there. elim (get_inserted m k q x y there) [
      | inl same ↦ omega arith
      | inr other ↦ below q y other.1
    ]) low_too (get-insert_other m k j x apart ∙ none_too) in
    let grown : len (insert m k x) ≡ len m + 1 = one_more_key (contains_key m k) (len (insert m k x)) (len m) (ap is_some none) (len-insert nat_cmp_total m k x) in
    omega arith

-- a sum over a map's values
pub sum_values-le : {X : Type 0} (f : X → ℕ) (b : ℕ) (m : FinMap nat_cmp X) → ((q : ℕ) (x : X) → get m q ≡ Some x → f x ≤ b) → sum_by f (values m) ≤ len m * b
sum_values-le f b m h =
    let n = len-entries m in
    let all = sum-le f b (entries m) (λ e k. h e.0 e.1 (get_entry m e k)) in
    subst (λ x. sum_by f (values m) ≤ x * b) (sym n) all

-- what is held, and the lines that wait, are less than all numbers: nothing is held for the front, or stands far past it
front_is_free : {X : Type 0} (front : ℕ) (m : FinMap nat_cmp X) (o : Option X) → front < 65536 → ((x : X) → o ≡ Some x → 1 ≤ ahead front front) → o ≡ None
front_is_free front m None low h = refl
front_is_free front m (Some x) low h = absurd (let e = h x refl in omega arith)

past_is_free : {X : Type 0} (front : ℕ) (o : Option X) → front < 65536 → ((x : X) → o ≡ Some x → ahead front ((front + 30000) % 65536) ≤ 28671) → o ≡ None
past_is_free front None low h = refl
past_is_free front (Some x) low h = absurd (let e = h x refl in omega arith)

past_apart : (front : ℕ) → front < 65536 → (front + 30000) % 65536 ≢ front
past_apart front low e = omega arith

pub held_fit : (most : ℕ) (r : Receiver) → Keeps most r → len r.held ≤ 65534
held_fit most r k =
    elim (empty_or_not (len r.held)) [
      | inl none ↦ omega arith
      | inr more ↦
          let q = has_key (entries r.held) (subst (λ x. 0 < x) (len-entries r.held) more) in
          let v = some_there (get r.held q.0) (contains_key-keys r.held q.0 ∙ q.1) in
          let past : ℕ = (r.front + 30000) % 65536 in
          let fewer = len-lt_two 65536 r.front ((r.front + 30000) % 65536) r.held v.0 (λ q x there. (k.held q x there).wire) k.wire (omega arith) (past_apart r.front k.wire)
          (front_is_free r.front r.held (get r.held r.front) k.wire (λ x there. (k.held r.front x there).near))
          (past_is_free r.front (get r.held past) k.wire (λ x there. (k.held past x there).far)) in
          omega arith
    ]

pub lines_fit : (most : ℕ) (r : Receiver) → Keeps most r → len r.waiting < 65536
lines_fit most r k =
    elim (empty_or_not (len r.waiting)) [
      | inl none ↦ omega arith
      | inr more ↦
          let q = has_key (entries r.waiting) (subst (λ x. 0 < x) (len-entries r.waiting) more) in
          let v = some_there (get r.waiting q.0) (contains_key-keys r.waiting q.0 ∙ q.1) in
          len-lt 65536 ((r.front + 30000) % 65536) r.waiting v.0 (λ q x there. (k.waiting q x there).wire) (omega arith)
          (past_is_free r.front (get r.waiting ((r.front + 30000) % 65536)) k.wire (λ x there. (k.waiting ((r.front + 30000) % 65536) x there).far))
    ]

line_fits : (most : ℕ) (front number : ℕ) (line : Line) → IsLine front most number line → len line ≤ 65536
line_fits most front number line is = len-le 65536 line (λ q x there. (is.packets q x there).wire)

pub packets_fit : (most : ℕ) (r : Receiver) → Keeps most r → len r.held + packets_in r.waiting < 2 ^ 32
packets_fit most r k =
    let held = held_fit most r k in
    let lines = lines_fit most r k in
    let all : packets_in r.waiting ≤ len r.waiting * 65536 = sum_values-le len 65536 r.waiting (λ q line there. line_fits most r.front q line (k.waiting q line there)) in
    omega arith

line_bytes : (most : ℕ) (front number : ℕ) (line : Line) → IsLine front most number line → bytes_of line ≤ 65536 * most
line_bytes most front number line is =
    let few = line_fits most front number line is in
    let sum = sum_values-le (λ (c : IncomingPacket). c.making.total) most line (λ q x there. (is.packets q x there).small) in
    let bound : len line * most ≤ 65536 * most = mul-le-mul_right most few in
    omega arith

pub bytes_fit : (most : ℕ) (r : Receiver) → most < 2 ^ 32 → Keeps most r → held_bytes r < 2 ^ 64
bytes_fit most r small k =
    let held = held_fit most r k in
    let lines = lines_fit most r k in
    let one = sum_values-le (λ (c : IncomingPacket). c.making.total) most r.held (λ q x there. (k.held q x there).small) in
    let bound_one : len r.held * most ≤ 65535 * most = mul-le-mul_right most (omega arith) in
    let two : bytes_in r.waiting ≤ len r.waiting * (65536 * most) = sum_values-le bytes_of (65536 * most) r.waiting (λ q line there. line_bytes most r.front q line (k.waiting q line there)) in
    let bound_two : len r.waiting * (65536 * most) ≤ 65535 * (65536 * most) = mul-le-mul_right (65536 * most) (omega arith) in
    omega arith

one_at_most : (b : Bool) (n m : ℕ) → n ≡ cond b m (m + 1) → n ≤ m + 1
one_at_most true n m e = omega arith
one_at_most false n m e = omega arith

pub len_inserted : {X : Type 0} (m : FinMap nat_cmp X) (k : ℕ) (v : X) → len (insert m k v) ≤ len m + 1
len_inserted m k v = one_at_most (contains_key m k) (len (insert m k v)) (len m) (len-insert nat_cmp_total m k v)

-- what holds of a result that is Ok
pub from_ok : {A E : Type 0} {P : Type 0} (r : Result A E) (b : Bool) → b ≡ is_ok r → b ≡ true → OnOk r P → P
from_ok (Ok x) b e t h = h
from_ok (Err x) b e t h = absurd (cc)
