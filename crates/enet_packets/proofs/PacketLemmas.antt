-- What a tree of packets keeps, and which of them are handed out.
use Rattle.std.proofs.Common.{◌≡◌, ℕ, ◌+◌, ◌-◌, ◌*◌, ◌^◌, ◌<◌, ◌≤◌, ◌++◌, Bool, true, false, cond, List, [], ◌∷◌, length, sum_by, refl, sym, ap, subst, ◌∙◌, arith, Option, Some, None, Result, Ok, Err, OnOk, OnErr, All, Ordering, Less, Equal, Greater}
use Rattle.std.specs.Prelude.{◌&&◌, nat_lt, nat_le}
use Rattle.std.specs.Ordering.{nat_cmp, is_eq, match_ordering}
use Rattle.std.specs.Cmp.{nat_cmp_is}
use Rattle.std.proofs.lemmas.Map.Lookups.{exact_unsigned}
use Rattle.std.specs.Cmp.{nat_cmp_total}
use Rattle.std.specs.Option.{IfSome, option_map, unwrap_or}
use Rattle.std.specs.Result.{IfOk}
use Rattle.std.specs.List.Sorted.{IsStrictlySortedBy}
use Rattle.std.specs.Map.{lookup, keys_of, values_of, remove_entry, set_value}
use Rattle.std.specs.BTreeMap.{is_at, insert_entry}
use Rattle.std.specs.FinMap.{from_entries, len}
use Rattle.std.specs.FinMap.Entries.{where_key}
use Rattle.std.proofs.lemmas.Bool.Decides.{nat_tests}
use Rattle.std.proofs.lemmas.List.{append_assoc}
use Rattle.std.proofs.lemmas.List.Elements.{All-nil, All-cons, All-head, All-tail, All-weaker, All-from_recursion}
use Rattle.std.proofs.lemmas.List.Sums.{sum_by-cons}
use Rattle.std.proofs.lemmas.Map.{keys-set_value}
use Rattle.std.proofs.lemmas.Map.Keys.{sorted_head, sorted_tail}
use Rattle.std.proofs.lemmas.Map.Entries.{sum_by-insert_entry, sum_by-remove_entry, sum_by-set_value}
use Rattle.std.proofs.lemmas.Map.Views.{IfSome-lookup_from_All, All-keys-insert_entry, All-values-insert_entry, All-map-remove_entry, All-values-set_value}
use Rattle.enet_codec.specs.declared.refusal.Refusal.{Refusal}
use Rattle.enet_fragment.specs.declared.place.Place.{Place}
use Rattle.enet_fragment.specs.PartialPacket.{PartialPacket, with_piece}
use Rattle.enet_fragment.specs.Whole.{is_whole}
use Rattle.enet_packets.specs.declared.incoming_packet.IncomingPacket.{IncomingPacket}
use Rattle.enet_packets.specs.declared.incoming_packet.Dispatched.{Dispatched}
use Rattle.enet_packets.specs.Invariant.{AreWholeUpTo, KeepsPackets, total_of}
use Rattle.enet_packets.specs.Private.Invariant.{most_if, most_with}
use Rattle.enet_packets.specs.Packets.{bytes_of, fresh, last_fresh, handed_out}
use Rattle.enet_packets.proofs.Maps.{sum_bounded, length_bounded, len-sorted, values-sorted, set_value-same}

abbrev pub Entries : Type 0
Entries = List (ℕ × IncomingPacket)

abbrev low_number : ℕ → Type 0
low_number n = n < 65536

abbrev low_total : IncomingPacket → Type 0
low_total c = total_of c ≤ 2 ^ 32 - 1

-- ---- those past a number are in the making

abbrev pub IsWholeUpTo : ℕ → ℕ × IncomingPacket → Type 0
IsWholeUpTo most e = is_whole e.1.making ≡ true → e.0 ≤ most

most_grows : (w : Bool) (most k : ℕ) → most ≤ most_if w most k
most_grows true most k = grind arith
most_grows false most k = omega arith

most_reaches : (w : Bool) (most k : ℕ) → w ≡ true → k ≤ most_if w most k
most_reaches true most k e = grind arith
most_reaches false most k e = absurd (cc)

whole-more : (most next : ℕ) (es : Entries) → most ≤ next → AreWholeUpTo most es → AreWholeUpTo next es
whole-more most next [] up a = All-nil (IsWholeUpTo next)
whole-more most next (e ∷ es) up a =
    All-cons (IsWholeUpTo next) e es (λ w. (let low = All-head (IsWholeUpTo most) e es a w in omega arith)) (whole-more most next es up (All-tail (IsWholeUpTo most) e es a))

whole-insert : (most k : ℕ) (v : IncomingPacket) (es : Entries) → AreWholeUpTo most es → AreWholeUpTo (most_if (is_whole v.making) most k) (insert_entry nat_cmp es k v)
whole-insert most k v [] a = All-cons (IsWholeUpTo (most_if (is_whole v.making) most k)) (k, v) [] (most_reaches (is_whole v.making) most k) (All-nil (IsWholeUpTo (most_if (is_whole v.making) most k)))
whole-insert most k v (e ∷ es) a = by (whole-insert most k v es (All-tail (IsWholeUpTo most) e es a)) (nat_cmp k e.0) refl
  where
    next : ℕ
    next = most_if (is_whole v.making) most k

    all : AreWholeUpTo next (e ∷ es)
    all = whole-more most next (e ∷ es) (most_grows (is_whole v.making) most k) a

    by : AreWholeUpTo next (insert_entry nat_cmp es k v) → (r : Ordering) → nat_cmp k e.0 ≡ r → AreWholeUpTo next (match_ordering r ((k, v) ∷ e ∷ es) ((e.0, v) ∷ es) (e ∷ insert_entry nat_cmp es k v))
    by rest Less t = All-cons (IsWholeUpTo next) (k, v) (e ∷ es) (most_reaches (is_whole v.making) most k) all
    by rest Equal t =
        All-cons (IsWholeUpTo next) (e.0, v) es (λ w. (let same : k ≡ e.0 = exact_unsigned k e.0 t in let up = most_reaches (is_whole v.making) most k w in omega arith)) (All-tail (IsWholeUpTo next) e es all)
    by rest Greater t = All-cons (IsWholeUpTo next) e (insert_entry nat_cmp es k v) (All-head (IsWholeUpTo next) e es all) rest

equal_at : (r : Ordering) → is_eq r ≡ true → r ≡ Equal
equal_at Less e = absurd (cc)
equal_at Equal e = refl
equal_at Greater e = absurd (cc)

whole-set : (most k : ℕ) (w : IncomingPacket) (es : Entries) → AreWholeUpTo most es → AreWholeUpTo (most_if (is_whole w.making) most k) (set_value (is_at (nat_cmp k)) es w)
whole-set most k w [] a = All-nil (IsWholeUpTo (most_if (is_whole w.making) most k))
whole-set most k w (e ∷ es) a = by (whole-set most k w es (All-tail (IsWholeUpTo most) e es a)) (is_at (nat_cmp k) e.0) refl
  where
    next : ℕ
    next = most_if (is_whole w.making) most k

    all : AreWholeUpTo next (e ∷ es)
    all = whole-more most next (e ∷ es) (most_grows (is_whole w.making) most k) a

    by : AreWholeUpTo next (set_value (is_at (nat_cmp k)) es w) → (b : Bool) → is_at (nat_cmp k) e.0 ≡ b → AreWholeUpTo next (cond b ((e.0, w) ∷ es) (e ∷ set_value (is_at (nat_cmp k)) es w))
    by rest true t =
        All-cons (IsWholeUpTo next) (e.0, w) es (λ h. (let same : k ≡ e.0 = exact_unsigned k e.0 (equal_at (nat_cmp k e.0) t) in let up = most_reaches (is_whole w.making) most k h in omega arith)) (All-tail (IsWholeUpTo next) e es all)
    by rest false t = All-cons (IsWholeUpTo next) e (set_value (is_at (nat_cmp k)) es w) (All-head (IsWholeUpTo next) e es all) rest

whole-remove : (most : ℕ) (test : ℕ → Bool) (es : Entries) → AreWholeUpTo most es → AreWholeUpTo most (remove_entry test es)
whole-remove most test [] a = a
whole-remove most test (e ∷ es) a = by (whole-remove most test es (All-tail (IsWholeUpTo most) e es a)) (test e.0)
  where
    by : AreWholeUpTo most (remove_entry test es) → (b : Bool) → AreWholeUpTo most (cond b es (e ∷ remove_entry test es))
    by rest true = All-tail (IsWholeUpTo most) e es a
    by rest false = All-cons (IsWholeUpTo most) e (remove_entry test es) (All-head (IsWholeUpTo most) e es a) rest

less_than : (x y : ℕ) → nat_cmp x y ≡ Less → x < y
less_than x y e = grind (arith, nat_cmp_is)

-- past the first that is past a number all are
all_past : (most : ℕ) (e : ℕ × IncomingPacket) (es : Entries) → most < e.0 → IsStrictlySortedBy nat_cmp (keys_of (e ∷ es)) → All (λ (k : ℕ). most < k) (keys_of (e ∷ es))
all_past most e es high sorted =
    All-cons (λ (k : ℕ). most < k) e.0 (keys_of es) high
    (All-weaker (λ (y : ℕ). nat_cmp e.0 y ≡ Less) (λ (k : ℕ). most < k) (λ y t. (let up = less_than e.0 y t in omega arith)) (keys_of es)
    (All-from_recursion (λ (y : ℕ). nat_cmp e.0 y ≡ Less) (keys_of es) (sorted_head nat_cmp e.0 (keys_of es) sorted)))

-- none of those is handed out
pub none_fresh : (most last first : ℕ) (es : Entries) → AreWholeUpTo most es → All (λ (k : ℕ). most < k) (keys_of es) → (last_fresh last es ≡ last) × (fresh first es ≡ [])
none_fresh most last first [] a high = (refl, refl)
none_fresh most last first (e ∷ es) a high =
    by (none_fresh most last first es (All-tail (IsWholeUpTo most) e es a) (All-tail (λ (k : ℕ). most < k) e.0 (keys_of es) high)) (is_whole e.1.making) refl
  where
    by : (last_fresh last es ≡ last) × (fresh first es ≡ []) → (w : Bool) → is_whole e.1.making ≡ w
        → (cond (w && nat_lt last e.0) (last_fresh e.0 es) (last_fresh last es) ≡ last) × (cond (w && nat_le first e.0) (handed_out e.1 ∷ fresh first es) (fresh first es) ≡ [])
    by rest true t = absurd (let low = All-head (IsWholeUpTo most) e es a t in let past = All-head (λ (k : ℕ). most < k) e.0 (keys_of es) high in omega arith)
    by rest false t = rest

pub none_fresh_past : (most last first : ℕ) (e : ℕ × IncomingPacket) (es : Entries) → AreWholeUpTo most (e ∷ es) → IsStrictlySortedBy nat_cmp (keys_of (e ∷ es)) → most < e.0
    → (last_fresh last (e ∷ es) ≡ last) × (fresh first (e ∷ es) ≡ [])
none_fresh_past most last first e es a sorted high = none_fresh most last first (e ∷ es) a (all_past most e es high sorted)

-- the same of what is left to look at after a packet
pub left_after : (most : ℕ) (all : Entries) (e : ℕ × IncomingPacket) (es : Entries) → all ≡ e ∷ es → IsStrictlySortedBy nat_cmp (keys_of all) → AreWholeUpTo most all
    → IsStrictlySortedBy nat_cmp (keys_of es) × AreWholeUpTo most es
left_after most all e es is sorted whole = (
  sorted_tail nat_cmp e.0 (keys_of es) (subst (λ (xs : Entries). IsStrictlySortedBy nat_cmp (keys_of xs)) is sorted),
  All-tail (IsWholeUpTo most) e es (subst (λ (xs : Entries). AreWholeUpTo most xs) is whole),
)

-- nothing is handed out any more where the next packet is past that number
pub none_fresh_after : (most last first : ℕ) (all : Entries) (e : ℕ × IncomingPacket) (es : Entries) → all ≡ e ∷ es → IsStrictlySortedBy nat_cmp (keys_of all) → AreWholeUpTo most all → most < e.0
    → (last_fresh last all ≡ last) × (fresh first all ≡ [])
none_fresh_after most last first all e es is sorted whole high =
    subst (λ (xs : Entries). (last_fresh last xs ≡ last) × (fresh first xs ≡ [])) (sym is)
    (none_fresh_past most last first e es (subst (λ (xs : Entries). AreWholeUpTo most xs) is whole) (subst (λ (xs : Entries). IsStrictlySortedBy nat_cmp (keys_of xs)) is sorted) high)

-- the packets' bytes are bounded
pub bytes_bounded : (es : Entries) (bytes most : ℕ) → KeepsPackets es bytes most → bytes < 2 ^ 48
bytes_bounded es bytes most keeps =
    let bound : sum_by total_of (values_of es) ≤ 65536 * (2 ^ 32 - 1) = sum_bounded total_of (2 ^ 32 - 1) es keeps.sorted keeps.numbers keeps.totals in
    let same = keeps.counted in
    omega arith

pub few_kept : (es : Entries) (bytes most : ℕ) → KeepsPackets es bytes most → len (from_entries {R = nat_cmp} es) ≤ 65536
few_kept es bytes most keeps =
    let few = length_bounded es keeps.sorted keeps.numbers in
    let all = len-sorted es keeps.sorted in
    omega arith

pub light_kept : (es : Entries) (bytes most : ℕ) → KeepsPackets es bytes most → bytes_of (from_entries {R = nat_cmp} es) < 2 ^ 48
light_kept es bytes most keeps = subst (λ n. n < 2 ^ 48) (keeps.counted ∙ sym (values-sorted es keeps.sorted total_of)) (bytes_bounded es bytes most keeps)

pub keeps-insert : (es fs : Entries) (bytes most k : ℕ) (v : IncomingPacket) → k < 65536 → total_of v < 2 ^ 32 → lookup (is_at (nat_cmp k)) es ≡ None
    → fs ≡ insert_entry nat_cmp es k v → IsStrictlySortedBy nat_cmp (keys_of fs) → KeepsPackets es bytes most → KeepsPackets fs (bytes + total_of v) (most_if (is_whole v.making) most k)
keeps-insert es fs bytes most k v low short absent is sorted keeps = record {
  sorted = sorted;
  numbers = rw is (All-keys-insert_entry nat_cmp k v low_number es keeps.numbers low);
  totals = rw is (All-values-insert_entry nat_cmp k v low_total es keeps.totals (omega arith));
  counted =
      (let was = keeps.counted in
      let sum : sum_by total_of (values_of (insert_entry nat_cmp es k v)) + unwrap_or (option_map total_of (lookup (is_at (nat_cmp k)) es)) 0 ≡ sum_by total_of (values_of es) + total_of v =
      sum_by-insert_entry total_of nat_cmp_total es k v keeps.sorted in
      let none : unwrap_or (option_map total_of (lookup (is_at (nat_cmp k)) es)) 0 ≡ 0 = ap (λ (o : Option IncomingPacket). unwrap_or (option_map total_of o) 0) absent in
      let new : sum_by total_of (values_of fs) ≡ sum_by total_of (values_of (insert_entry nat_cmp es k v)) = ap (λ (xs : Entries). sum_by total_of (values_of xs)) is in
      omega arith);
  whole = subst (λ (xs : Entries). AreWholeUpTo (most_if (is_whole v.making) most k) xs) (sym is) (whole-insert most k v es keeps.whole);
}

-- a packet that changes and keeps its length
pub keeps-set : (es fs : Entries) (bytes most k : ℕ) (v w : IncomingPacket) → lookup (is_at (nat_cmp k)) es ≡ Some v → total_of w ≡ total_of v
    → fs ≡ set_value (is_at (nat_cmp k)) es w → KeepsPackets es bytes most → KeepsPackets fs bytes (most_if (is_whole w.making) most k)
keeps-set es fs bytes most k v w there same is keeps =
    let low : total_of v ≤ 2 ^ 32 - 1 = subst (λ (o : Option IncomingPacket). IfSome o low_total) there (IfSome-lookup_from_All low_total (is_at (nat_cmp k)) es keeps.totals) in
    let keys : keys_of fs ≡ keys_of es = ap (λ (xs : Entries). keys_of xs) is ∙ keys-set_value (is_at (nat_cmp k)) es w in
    record {
      sorted = subst (IsStrictlySortedBy nat_cmp) (sym keys) keeps.sorted;
      numbers = subst (All low_number) (sym keys) keeps.numbers;
      totals = rw is (All-values-set_value (is_at (nat_cmp k)) low_total es w keeps.totals (omega arith));
      counted =
          (let was = keeps.counted in
          let sum = sum_by-set_value total_of (is_at (nat_cmp k)) es v w there in
          let new : sum_by total_of (values_of fs) ≡ sum_by total_of (values_of (set_value (is_at (nat_cmp k)) es w)) = ap (λ (xs : Entries). sum_by total_of (values_of xs)) is in
          omega arith);
      whole = subst (λ (xs : Entries). AreWholeUpTo (most_if (is_whole w.making) most k) xs) (sym is) (whole-set most k w es keeps.whole);
    }

pub bytes_removed : (es fs : Entries) (bytes most k : ℕ) (v : IncomingPacket) → lookup (is_at (nat_cmp k)) es ≡ Some v
    → fs ≡ remove_entry (is_at (nat_cmp k)) es → KeepsPackets es bytes most → bytes ≡ sum_by total_of (values_of fs) + total_of v
bytes_removed es fs bytes most k v there is keeps =
    let was = keeps.counted in
    let sum = sum_by-remove_entry total_of (is_at (nat_cmp k)) es in
    let some' : unwrap_or (option_map total_of (lookup (is_at (nat_cmp k)) es)) 0 ≡ total_of v = ap (λ (o : Option IncomingPacket). unwrap_or (option_map total_of o) 0) there in
    let new : sum_by total_of (values_of fs) ≡ sum_by total_of (values_of (remove_entry (is_at (nat_cmp k)) es)) = ap (λ (xs : Entries). sum_by total_of (values_of xs)) is in
    omega arith

pub keeps-remove : (es fs : Entries) (bytes most k : ℕ) (v : IncomingPacket) → lookup (is_at (nat_cmp k)) es ≡ Some v
    → fs ≡ remove_entry (is_at (nat_cmp k)) es → IsStrictlySortedBy nat_cmp (keys_of fs) → KeepsPackets es bytes most → KeepsPackets fs (bytes - total_of v) most
keeps-remove es fs bytes most k v there is sorted keeps = record {
  sorted = sorted;
  numbers = rw is (All-map-remove_entry (is_at (nat_cmp k)) (λ (e : ℕ × IncomingPacket). e.0) low_number es keeps.numbers);
  totals = rw is (All-map-remove_entry (is_at (nat_cmp k)) (λ (e : ℕ × IncomingPacket). e.1) low_total es keeps.totals);
  counted = (let sum = bytes_removed es fs bytes most k v there is keeps in omega arith);
  whole = subst (λ (xs : Entries). AreWholeUpTo most xs) (sym is) (whole-remove most (is_at (nat_cmp k)) es keeps.whole);
}

pub bytes_popped : (e : ℕ × IncomingPacket) (es : Entries) (bytes most : ℕ) → KeepsPackets (e ∷ es) bytes most → bytes ≡ total_of e.1 + sum_by total_of (values_of es)
bytes_popped e es bytes most keeps = keeps.counted ∙ sum_by-cons total_of e.1 (values_of es)

pub keeps-pop : (e : ℕ × IncomingPacket) (es : Entries) (bytes most : ℕ) → KeepsPackets (e ∷ es) bytes most → KeepsPackets es (bytes - total_of e.1) most
keeps-pop e es bytes most keeps = record {
  sorted = sorted_tail nat_cmp e.0 (keys_of es) keeps.sorted;
  numbers = All-tail low_number e.0 (keys_of es) keeps.numbers;
  totals = All-tail low_total e.1 (values_of es) keeps.totals;
  counted = (let sum = bytes_popped e es bytes most keeps in omega arith);
  whole = All-tail (IsWholeUpTo most) e es keeps.whole;
}

-- a piece that comes leaves the packet's length as it is
pub same_total : (r : Result Unit Refusal) (was now : PartialPacket) (place : Place) (bytes : List ℕ)
    → OnOk r (now ≡ with_piece was place bytes) → OnErr r (now ≡ was) → now.total ≡ was.total
same_total (Ok _) was now place bytes ok err = ap (λ (m : PartialPacket). m.total) ok
same_total (Err _) was now place bytes ok err = ap (λ (m : PartialPacket). m.total) err

pub on_ok : {A E : Type 0} (r : Result A E) (P Q : Type 0) → (P → Q) → OnOk r P → OnOk r Q
on_ok (Ok _) P Q f h = f h
on_ok (Err _) P Q f h = h

pub on_err : {A E : Type 0} (r : Result A E) (P Q : Type 0) → (P → Q) → OnErr r P → OnErr r Q
on_err (Ok _) P Q f h = h
on_err (Err _) P Q f h = f h

-- whether a packet is whole and above a number
abbrev pub is_newer : ℕ → ℕ × IncomingPacket → Bool
is_newer last e = is_whole e.1.making && nat_lt last e.0

-- whether a packet is handed out where those from a number on are
abbrev pub is_fresh : ℕ → ℕ × IncomingPacket → Bool
is_fresh first e = is_whole e.1.making && nat_le first e.0

-- the list from its front
pub last_step : (last : ℕ) (e : ℕ × IncomingPacket) (es : Entries) → last_fresh last (e ∷ es) ≡ last_fresh (cond (is_newer last e) e.0 last) es
last_step last e es = elim (is_newer last e) as (λ b. cond b (last_fresh e.0 es) (last_fresh last es) ≡ last_fresh (cond b e.0 last) es) [ true ↦ refl | false ↦ refl ]

pub items_step : (out : List Dispatched) (first : ℕ) (e : ℕ × IncomingPacket) (es : Entries)
    → out ++ fresh first (e ∷ es) ≡ cond (is_fresh first e) (out ++ handed_out e.1 ∷ []) out ++ fresh first es
items_step out first e es =
    elim (is_fresh first e) as (λ b. out ++ cond b (handed_out e.1 ∷ fresh first es) (fresh first es) ≡ cond b (out ++ handed_out e.1 ∷ []) out ++ fresh first es) [
      | true ↦ sym (append_assoc out (handed_out e.1 ∷ []) (fresh first es))
      | false ↦ refl
    ]

pub count_step : (first : ℕ) (e : ℕ × IncomingPacket) (es : Entries) → length (fresh first (e ∷ es)) ≡ cond (is_fresh first e) 1 0 + length (fresh first es)
count_step first e es =
    elim (is_fresh first e) as (λ b. length (cond b (handed_out e.1 ∷ fresh first es) (fresh first es)) ≡ cond b 1 0 + length (fresh first es)) [
      | true ↦ omega arith
      | false ↦ omega arith
    ]

pub length-fresh : (first : ℕ) (es : Entries) → length (fresh first es) ≤ length es
length-fresh first [] = omega arith
length-fresh first (e ∷ es) =
    let step = count_step first e es in
    let rest = length-fresh first es in
    let one : cond (is_fresh first e) 1 0 ≤ 1 = elim (is_fresh first e) as (λ b. cond b 1 0 ≤ 1) [ true ↦ omega arith | false ↦ omega arith ] in
    let n : length (e ∷ es) ≡ length es + 1 = omega arith in
    omega arith

right : (a b : Bool) → (a && b) ≡ true → b ≡ true
right true b h = h
right false b h = absurd (cc)

newer_is : (e : ℕ × IncomingPacket) (last : ℕ) → is_newer last e ≡ true → last < e.0
newer_is e last t = let r = right (is_whole e.1.making) (nat_lt last e.0) t in grind (arith, nat_tests)

-- the last number only grows
pub last_from : (last : ℕ) (es : Entries) → last ≤ last_fresh last es
last_from last [] = omega arith
last_from last (e ∷ es) =
    elim (is_newer last e) as (λ b. is_newer last e ≡ b → last ≤ cond b (last_fresh e.0 es) (last_fresh last es)) [
      | true ↦ λ t. (let up = newer_is e last t in let more = last_from e.0 es in omega arith)
      | false ↦ λ t. last_from last es
    ] refl

not_newer : (w : Bool) (last k : ℕ) → (w && nat_lt last k) ≡ false → w ≡ true → k ≤ last
not_newer true last k t w = grind (arith, nat_tests)
not_newer false last k t w = absurd (cc)

-- no whole packet has a number above the last one's
pub whole_to_last : (last : ℕ) (es : Entries) → AreWholeUpTo (last_fresh last es) es
whole_to_last last [] = All-nil (IsWholeUpTo last)
whole_to_last last (e ∷ es) =
    elim (is_newer last e) as (λ b. is_newer last e ≡ b → AreWholeUpTo (cond b (last_fresh e.0 es) (last_fresh last es)) (e ∷ es)) [
      | true ↦ λ t. All-cons (IsWholeUpTo (last_fresh e.0 es)) e es (λ w. last_from e.0 es) (whole_to_last e.0 es)
      | false ↦ λ t. All-cons (IsWholeUpTo (last_fresh last es)) e es (λ w. (let low = not_newer (is_whole e.1.making) last e.0 t w in let up = last_from last es in omega arith)) (whole_to_last last es)
    ] refl

-- packets past a number stay
pub past_stay : (until : ℕ) (es : Entries) → All (λ (k : ℕ). until < k) (keys_of es) → where_key nat_cmp (nat_lt until) es ≡ es
past_stay until [] all = refl
past_stay until (e ∷ es) all =
    let high : until < e.0 = All-head (λ (k : ℕ). until < k) e.0 (keys_of es) all in
    let test : nat_lt until e.0 ≡ true = grind (arith, nat_tests) in
    ap (λ b. cond b (e ∷ where_key nat_cmp (nat_lt until) es) (where_key nat_cmp (nat_lt until) es)) test
    ∙ ap (λ (xs : Entries). e ∷ xs) (past_stay until es (All-tail (λ (k : ℕ). until < k) e.0 (keys_of es) all))

-- a packet up to there does not stay
pub goes : (until : ℕ) (e : ℕ × IncomingPacket) (es : Entries) → e.0 ≤ until → where_key nat_cmp (nat_lt until) (e ∷ es) ≡ where_key nat_cmp (nat_lt until) es
goes until e es low =
    let test : nat_lt until e.0 ≡ false = grind (arith, nat_tests) in
    ap (λ b. cond b (e ∷ where_key nat_cmp (nat_lt until) es) (where_key nat_cmp (nat_lt until) es)) test

-- a packet that a piece may have been added to
pub keeps-grown : (r : Result Bool Refusal) (es fs : Entries) (k : ℕ) (v w : IncomingPacket) (place : Place) (body : List ℕ)
    → lookup (is_at (nat_cmp k)) es ≡ Some v → fs ≡ set_value (is_at (nat_cmp k)) es w
    → IfOk r (λ whole. (w ≡ record { flags = v.flags; making = with_piece v.making place body }) × (whole ≡ is_whole w.making)) → OnErr r (w ≡ v)
    → (bytes most : ℕ) → KeepsPackets es bytes most → KeepsPackets fs bytes (most_with r most k)
keeps-grown (Ok whole) es fs k v w place body there is ok err bytes most keeps =
    subst (λ b. KeepsPackets fs bytes (most_if b most k)) (sym ok.1) (keeps-set es fs bytes most k v w there (ap total_of ok.0) is keeps)
keeps-grown (Err why) es fs k v w place body there is ok err bytes most keeps =
    subst (λ (xs : Entries). KeepsPackets xs bytes most) (sym (is ∙ ap (set_value (is_at (nat_cmp k)) es) err ∙ set_value-same (is_at (nat_cmp k)) es v there)) keeps
