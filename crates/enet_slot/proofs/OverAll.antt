-- What goes over all slots.
use Rattle.std.proofs.Common.{◌≡◌, ℕ, ◌<◌, Bool, true, false, if◌then◌else◌, Result, Ok, Err, OnErr, List, length, map, slice_set, get_or, refl, sym, ap, ap₂, subst, ◌∙◌, ◌+◌, ◌≤◌, nat_lt, [], ◌∷◌, ◌++◌, take, drop, arith, All, zero-add}
use Rattle.std.proofs.lemmas.Grind.{get_or-set_at}
use Rattle.std.proofs.lemmas.Bool.Decides.{nat_tests}
use Rattle.std.proofs.lemmas.List.{get_or-set_other, get_or_default, get_or-map, take_all, drop_all, append-nil, take_more, map-append}
use Rattle.std.proofs.lemmas.List.Edits.{map_over_more}
use Rattle.std.proofs.lemmas.List.Sums.{sum_by-append}
use Rattle.std.proofs.lemmas.List.Folds.{list_any_at}
use Rattle.std.specs.List.{count_by, list_any}
use Rattle.std.specs.Int.{from_bool}
use Rattle.enet_slot.specs.declared.slot.Slot.{Slot}
use Rattle.enet_slot.specs.Slot.{SlotState}
use Rattle.enet_slot.specs.Slotted.{shown, all_shown}
use Rattle.enet_slot.specs.Private.Slotted.{HasRoom}
use Rattle.enet_slot.proofs.Shown.{set-shown, length-shown}

-- a change that goes over the slots one by one
pub map-more : (f : SlotState → SlotState) (all xs : List Slot) (i : ℕ) (x y : Slot) → i < length all → i < length xs
    → all_shown xs ≡ map f (take i (all_shown all)) ++ drop i (all_shown all) → x ≡ get_or xs i x → shown y ≡ f (shown x)
    → all_shown (slice_set xs i y) ≡ map f (take (i + 1) (all_shown all)) ++ drop (i + 1) (all_shown all)
map-more f all xs i x y inside within so_far read changed =
    let count = length-shown all in
    let there : shown x ≡ get_or (all_shown xs) i (shown x) = ap shown read ∙ sym (get_or-map shown xs i x (shown x) within) in
    set-shown xs i y ∙ ap (λ (s : SlotState). slice_set (all_shown xs) i s) changed ∙ map_over_more f (all_shown all) (all_shown xs) i (shown x) (omega arith) so_far there

pub map-done : (f : SlotState → SlotState) (all xs : List Slot) (i : ℕ) → length all ≤ i → all_shown xs ≡ map f (take i (all_shown all)) ++ drop i (all_shown all) → all_shown xs ≡ map f (all_shown all)
map-done f all xs i past so_far =
    let count = length-shown all in
    let over : length (all_shown all) ≤ i = omega arith in
    so_far ∙ ap₂ (λ (front back : List SlotState). map f front ++ back) (take_all i (all_shown all) over) (drop_all i (all_shown all) over) ∙ append-nil (map f (all_shown all))

count-one : (p : SlotState → Bool) (s : SlotState) → count_by p (s ∷ []) ≡ (if p s then 1 else 0)
count-one p s = zero-add (if p s then 1 else 0)

pub count-more : (p : SlotState → Bool) (xs : List Slot) (i : ℕ) (x : Slot) → i < length xs → x ≡ get_or xs i x
    → count_by p (all_shown (take (i + 1) xs)) ≡ count_by p (all_shown (take i xs)) + (if p (shown x) then 1 else 0)
count-more p xs i x inside read =
    let more : take (i + 1) xs ≡ take i xs ++ x ∷ [] = take_more xs i x inside ∙ ap (λ (y : Slot). take i xs ++ y ∷ []) (sym read) in
    let mapped : all_shown (take (i + 1) xs) ≡ all_shown (take i xs) ++ shown x ∷ [] = ap all_shown more ∙ map-append shown (take i xs) (x ∷ []) in
    ap (λ (ss : List SlotState). count_by p ss) mapped
    ∙ sum_by-append (λ (s : SlotState). if p s then 1 else 0) (all_shown (take i xs)) (shown x ∷ [])
    ∙ ap (λ (n : ℕ). count_by p (all_shown (take i xs)) + n) (count-one p (shown x))

-- each slot has room, one more each time
room-case : (xs : List Slot) (i : ℕ) (y : Slot) → i < length xs → ((k : ℕ) (x : Slot) → k < i → x ≡ get_or xs k x → HasRoom x) → HasRoom y
    → (k : ℕ) (x : Slot) → k < i + 1 → x ≡ get_or (slice_set xs i y) k x → (b : Bool) → nat_lt k i ≡ b → HasRoom x
room-case xs i y inside rooms room k x below read true e =
    let less : k < i = grind (arith, nat_tests, e) in
    rooms k x less (read ∙ get_or-set_other xs i k y x (omega arith))
room-case xs i y inside rooms room k x below read false e =
    let same : k ≡ i = grind (arith, nat_tests, e) in
    subst HasRoom (sym (read ∙ get_or-set_at xs i k y x same inside)) room

pub room-more : (xs : List Slot) (i : ℕ) (y : Slot) → i < length xs → ((k : ℕ) (x : Slot) → k < i → x ≡ get_or xs k x → HasRoom x) → HasRoom y
    → (k : ℕ) (x : Slot) → k < i + 1 → x ≡ get_or (slice_set xs i y) k x → HasRoom x
room-more xs i y inside rooms room k x below read = room-case xs i y inside rooms room k x below read (nat_lt k i) refl

pub all-room : (xs : List Slot) (i : ℕ) → length xs ≤ i → ((k : ℕ) (x : Slot) → k < i → x ≡ get_or xs k x → HasRoom x) → All HasRoom xs
all-room xs i past rooms = λ k d inside. rooms k (get_or xs k d) (omega arith) (get_or_default xs k d (get_or xs k d) inside)

-- a slot that is as it was at first has room
pub still-room : (all xs : List Slot) (i : ℕ) (x : Slot) → All HasRoom all → i < length all → x ≡ get_or xs i x → get_or xs i x ≡ get_or all i x → HasRoom x
still-room all xs i x rooms inside read same = subst HasRoom (sym (read ∙ same)) (rooms i x inside)

pub later-more : (all xs : List Slot) (i : ℕ) (y : Slot) → ((k : ℕ) (x : Slot) → i ≤ k → get_or xs k x ≡ get_or all k x)
    → (k : ℕ) (x : Slot) → i + 1 ≤ k → get_or (slice_set xs i y) k x ≡ get_or all k x
later-more all xs i y later k x past = get_or-set_other xs i k y x (omega arith) ∙ later k x (omega arith)

-- a slot that passes a test is one of those that do
pub one-among : (p : SlotState → Bool) {T E : Type 0} (r : Result T E) (all xs : List Slot) (i : ℕ) (x : Slot) → i < length xs → x ≡ get_or xs i x → all_shown xs ≡ all_shown all
    → p (shown x) ≡ true → OnErr r (list_any p (all_shown all) ≡ true)
one-among p (Ok done) all xs i x inside read same passes = tt
one-among p (Err why) all xs i x inside read same passes =
    let count = length-shown xs in
    let there : get_or (all_shown xs) i (shown x) ≡ shown x = get_or-map shown xs i x (shown x) inside ∙ sym (ap shown read) in
    ap (λ (ss : List SlotState). list_any p ss) (sym same)
    ∙ list_any_at p (all_shown xs) i (shown x) (omega arith) (ap p there ∙ passes)

-- a count goes on by one slot
pub one-if : (b : Bool) → from_bool b ≡ (if b then 1 else 0)
one-if true = refl
one-if false = refl

pub at-most-one : (b : Bool) → (if b then 1 else 0) ≤ 1
at-most-one true = omega arith
at-most-one false = omega arith
