-- Time goes on slot by slot, where each slot's peer may have sent too little for another answer.
use Rattle.std.proofs.Common.{◌≡◌, ℕ, zero, suc, ◌+◌, ◌<◌, ◌≤◌, Bool, Some, List, [], ◌∷◌, ◌++◌, length, take, drop, slice_get, slice_set, get_or, add-one, arith, refl, sym, ap, ap₂, subst, ◌∙◌}
use Rattle.std.proofs.lemmas.List.{get_or-map, take_all, drop_all, append-nil}
use Rattle.enet_peer.specs.Peering.{Peering}
use Rattle.enet_peer.specs.Calls as peers
use Rattle.enet_slot.specs.declared.slot.Slot.{Slot}
use Rattle.enet_slot.specs.Slot.{SlotState, changed}
use Rattle.enet_slot.specs.Slotted.{shown, all_shown}
use Rattle.enet_slot.proofs.Shown.{length-shown, set-shown}
use Rattle.enet_host.specs.Ticking.{all_moved}

-- what a moment makes of a slot
abbrev pub slot_moved : ℕ → Bool → SlotState → SlotState
slot_moved now short s = changed (λ (p : Peering). peers.moved short p now) s

pub length-moved : (now : ℕ) (short : ℕ → Bool) (slots : List SlotState) → length (all_moved now short slots) ≡ length slots
length-moved now short [] = refl
length-moved now short (s ∷ slots) = ap suc (length-moved now (λ i. short (suc i)) slots)

pub get-moved : (now : ℕ) (short : ℕ → Bool) (slots : List SlotState) (i : ℕ) (s : SlotState) → slice_get slots i ≡ Some s → slice_get (all_moved now short slots) i ≡ Some (slot_moved now (short i) s)
get-moved now short [] i s there = absurd (cc)
get-moved now short (x ∷ slots) zero s there = let same : x ≡ s = cc in ap (λ (y : SlotState). Some (slot_moved now (short 0) y)) same
get-moved now short (x ∷ slots) (suc i) s there = get-moved now (λ j. short (suc j)) slots i s there

-- the same, of a slot that is read
pub read-moved : (now : ℕ) (short : ℕ → Bool) (slots : List SlotState) (i : ℕ) (d e : SlotState) → i < length slots → get_or (all_moved now short slots) i d ≡ slot_moved now (short i) (get_or slots i e)
read-moved now short [] i d e inside = absurd (omega (arith, inside))
read-moved now short (x ∷ slots) zero d e inside = refl
read-moved now short (x ∷ slots) (suc i) d e inside = read-moved now (λ j. short (suc j)) slots i d e (omega (arith, inside))

-- what is true of each slot as it was left is true of all
pub each-moved : (P : SlotState → Type 0) (now : ℕ) (short : ℕ → Bool) (slots : List SlotState) → ((i : ℕ) (s : SlotState) → slice_get slots i ≡ Some s → P (slot_moved now (short i) s))
    → (i : ℕ) (t : SlotState) → slice_get (all_moved now short slots) i ≡ Some t → P t
each-moved P now short [] each i t there = absurd (cc)
each-moved P now short (x ∷ slots) each zero t there = let same : slot_moved now (short 0) x ≡ t = cc in subst P same (each 0 x refl)
each-moved P now short (x ∷ slots) each (suc i) t there = each-moved P now (λ j. short (suc j)) slots (λ j s at. each (suc j) s at) i t there

-- those of these places are left as they are
pub moved-still : (now : ℕ) (short : ℕ → Bool) (xs : List SlotState) (k m : ℕ) → k ≤ m → ((i : ℕ) (x : SlotState) → slice_get xs i ≡ Some x → k ≤ i → i < m → slot_moved now (short i) x ≡ x)
    → all_moved now short (take k xs) ++ drop k xs ≡ all_moved now short (take m xs) ++ drop m xs
moved-still now short [] zero zero le still = refl
moved-still now short [] zero (suc m) le still = refl
moved-still now short [] (suc k) zero le still = refl
moved-still now short [] (suc k) (suc m) le still = refl
moved-still now short (x ∷ xs) zero zero le still = refl
moved-still now short (x ∷ xs) zero (suc m) le still =
    ap₂ (λ (y : SlotState) (ys : List SlotState). y ∷ ys) (sym (still 0 x refl (omega arith) (omega arith)))
    (moved-still now (λ j. short (suc j)) xs zero m (omega arith) (λ i y there past less. still (suc i) y there (omega arith) (omega (arith, less))))
moved-still now short (x ∷ xs) (suc k) zero le still = absurd (omega (arith, le))
moved-still now short (x ∷ xs) (suc k) (suc m) le still =
    ap (λ (ys : List SlotState). slot_moved now (short 0) x ∷ ys)
    (moved-still now (λ j. short (suc j)) xs k m (omega (arith, le)) (λ i y there past less. still (suc i) y there (omega (arith, past)) (omega (arith, less))))

-- time goes on at one slot more
read-half : (now : ℕ) (short : ℕ → Bool) (all : List SlotState) (i : ℕ) (d : SlotState) → i < length all → get_or (all_moved now short (take i all) ++ drop i all) i d ≡ get_or all i d
read-half now short [] i d inside = absurd (omega (arith, inside))
read-half now short (x ∷ all) zero d inside = refl
read-half now short (x ∷ all) (suc i) d inside = read-half now (λ j. short (suc j)) all i d (omega (arith, inside))

set-half : (now : ℕ) (short : ℕ → Bool) (all : List SlotState) (i : ℕ) (d : SlotState) → i < length all
    → slice_set (all_moved now short (take i all) ++ drop i all) i (slot_moved now (short i) (get_or all i d)) ≡ all_moved now short (take (suc i) all) ++ drop (suc i) all
set-half now short [] i d inside = absurd (omega (arith, inside))
set-half now short (x ∷ all) zero d inside = refl
set-half now short (x ∷ all) (suc i) d inside =
    ap (λ (ys : List SlotState). slot_moved now (short 0) x ∷ ys) (set-half now (λ j. short (suc j)) all i d (omega (arith, inside)))

pub moved-more : (now : ℕ) (short : ℕ → Bool) (all xs : List Slot) (i : ℕ) (x y : Slot) → i < length all → i < length xs
    → all_shown xs ≡ all_moved now short (take i (all_shown all)) ++ drop i (all_shown all) → x ≡ get_or xs i x → shown y ≡ slot_moved now (short i) (shown x)
    → all_shown (slice_set xs i y) ≡ all_moved now short (take (i + 1) (all_shown all)) ++ drop (i + 1) (all_shown all)
moved-more now short all xs i x y inside within so_far read left =
    let count = length-shown all in
    let low : i < length (all_shown all) = omega (arith, inside, count) in
    let is : shown x ≡ get_or (all_shown all) i (shown x) =
    ap shown read ∙ sym (get_or-map shown xs i x (shown x) within) ∙ ap (λ (ss : List SlotState). get_or ss i (shown x)) so_far ∙ read-half now short (all_shown all) i (shown x) low in
    let half : List SlotState = all_moved now short (take i (all_shown all)) ++ drop i (all_shown all) in
    set-shown xs i y
    ∙ ap₂ (λ (ss : List SlotState) (t : SlotState). slice_set ss i t) so_far (left ∙ ap (slot_moved now (short i)) is)
    ∙ set-half now short (all_shown all) i (shown x) low
    ∙ ap (λ (n : ℕ). all_moved now short (take n (all_shown all)) ++ drop n (all_shown all)) (sym (add-one i))

pub moved-done : (now : ℕ) (short : ℕ → Bool) (all xs : List Slot) (i : ℕ) → length all ≤ i → all_shown xs ≡ all_moved now short (take i (all_shown all)) ++ drop i (all_shown all)
    → all_shown xs ≡ all_moved now short (all_shown all)
moved-done now short all xs i past so_far =
    let count = length-shown all in
    let over : length (all_shown all) ≤ i = omega arith in
    so_far
    ∙ ap₂ (λ (front back : List SlotState). all_moved now short front ++ back) (take_all i (all_shown all) over) (drop_all i (all_shown all) over)
    ∙ append-nil (all_moved now short (all_shown all))
