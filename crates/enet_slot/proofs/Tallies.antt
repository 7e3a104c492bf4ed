-- What is counted of slots, one after another.
use Rattle.std.proofs.Common.{◌≡◌, ℕ, ◌+◌, ◌<◌, List, [], ◌∷◌, ◌++◌, length, get_or, take, sym, ap, ◌∙◌, zero-add}
use Rattle.std.specs.List.{sum_by}
use Rattle.std.proofs.lemmas.List.{take_more, map-append}
use Rattle.std.proofs.lemmas.List.Sums.{sum_by-append}
use Rattle.enet_slot.specs.declared.slot.Slot.{Slot}
use Rattle.enet_slot.specs.Slot.{SlotState}
use Rattle.enet_slot.specs.Slotted.{shown, all_shown}

pub sum-shown-more : (g : SlotState → ℕ) (xs : List Slot) (i : ℕ) (x : Slot) → i < length xs → x ≡ get_or xs i x
    → sum_by g (all_shown (take (i + 1) xs)) ≡ sum_by g (all_shown (take i xs)) + g (shown x)
sum-shown-more g xs i x inside read =
    let more : take (i + 1) xs ≡ take i xs ++ x ∷ [] = take_more xs i x inside ∙ ap (λ (y : Slot). take i xs ++ y ∷ []) (sym read) in
    let mapped : all_shown (take (i + 1) xs) ≡ all_shown (take i xs) ++ shown x ∷ [] = ap all_shown more ∙ map-append shown (take i xs) (x ∷ []) in
    let one : sum_by g (shown x ∷ []) ≡ g (shown x) = zero-add (g (shown x)) in
    ap (λ (ss : List SlotState). sum_by g ss) mapped
    ∙ sum_by-append g (all_shown (take i xs)) (shown x ∷ [])
    ∙ ap (λ (n : ℕ). sum_by g (all_shown (take i xs)) + n) one
