-- Which peers of an address there are, and which of them has been there longest.
use Rattle.std.proofs.Common.{◌≡◌, ◌<◌, ℕ, ◌+◌, max, Bool, cond, Option, Some, None, IfSome, List, [], ◌∷◌, ◌++◌, length, take, get_or, sym, ap, ◌∙◌, arith}
use Rattle.std.proofs.lemmas.List.{map-append, take_more}
use Rattle.std.proofs.lemmas.List.Quantifiers.{position-Some}
use Rattle.std.specs.List.{position}
use Rattle.enet_slot.specs.declared.slot.Slot.{Slot}
use Rattle.enet_slot.specs.Giving.{unused_slot}
use Rattle.enet_slot.specs.Slot.{SlotState}
use Rattle.enet_slot.specs.Slotted.{shown, all_shown}
use Rattle.enet_slot.specs.Yielding.{age, longest_of}

longest-append : (waits : SlotState → Bool) (now : ℕ) (xs : List SlotState) (s : SlotState) → longest_of waits now (xs ++ s ∷ []) ≡ max (longest_of waits now xs) (cond (waits s) (age now s) 0)
longest-append waits now [] s = turned (cond (waits s) (age now s) 0)
  where
    turned : (n : ℕ) → max n 0 ≡ max 0 n
    turned n = omega arith
longest-append waits now (x ∷ xs) s =
    ap (λ (n : ℕ). max (cond (waits x) (age now x) 0) n) (longest-append waits now xs s) ∙ grouped (cond (waits x) (age now x) 0) (longest_of waits now xs) (cond (waits s) (age now s) 0)
  where
    grouped : (a b c : ℕ) → max a (max b c) ≡ max (max a b) c
    grouped a b c = omega arith

-- the longest so far, one slot further
pub longest-more : (waits : SlotState → Bool) (now : ℕ) (xs : List Slot) (i : ℕ) (x : Slot) → i < length xs → x ≡ get_or xs i x
    → longest_of waits now (all_shown (take (i + 1) xs)) ≡ max (longest_of waits now (all_shown (take i xs))) (cond (waits (shown x)) (age now (shown x)) 0)
longest-more waits now xs i x inside read =
    let more : take (i + 1) xs ≡ take i xs ++ x ∷ [] = take_more xs i x inside ∙ ap (λ (y : Slot). take i xs ++ y ∷ []) (sym read) in
    let mapped : all_shown (take (i + 1) xs) ≡ all_shown (take i xs) ++ shown x ∷ [] = ap all_shown more ∙ map-append shown (take i xs) (x ∷ []) in
    ap (λ (ss : List SlotState). longest_of waits now ss) mapped ∙ longest-append waits now (all_shown (take i xs)) (shown x)

-- a place that was found is one of the list
pub found-within : (p : SlotState → Bool) (xs : List SlotState) (r : Option ℕ) → r ≡ position p xs → IfSome r (λ i. i < length xs)
found-within p xs None is = tt
found-within p xs (Some i) is = (let found = position-Some p xs i unused_slot (sym is) in found.0)
