-- Slots of the code and as they are shown.
use Rattle.std.proofs.Common.{◌≡◌, ℕ, ◌+◌, ◌<◌, Bool, not, cond, ltb, Option, Some, None, List, length, slice_get, slice_set, get_or, refl, sym, ap, ap₂, ◌∙◌, [], ◌∷◌}
use Rattle.std.proofs.lemmas.List.{map-set, length-map}
use Rattle.std.specs.List.{position, position_or_len}
use Rattle.std.proofs.Math.Seq.{map-set_same}
use Rattle.std.specs.Option.{option_map}
use Rattle.std.proofs.lemmas.Option.{slice_get-map, slice_get_read}
use Rattle.enet_slot.specs.declared.slot.Slot.{Slot}
use Rattle.enet_slot.specs.Slot.{SlotState}
use Rattle.enet_slot.specs.Slotted.{shown, all_shown}

-- slot i as it is shown
pub get-shown : (xs : List Slot) (i : ℕ) (x : Slot) → i < length xs → x ≡ get_or xs i x → slice_get (all_shown xs) i ≡ Some (shown x)
get-shown xs i x inside read =
    slice_get-map shown xs i ∙ ap (λ (o : Option Slot). option_map shown o) (slice_get_read xs (length xs) i x refl inside read)

pub set-shown : (xs : List Slot) (i : ℕ) (y : Slot) → all_shown (slice_set xs i y) ≡ slice_set (all_shown xs) i (shown y)
set-shown xs i y = map-set shown xs i y

-- a slot that is shown as before leaves all as they were
pub same-shown : (xs : List Slot) (i : ℕ) (x y : Slot) → x ≡ get_or xs i x → shown y ≡ shown x → all_shown (slice_set xs i y) ≡ all_shown xs
same-shown xs i x y read same = map-set_same shown xs i y x (same ∙ ap shown read)

pub length-shown : (xs : List Slot) → length (all_shown xs) ≡ length xs
length-shown xs = length-map xs shown

-- the first slot that passes a test
place-shown : (p : SlotState → Bool) (xs : List Slot) → position_or_len (λ (x : Slot). p (shown x)) xs ≡ position_or_len p (all_shown xs)
place-shown p [] = refl
place-shown p (x ∷ xs) = ap (λ (n : ℕ). cond (not (p (shown x))) (1 + n) 0) (place-shown p xs)

pub position-shown : (p : SlotState → Bool) (xs : List Slot) → position (λ (x : Slot). p (shown x)) xs ≡ position p (all_shown xs)
position-shown p xs = ap₂ (λ (n len : ℕ). cond (ltb n len) (Some n) None) (place-shown p xs) (sym (length-shown xs))
