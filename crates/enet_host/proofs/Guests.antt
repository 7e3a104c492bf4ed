-- Who a host's next guest is: that of the slot that the offer of an address would get, as it would be readied.
use Rattle.std.proofs.Common.{◌≡◌, ℕ, Option, Some, None, List, slice_get, sym, ap, ◌∙◌}
use Rattle.std.specs.Option.{option_map, option_and_then}
use Rattle.enet_codec.specs.declared.address.Addr.{Addr}
use Rattle.enet_slot.specs.Giving.{Basis}
use Rattle.enet_slot.specs.Slot.{SlotState, name_of}
use Rattle.enet_slot.specs.Yielding.{readied}
use Rattle.enet_host.specs.Foretelling.{guest_name}
use Rattle.enet_host.specs.Opening.{seat}

seat-then : (basis : Basis) (from : Addr) (slots : List SlotState) (found : Option ℕ) → found ≡ seat basis from slots
    → option_and_then (λ (i : ℕ). option_map (λ (s : SlotState). name_of i (readied s)) (slice_get slots i)) found ≡ guest_name basis from slots
seat-then basis from slots found is = ap (λ (o : Option ℕ). option_and_then (λ (i : ℕ). option_map (λ (s : SlotState). name_of i (readied s)) (slice_get slots i)) o) is

-- where there is no such slot, there is no guest
pub guest-nowhere : (basis : Basis) (from : Addr) (slots : List SlotState) → None ≡ seat basis from slots → None ≡ guest_name basis from slots
guest-nowhere basis from slots is = seat-then basis from slots None is

pub guest-at : (basis : Basis) (from : Addr) (slots : List SlotState) (i generation : ℕ) (s : SlotState) → Some i ≡ seat basis from slots → slice_get slots i ≡ Some s → generation ≡ (readied s).generation
    → Some (record { slot = i; generation = generation }) ≡ guest_name basis from slots
guest-at basis from slots i generation s is there next =
    ap (λ (n : ℕ). Some (record { slot = i; generation = n })) next
    ∙ sym (ap (λ (o : Option SlotState). option_map (λ (z : SlotState). name_of i (readied z)) o) there)
    ∙ seat-then basis from slots (Some i) is
