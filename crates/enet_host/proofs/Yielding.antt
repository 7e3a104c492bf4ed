-- Whatever a call does, each slot of a host that yields is noted.
use Rattle.std.proofs.Common.{◌≡◌, ℕ, ◌<◌, Option, Some, None, List, length, slice_set, sym, ap, subst, ◌∙◌, arith}
use Rattle.enet_codec.specs.declared.address.Addr.{Addr}
use Rattle.enet_codec.specs.declared.command.Offer.{Offer}
use Rattle.enet_peer.specs.Peering.{Peering}
use Rattle.enet_slot.specs.declared.slot.Slot.{Slot}
use Rattle.enet_slot.specs.Slot.{SlotState}
use Rattle.enet_slot.specs.Giving.{Basis, answering}
use Rattle.enet_slot.specs.Slotted.{shown, all_shown}
use Rattle.enet_slot.specs.Yielding.{readied}
use Rattle.enet_slot.proofs.Shown.{length-shown, set-shown}
use Rattle.enet_sleepers.specs.Unproved.{KeepsUnproved, Waiting, noted}
use Rattle.enet_sleepers.proofs.Waited.{noted-kept}

-- a slot was given to a peer that answers an offer
pub unproved-noted : (basis : Basis) (xs : List Slot) (from : Addr) (o : Offer) (i : ℕ) (x y : Slot) (v w : Waiting) → i < length xs → shown y ≡ answering basis i (readied (shown x)) from o → w ≡ noted v i
    → KeepsUnproved basis.clock basis.config.generations v (all_shown xs) → KeepsUnproved basis.clock basis.config.generations w (all_shown (slice_set xs i y))
unproved-noted basis xs from o i x y v w inside answered is k =
    subst (λ (u : Waiting). KeepsUnproved basis.clock basis.config.generations u (all_shown (slice_set xs i y))) (sym is)
    (subst (KeepsUnproved basis.clock basis.config.generations (noted v i)) (sym (set-shown xs i y))
    (noted-kept basis.clock basis.config.generations v (all_shown xs) i (shown y) k (let n = length-shown xs in omega (arith, inside, n)) made))
  where
    made : (p : Peering) → (shown y).peer ≡ Some p → p.made ≡ basis.clock
    made p held =
        let e : (answering basis i (readied (shown x)) from o).peer ≡ Some p = ap (λ (s : SlotState). s.peer) (sym answered) ∙ held in
        (let same : (answering basis i (readied (shown x)) from o).peer ≡ Some p = e in ap made_of (sym same))
      where
        made_of : Option Peering → ℕ
        made_of None = basis.clock
        made_of (Some q) = q.made
