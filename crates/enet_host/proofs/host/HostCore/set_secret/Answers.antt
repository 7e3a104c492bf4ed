use Rattle.std.proofs.Common.{List, sym, subst}
use Rattle.enet_slot.specs.declared.slot.Slot.{Slot}
use Rattle.enet_slot.specs.Slotted.{all_shown}
use Rattle.enet_sleepers.specs.Seating.{KeepsSeats}
use Rattle.enet_host.proofs.Holding.{keeps-seating}
use Rattle.enet_host.proofs.host.HostCore.set_secret.Goals as goal

pub rekey-requires : goal.rekey-requires
rekey-requires c = subst (λ (xs : List Slot). KeepsSeats c.self.inside.seats (all_shown xs)) (sym c.deref.ensures.value) c.self.invariant.seated

pub invariant_of-self : goal.invariant_of-self
invariant_of-self c = keeps-seating c.self.invariant (subst (λ (xs : List Slot). KeepsSeats c.rekey.new.self (all_shown xs)) c.deref.ensures.value c.rekey.ensures)
