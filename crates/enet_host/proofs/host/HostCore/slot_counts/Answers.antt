use Rattle.std.proofs.Common.{subst, List}
use Rattle.enet_slot.specs.declared.slot.Slot.{Slot}
use Rattle.enet_slot.specs.Counting.{Counts}
use Rattle.enet_slot.specs.Slotted.{all_shown}
use Rattle.enet_host.specs.Host.{Host}
use Rattle.enet_host.proofs.host.HostCore.slot_counts.Goals as goal

pub returns : goal.returns
returns c =
    subst (λ (h : Host). Counts h.config.generations h.slots c.count_slots.result) c.self.view_is
    (subst (λ (xs : List Slot). Counts c.self.inside.start.config.generations (all_shown xs) c.count_slots.result) c.deref.ensures.value c.count_slots.ensures)
