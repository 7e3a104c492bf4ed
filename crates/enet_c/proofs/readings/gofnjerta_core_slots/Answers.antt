use Rattle.std.proofs.Common.{Option, IfSome, sym, subst}
use Rattle.enet_slot.specs.declared.counting.SlotCounts.{SlotCounts}
use Rattle.enet_slot.specs.Counting.{Counts}
use Rattle.enet_c.specs.declared.held.Held.{Held}
use Rattle.enet_c.specs.Shapes.{slots_meant}
use Rattle.enet_c.proofs.readings.gofnjerta_core_slots.Goals as goal

pub returns-clause-counts : goal.returns-clause-counts
returns-clause-counts c =
    let told : Counts c.in-Some.held.value.host.config.generations c.in-Some.held.value.host.slots (slots_meant c.of.result) =
    subst (λ (n : SlotCounts). Counts c.in-Some.held.value.host.config.generations c.in-Some.held.value.host.slots n) (sym c.of.ensures)
    (subst (λ (h : Held). Counts h.host.config.generations h.host.slots c.slot_counts-found.result) c.deref.ensures c.slot_counts-found.ensures) in
    subst (λ (o : Option Held). IfSome o (λ held. Counts held.host.config.generations held.host.slots (slots_meant c.of.result))) (sym c.in-Some.ensures.held) told
