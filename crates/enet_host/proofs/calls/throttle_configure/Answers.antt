use Rattle.std.proofs.Common.{◌<◌, IsTrue, is_some, List, length, subst}
use Rattle.enet_slot.specs.declared.slot.Slot.{Slot}
use Rattle.enet_host.specs.Host.{slot_named}
use Rattle.enet_slot.specs.Slotted.{all_shown}
use Rattle.enet_host.proofs.Slots.{does-named-with-memory, wanted-named}
use Rattle.enet_host.proofs.calls.throttle_configure.Goals as goal

pub returns-clause-does : goal.returns-clause-does
returns-clause-does c =
    does-named-with-memory c.args.slots.now.items c.args.name _ c.in-Some.place c.index_mut.result.now c.throttle_configure.new.self c.throttle_configure.result c.in-Some.ensures.place.0
    (subst (λ (xs : List Slot). c.in-Some.place < length xs) c.deref.ensures.value c.in-Some.ensures.place.1) c.index_mut.ensures.value
    (subst (λ (xs : List Slot). IsTrue (is_some (slot_named (all_shown xs) c.args.name))) c.deref.ensures.value c.in-Some.ensures.found) c.throttle_configure.ensures.does

pub returns-clause-wanted : goal.returns-clause-wanted
returns-clause-wanted c =
    wanted-named c.args.slots.now.items c.args.name c.in-Some.place c.index_mut.result.now c.throttle_configure.result c.in-Some.ensures.place.0
    (subst (λ (xs : List Slot). c.in-Some.place < length xs) c.deref.ensures.value c.in-Some.ensures.place.1) c.index_mut.ensures.value
    (subst (λ (xs : List Slot). IsTrue (is_some (slot_named (all_shown xs) c.args.name))) c.deref.ensures.value c.in-Some.ensures.found) c.throttle_configure.ensures.wanted
