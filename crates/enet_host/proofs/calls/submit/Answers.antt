use Rattle.std.proofs.Common.{◌<◌, IsTrue, is_some, List, length, subst}
use Rattle.enet_sender.specs.CommandChoice.{Packet}
use Rattle.enet_peer.specs.Calls.{handed_back}
use Rattle.enet_slot.specs.declared.slot.Slot.{Slot}
use Rattle.enet_host.specs.Host.{slot_named}
use Rattle.enet_slot.specs.Slotted.{all_shown}
use Rattle.enet_host.proofs.Slots.{submits-named}
use Rattle.enet_host.proofs.calls.submit.Goals as goal

pub returns-clause-does : goal.returns-clause-does
returns-clause-does c =
    let packet : Packet = record { flags = c.args.flags; body = c.args.body.now } in
    submits-named c.args.slots.now.items c.args.name packet _ c.in-Some.place c.index_mut.result.now c.submit.new.self (handed_back c.submit.result c.submit.new.body) c.in-Some.ensures.place.0
    (subst (λ (xs : List Slot). c.in-Some.place < length xs) c.deref.ensures.value c.in-Some.ensures.place.1) c.index_mut.ensures.value
    (subst (λ (xs : List Slot). IsTrue (is_some (slot_named (all_shown xs) c.args.name))) c.deref.ensures.value c.in-Some.ensures.found) c.submit.ensures.submits
