use Rattle.std.proofs.Common.{List, sym, subst, arith}
use Rattle.enet_slot.specs.Giving.{basis_of}
use Rattle.enet_slot.specs.Slotted.{all_shown}
use Rattle.enet_host.specs.Opening.{no_channel, no_slot}
use Rattle.enet_slot.proofs.Shown.{length-shown}
use Rattle.enet_host.proofs.Offering.{found-in, connects-at}
use Rattle.enet_host.proofs.Seated.{seats-asked}
use Rattle.enet_sleepers.specs.Sleeping.{KeepsSleepers}
use Rattle.enet_slot.specs.declared.slot.Slot.{Slot}
use Rattle.enet_host.proofs.Sleeping.{keeps-woken-at}
use Rattle.enet_host.proofs.connecting.connect.Goals as goal

pub returns-then-question-eq0-clause-connects : goal.returns-then-question-eq0-clause-connects
returns-then-question-eq0-clause-connects c = no_channel c.if-question-eq0.true

pub returns-in_default-clause-connects : goal.returns-in_default-clause-connects
returns-in_default-clause-connects c =
    no_slot c.if-question-eq0.false (found-in c.args.start.now.config c.args.slots.now.items c.deref.result.now _ _ c.first_available.ensures.first c.deref.ensures.value c.in_default.is)

pub returns-clause-connects : goal.returns-clause-connects
returns-clause-connects c =
    connects-at (basis_of c.args.start.now) c.args.slots.now.items c.args.question c.in-Some.place
    c.index_mut-slot.result.now c.ask.new.self c.ask.result c.if-question-eq0.false
    (found-in c.args.start.now.config c.args.slots.now.items c.deref.result.now _ _ c.first_available.ensures.first c.deref.ensures.value c.in-Some.is)
    (let within = c.in-Some.ensures.within in let len = c.deref.ensures.len in grind (arith, within, len)) c.index_mut-slot.ensures.value c.ask.ensures.asks c.ask.ensures.named c.ask.ensures.unchanged c.ask.ensures.memory

pub returns-clause-sleepers : goal.returns-clause-sleepers
returns-clause-sleepers c =
    keeps-woken-at c.args.start.now.clock c.in-Some.place c.args.sleepers.now c.wake.new.self c.args.slots.now.items c.ask.new.self c.requires.sleepers c.wake.ensures.kept c.wake.ensures.awake

pub first_available-requires : goal.first_available-requires
first_available-requires c = (c.args.start.now.clock, subst (λ (xs : List Slot). KeepsSleepers c.args.start.now.clock c.args.sleepers.now (all_shown xs)) (sym c.deref.ensures.value) c.requires.sleepers)

pub enter-requires : goal.enter-requires
enter-requires c = (let within = c.in-Some.ensures.within in let len = c.deref.ensures.len in let count = c.requires.seats.count in let all = length-shown c.args.slots.now.items in grind (arith, within, len, count, all))

pub returns-clause-seats : goal.returns-clause-seats
returns-clause-seats c =
    seats-asked (basis_of c.args.start.now) c.args.slots.now.items c.args.question c.in-Some.place c.index_mut-slot.result.now c.ask.new.self c.ask.result c.args.seats.now c.enter.new.self
    (found-in c.args.start.now.config c.args.slots.now.items c.deref.result.now _ _ c.first_available.ensures.first c.deref.ensures.value c.in-Some.is)
    (let within = c.in-Some.ensures.within in let len = c.deref.ensures.len in grind (arith, within, len)) c.index_mut-slot.ensures.value c.ask.ensures.asks c.ask.ensures.unchanged c.enter.ensures c.requires.seats
