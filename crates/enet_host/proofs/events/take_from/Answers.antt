use Rattle.std.proofs.Common.{arith}
use Rattle.enet_host.proofs.Serving.{slot-gives-event, slot-is-mute}
use Rattle.enet_host.proofs.events.take_from.Goals as goal

pub returns-clause-gives : goal.returns-clause-gives
returns-clause-gives c =
    slot-gives-event c.args.slots.now.items c.from.result c.args.number c.index_mut-slot.result.now c.take.new.self c.take.result c.from.ensures
    (let e = c.from.ensures in let within = c.requires in grind (arith, e, within)) c.index_mut-slot.ensures.value c.take.ensures.gives

pub returns-clause-none : goal.returns-clause-none
returns-clause-none c =
    slot-is-mute c.args.slots.now.items c.from.result c.args.number c.index_mut-slot.result.now c.take.new.self c.take.result c.from.ensures
    (let e = c.from.ensures in let within = c.requires in grind (arith, e, within)) c.index_mut-slot.ensures.value c.take.ensures.none
