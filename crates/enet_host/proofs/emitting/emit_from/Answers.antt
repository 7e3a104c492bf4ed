use Rattle.std.proofs.Common.{arith, refl}
use Rattle.enet_host.specs.Serving.{served_of}
use Rattle.enet_host.proofs.Serving.{slot-passes, slot-gives}
use Rattle.enet_host.proofs.emitting.emit_from.Goals as goal

pub returns-in_default-clause-passes : goal.returns-in_default-clause-passes
returns-in_default-clause-passes c =
    slot-passes c.args.now c.args.slots.now.items c.from.result c.args.number c.index_mut-slot.result.now c.emit.new.self c.from.ensures
    (let e = c.from.ensures in let within = c.requires in grind (arith, e, within)) c.index_mut-slot.ensures.value c.in_default.ensures.passes

pub returns-clause-gives : goal.returns-clause-gives
returns-clause-gives c =
    slot-gives c.args.now c.generation.result (served_of (record { slot = c.args.number; generation = c.generation.result }, c.address-address.result, c.in-Some.len) c.emit.new.buf) c.args.slots.now.items c.from.result c.args.number c.index_mut-slot.result.now c.emit.new.self c.from.ensures
    (let e = c.from.ensures in let within = c.requires in grind (arith, e, within)) c.index_mut-slot.ensures.value refl c.generation.ensures c.address-address.ensures c.in-Some.ensures.gives
