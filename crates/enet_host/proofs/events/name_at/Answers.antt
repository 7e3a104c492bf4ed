use Rattle.std.proofs.Common.{arith}
use Rattle.enet_host.proofs.Serving.{slot-is-named}
use Rattle.enet_host.proofs.events.name_at.Goals as goal

pub returns : goal.returns
returns c =
    slot-is-named c.args.slots.now c.from.result c.args.number c.index-slots-from.result c.generation.result c.from.ensures
    (let e = c.from.ensures in let within = c.requires in grind (arith, e, within)) c.index-slots-from.is c.generation.ensures
