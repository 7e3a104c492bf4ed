use Rattle.enet_host.proofs.Slots.{found-at}
use Rattle.enet_host.proofs.calls.position_of.Goals as goal

pub returns-in-Some-clause-found : goal.returns-in-Some-clause-found
returns-in-Some-clause-found c =
    let h = c.in-Some.ensures.lookup in
    found-at c.args.slots.now c.args.name c.from-place.result c.in-Some.slot.now c.generation.result c.from-place.ensures h.3.0 h.1 c.generation.ensures c.if-generation-name.true
