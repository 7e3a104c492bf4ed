use Rattle.std.proofs.Common.{rules}
use Rattle.enet_service.proofs.Settled.{left_more}
use Rattle.enet_service.proofs.settling.take_rest.Goals as goal

pub loop-preserved : goal.loop-preserved
loop-preserved g c =
    let before = c.loop.invariant in
    let more = left_more _ _ _ before.1 c.in-Some-take.submission c.loop.rest.items _ before.2 before.3 c.in-Some-take.ensures.some (search rules) in
    (search rules, more.0, more.1, more.2)
