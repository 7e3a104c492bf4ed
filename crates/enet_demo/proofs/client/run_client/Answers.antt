use Rattle.std.proofs.Common.{Some, rules}
use Rattle.enet_wire.specs.Socket.{failures_of, told_of}
use Rattle.enet_service.specs.declared.run_length.RunLength.TheVariants.{Turns}
use Rattle.enet_service.specs.ServiceRuns.{HasTurned}
use Rattle.enet_demo.specs.Private.Playing.{HasVisited}
use Rattle.enet_demo.proofs.More.{visited_or_fault}
use Rattle.enet_demo.proofs.client.run_client.Goals as goal

pub returns-clause-visits : goal.returns-clause-visits
returns-clause-visits g c =
    let turned : HasTurned (Turns c.args.part.turns) (record { service = c.args.bound.now.service; queue = c.args.shared.queue.now; drain = c.args.ends.drain; poster = c.args.ends.poster; told = Some (told_of c.args.bound.now.wire.wire); faults = failures_of c.args.bound.now.wire.wire })
    (record { service = c.beside_turns-played.new.bound.service; queue = c.args.shared.queue.now; drain = c.into_drain.result; poster = c.into_poster.result; told = Some (told_of c.beside_turns-played.new.bound.wire.wire); faults = failures_of c.beside_turns-played.new.bound.wire.wire }) c.in_ok-report.field-0 = search rules in
    let visited : HasVisited c.args.shared.queue.now c.args.shared.events.now.id c.args.part.plan c.into_played.result = search rules in
    visited_or_fault _ _ _ _ _ _ _ _ _ c.requires.new.drain.1 c.requires.new.poster.1 turned visited c.after_visit.ensures.settled
