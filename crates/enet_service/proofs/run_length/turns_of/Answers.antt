use Rattle.std.proofs.Common.{List, sym, subst, arith}
use Rattle.enet_host.specs.Host.{Host}
use Rattle.enet_turn.specs.Turn.{Round}
use Rattle.enet_service.specs.ServiceRuns.{TakesTurns}
use Rattle.enet_turn.proofs.Runs.{cut_of_ends}
use Rattle.enet_service.proofs.Spells.{fault_of_wire, within_ends}
use Rattle.enet_service.proofs.run_length.turns_of.Goals as goal

pub returns-in-Ok-clause-turns : goal.returns-in-Ok-clause-turns
returns-in-Ok-clause-turns g c =
    let ran = c.in-Ok.ensures.run in
    let ends = ran.6 in
    let rounds : List Round = ran.0 in
    let turns : TakesTurns c.args.service.now rounds (record { host = c.show.new.host; waiting = c.run_between_queues.new.service.waiting }) =
    subst (λ (host : Host). TakesTurns c.args.service.now rounds (record { host = host; waiting = c.run_between_queues.new.service.waiting })) (sym c.show.ensures) ran.1 in
    (rounds, ends.1, record { advances = record { turns = turns; gave = ran.3.grown; queue = ran.2; drains = ran.3; put = ran.4; told = ran.5 }; sound = ends.0; totals = ends.2; faults = omega (arith, c.in-Ok.ensures.faults) })

pub returns-in-Err-clause-fault : goal.returns-in-Err-clause-fault
returns-in-Err-clause-fault g c = fault_of_wire _ _ _ c.in-Err.ensures.run.6

pub returns-in-Err-clause-cut : goal.returns-in-Err-clause-cut
returns-in-Err-clause-cut g c =
    let ran = c.in-Err.ensures.run in
    let rounds : List Round = ran.0 in
    let turns : TakesTurns c.args.service.now rounds (record { host = c.show-in-Err.new.host; waiting = c.run_between_queues.new.service.waiting }) =
    subst (λ (host : Host). TakesTurns c.args.service.now rounds (record { host = host; waiting = c.run_between_queues.new.service.waiting })) (sym c.show-in-Err.ensures) ran.1 in
    record { rounds = rounds; within = within_ends _ rounds _ ran.6; advances = record { turns = turns; gave = ran.3.grown; queue = ran.2; drains = ran.3; put = ran.4; told = ran.5 }; cut = cut_of_ends _ rounds _ ran.6; faults = omega (arith, c.in-Err.ensures.faults) }
