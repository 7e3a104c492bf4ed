use Rattle.std.proofs.Common.{List}
use Rattle.enet_turn.specs.Turn.{Round}
use Rattle.enet_turn.specs.Run.{all_gave, all_puts}
use Rattle.enet_service.proofs.ManyCalls.{drains_on, posts_on}
use Rattle.enet_service.proofs.between.run_between_queues.Goals as goal

pub returns : goal.returns
returns g c =
    let ran = c.run.ensures.run in
    let rounds : List Round = ran.0 in
    let drained = drains_on c.args.source.now (all_gave rounds) c.run.new.source ran.2 in
    let posted = posts_on c.args.sink.now (all_puts rounds) c.run.new.sink ran.3 in
    record { run = (rounds, ran.1, drained.0, drained.1, posted, ran.4, ran.5); faults = c.run.ensures.faults; kept = c.run.ensures.kept }
