use Rattle.std.proofs.Common.{◌∙◌}
use Rattle.enet_receiver.specs.ArrivingData.{data_command}
use Rattle.enet_receiver.proofs.AtOnce.{dispatched_at_once}
use Rattle.enet_receiver.proofs.Answered.{foreseen_held}
use Rattle.enet_receiver.proofs.incoming.Incoming.foresee_data.Goals as goal

pub returns-then-goes_at_once : goal.returns-then-goes_at_once
returns-then-goes_at_once c =
    let e = c.args.self.now in
    let d = data_command c.args.arriving in
    let at = dispatched_at_once e.max_packet e.receiver d c.args.full (c.goes_at_once.ensures c.if-goes_at_once.true) c.if-not-full.true in
    c.answer.ensures
    ∙ foreseen_held e d c.args.full 1 at.held at.one
