use Rattle.std.proofs.Common.{◌∙◌}
use Rattle.enet_receiver.specs.ArrivingData.{data_command}
use Rattle.enet_receiver.proofs.Admission.{admitted}
use Rattle.enet_receiver.proofs.Answered.{foreseen_held, foreseen_other}
use Rattle.enet_receiver.proofs.incoming.Incoming.foresee_in_full.Goals as goal

pub dispatches-dispatches-requires-clause-admitted : goal.dispatches-dispatches-requires-clause-admitted
dispatches-dispatches-requires-clause-admitted c =
    let e = c.args.self.now in
    admitted e.max_packet e.receiver (data_command c.args.arriving) c.args.full c.in-Ok.place c.in-Ok.ensures.held.0 c.in-Ok.ensures.held.1

pub returns-in-Ok : goal.returns-in-Ok
returns-in-Ok c =
    let e = c.args.self.now in
    let d = data_command c.args.arriving in
    c.answer.ensures
    ∙ foreseen_held e d c.args.full c.dispatches-dispatches.result c.in-Ok.ensures.held.0 (c.dispatches-dispatches.ensures c.args.full c.in-Ok.ensures.held.0)

pub returns-in-Err : goal.returns-in-Err
returns-in-Err c =
    let e = c.args.self.now in
    let d = data_command c.args.arriving in
    c.answer-in-Err.ensures
    ∙ foreseen_other e d c.args.full c.in-Err.took c.in-Err.ensures.other c.in-Err.ensures.known.0
