use Rattle.enet_receiver.specs.ArrivingData.{data_command}
use Rattle.enet_receiver.proofs.Admission.{admitted}
use Rattle.enet_receiver.proofs.incoming.Incoming.receive.Goals as goal

pub keep-requires-clause-admitted : goal.keep-requires-clause-admitted
keep-requires-clause-admitted c =
    let e = c.args.self.now in
    admitted e.max_packet e.receiver (data_command c.args.arriving) c.args.full c.in-Ok.place c.in-Ok.ensures.held.0 c.in-Ok.ensures.held.1
