use Rattle.std.proofs.Common.{sym}
use Rattle.enet_receiver.specs.ArrivingData.{data_command}
use Rattle.enet_receiver.proofs.Admission.{too_long}
use Rattle.enet_receiver.proofs.arriving_data.ArrivingData.is_piece.Goals as goal

pub returns-then-self-most-clause-value : goal.returns-then-self-most-clause-value
returns-then-self-most-clause-value c = sym (too_long c.args.most (data_command c.args.self) c.if-self-most.true)
