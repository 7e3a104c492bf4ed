use Rattle.enet_receiver.proofs.Placing.{takes_a_place, keeps_pieces}
use Rattle.enet_receiver.proofs.Rooming.{takes_room, keeps_made}
use Rattle.enet_receiver.proofs.laws.a_command_takes_a_place_at_most.Goals as goal

pub returns-clause-place : goal.returns-clause-place
returns-clause-place c = λ most r d full pieces. takes_a_place most r d full pieces

pub returns-clause-pieces : goal.returns-clause-pieces
returns-clause-pieces c = λ most r d full pieces. keeps_pieces most r d full pieces

pub returns-clause-room : goal.returns-clause-room
returns-clause-room c = λ most r d full small made. takes_room most r d full small made

pub returns-clause-made : goal.returns-clause-made
returns-clause-made c = λ most r d full small made. keeps_made most r d full small made
