use Rattle.enet_seq.specs.Numbering.{wire, unbounded}
use Rattle.enet_receiver.proofs.Released.{nothing_is_due, wire_begins, unbounded_begins}
use Rattle.enet_receiver.proofs.laws.turns_suffice.Goals as goal

pub returns-clause-on_the_wire : goal.returns-clause-on_the_wire
returns-clause-on_the_wire c = λ r pieces. nothing_is_due wire r wire_begins pieces

pub returns-clause-without_bound : goal.returns-clause-without_bound
returns-clause-without_bound c = λ r pieces. nothing_is_due unbounded r unbounded_begins pieces
