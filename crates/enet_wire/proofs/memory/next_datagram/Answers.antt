use Rattle.std.proofs.Common.{◌≤◌, length, subst, sym}
use Rattle.enet_wire.proofs.Short.{take_short}
use Rattle.enet_wire.proofs.memory.next_datagram.Goals as goal

pub returns-else-not-is_answerable-clause-short : goal.returns-else-not-is_answerable-clause-short
returns-else-not-is_answerable-clause-short c = subst (λ xs. length xs ≤ 4096) (sym c.truncate.ensures) (take_short 4096 _)
