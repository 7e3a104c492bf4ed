use Rattle.std.proofs.Common.{rules}
use Rattle.enet_wire.proofs.memory.next_outcome.Goals as goal

pub returns-in-Some-Block-clause-taken : goal.returns-in-Some-Block-clause-taken
returns-in-Some-Block-clause-taken c = search rules
