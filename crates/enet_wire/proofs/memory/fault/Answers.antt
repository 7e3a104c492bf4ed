use Rattle.std.proofs.Common.{rules}
use Rattle.enet_wire.proofs.memory.fault.Goals as goal

pub returns-clause-count : goal.returns-clause-count
returns-clause-count c = search rules
