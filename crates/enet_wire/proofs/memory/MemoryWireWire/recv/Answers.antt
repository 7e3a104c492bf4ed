use Rattle.std.proofs.Common.{rules}
use Rattle.enet_wire.proofs.memory.MemoryWireWire.recv.Goals as goal

pub returns-in-Ok-Some-clause-told : goal.returns-in-Ok-Some-clause-told
returns-in-Ok-Some-clause-told c = search rules
