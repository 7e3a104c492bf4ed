use Rattle.std.proofs.Common.{arith}
use Rattle.enet_host.proofs.memory.memory_of_held.Goals as goal

pub returns-clause-small : goal.returns-clause-small
returns-clause-small c = λ peers is. omega (arith, is.channels, is.senders, is.packets, is.undispatched, is.bytes, is.acknowledgements)
