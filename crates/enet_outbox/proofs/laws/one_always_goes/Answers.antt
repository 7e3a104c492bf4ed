use Rattle.enet_outbox.proofs.Outstanding.{empty-passes, packet-adds, stays-near}
use Rattle.enet_outbox.proofs.laws.one_always_goes.Goals as goal

pub returns-clause-empty : goal.returns-clause-empty
returns-clause-empty c = empty-passes

pub returns-clause-bytes : goal.returns-clause-bytes
returns-clause-bytes c = λ o mtu channel q wide inside. (packet-adds o mtu channel q wide inside).bytes

pub returns-clause-commands : goal.returns-clause-commands
returns-clause-commands c = λ o mtu channel q wide inside. (packet-adds o mtu channel q wide inside).commands

pub returns-clause-within : goal.returns-clause-within
returns-clause-within c = stays-near
