use Rattle.std.proofs.Common.{arith}
use Rattle.enet_site.proofs.RecordsFresh.{channels-of}
use Rattle.enet_site.proofs.opening.fresh_channels.Goals as goal

pub returns-clause-fresh : goal.returns-clause-fresh
returns-clause-fresh c = channels-of c.loop-channel._channel c.loop-channel.all.items (omega arith) c.loop-channel.invariant.items
