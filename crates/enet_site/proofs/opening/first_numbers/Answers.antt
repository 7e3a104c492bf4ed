use Rattle.std.proofs.Common.{arith}
use Rattle.enet_site.proofs.RecordsFresh.{numbers-of}
use Rattle.enet_site.proofs.opening.first_numbers.Goals as goal

pub returns-clause-first : goal.returns-clause-first
returns-clause-first c = numbers-of c.loop-channel._channel c.args.control c.loop-channel.all.items _ (omega arith) c.loop-channel.invariant.items c.push_reserved-2.ensures.items
