use Rattle.std.proofs.Common.{arith, rules}
use Rattle.enet_codec.proofs.KnownKinds.{unreliable_at}
use Rattle.enet_codec.proofs.frequent.unreliable_packet.Goals as goal

pub returns-clause-found : goal.returns-clause-found
returns-clause-found c =
    unreliable_at c.args.bytes.now _ c.head_at.result c.u16_at-2.result c.from-end.result (omega arith) c.requires.kind c.head_at.ensures c.u16_at-2.ensures (search rules) (search rules)
