use Rattle.std.proofs.Common.{arith, rules}
use Rattle.enet_codec.proofs.KnownKinds.{reliable_at}
use Rattle.enet_codec.proofs.frequent.reliable_packet.Goals as goal

pub returns-clause-found : goal.returns-clause-found
returns-clause-found c =
    reliable_at c.args.bytes.now _ c.head_at.result c.from-end.result (omega arith) c.requires.kind c.head_at.ensures (search rules) (search rules)
