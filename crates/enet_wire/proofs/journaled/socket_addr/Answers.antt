use Rattle.std.proofs.Common.{rules}
use Rattle.enet_wire.proofs.Addresses.{plain-back}
use Rattle.enet_wire.proofs.journaled.socket_addr.Goals as goal

pub returns : goal.returns
returns c = plain-back c.from.result c.from_bits.result c.args.addr (search rules) c.from_bits.ensures c.from.ensures.0 c.from.ensures.1.0
