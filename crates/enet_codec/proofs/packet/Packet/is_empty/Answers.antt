use Rattle.std.proofs.Common.{rules}
use Rattle.enet_codec.proofs.packet.Packet.is_empty.Goals as goal

pub returns : goal.returns
returns c = search rules
