use Rattle.std.proofs.Common.{rules}
use Rattle.enet_packets.proofs.incoming_packet.IncomingPacket.handed_out.Goals as goal

pub returns : goal.returns
returns c = search rules
