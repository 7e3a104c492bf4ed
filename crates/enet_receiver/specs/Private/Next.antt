-- The packet of a command of which nothing came before.
use Rattle.std.specs.Prelude.{None}
use Rattle.enet_fragment.specs.declared.data.DataCommand.{DataCommand}
use Rattle.enet_packets.specs.declared.incoming_packet.IncomingPacket.{IncomingPacket}
use Rattle.enet_receiver.specs.DataOutcome.{earlier_or_new, with_more}

abbrev pub only_packet : DataCommand → IncomingPacket
only_packet c = with_more (earlier_or_new None c) c
