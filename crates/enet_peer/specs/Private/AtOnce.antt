-- A packet of one command, as its channel takes it in.
use Rattle.std.specs.Prelude.{None}
use Rattle.enet_codec.specs.declared.frequent.WholePacket.{WholePacket}
use Rattle.enet_fragment.specs.declared.data.DataCommand.{DataCommand}

abbrev pub data_in : WholePacket → DataCommand
data_in p = record { reliable = p.reliable; number = p.head.number; unreliable = p.unreliable; fragment = None; body = p.payload.now }
