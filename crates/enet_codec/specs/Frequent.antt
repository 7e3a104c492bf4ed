-- What the commands say that are read without the enum of all.
use Rattle.std.specs.Prelude.{if◌then◌else◌}
use Rattle.enet_codec.specs.declared.frequent.Acknowledged.{Acknowledged}
use Rattle.enet_codec.specs.declared.frequent.WholePacket.{WholePacket}
use Rattle.enet_codec.specs.Message.{Message, acknowledge, send_reliable, send_unreliable}

abbrev pub acknowledgement : Acknowledged → Message
acknowledgement a = record { head = a.head; body = acknowledge a.received_number a.received_time }

abbrev pub whole_packet : WholePacket → Message
whole_packet p = record {
  head = p.head;
  body = if p.reliable then send_reliable p.payload.now else send_unreliable p.unreliable p.payload.now;
}
