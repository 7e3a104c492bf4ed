-- A receiver of its parts.
use Rattle.std.specs.Prelude.{ℕ, List, ◌∷◌}
use Rattle.std.specs.Ordering.{nat_cmp}
use Rattle.std.specs.FinMap.{FinMap}
use Rattle.enet_codec.specs.declared.packet.Packet.{Packet}
use Rattle.enet_packets.specs.declared.incoming_packet.IncomingPacket.{IncomingPacket}
use Rattle.enet_packets.specs.declared.incoming_packet.Dispatched.{Dispatched}
use Rattle.enet_packets.specs.Packets.{Lines}
use Rattle.enet_receiver.specs.Receiver.{Receiver}
use Rattle.enet_receiver.specs.Foresight.{ReceivingEnd}

abbrev pub receiver_of : ℕ → ℕ → FinMap nat_cmp IncomingPacket → Lines → List Dispatched → Receiver
receiver_of front unreliable held waiting dispatched =
    record { front = front; unreliable = unreliable; held = held; waiting = waiting; dispatched = dispatched }

-- the receiver before this packet was taken, as one that was dispatched
abbrev pub with_first : ReceivingEnd → Packet → ReceivingEnd
with_first e packet = record e { receiver = record e.receiver { dispatched = record { flags = packet.flags; body = packet.body } ∷ e.receiver.dispatched } }
