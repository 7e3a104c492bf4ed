-- A receiver of its parts.
use Rattle.std.specs.Prelude.{ℕ, ◌%◌, ◌&&◌, []}
use Rattle.std.specs.Ordering.{nat_cmp}
use Rattle.std.specs.FinMap.{FinMap}
use Rattle.enet_packets.specs.declared.incoming_packet.IncomingPacket.{IncomingPacket}
use Rattle.enet_packets.specs.Packets.{Lines}
use Rattle.enet_fragment.specs.declared.data.DataCommand.{DataCommand}
use Rattle.enet_receiver.specs.Receiver.{Receiver, all_released}
use Rattle.enet_seq.specs.Numbering.{wire}
use Rattle.enet_seq.specs.Windows.{acknowledges}
use Rattle.enet_receiver.specs.declared.took.Took.{Took}
use Rattle.enet_receiver.specs.declared.took.Foresight.{Foresight}
use Rattle.enet_receiver.specs.Foresight.{ReceivingEnd}
use Rattle.enet_receiver.specs.DataOutcome.{is_handled, came_at, earlier_or_new, with_more, with_added}
use Rattle.enet_receiver.specs.ReceiverParts.{receiver_of}

-- what is held and what waits, without the rest
abbrev pub holding : FinMap nat_cmp IncomingPacket → Lines → Receiver
holding held waiting = receiver_of 0 0 held waiting []

-- the packet of a command once its piece is added
abbrev pub grown_at : Receiver → DataCommand → ℕ → IncomingPacket
grown_at r c place = with_more (earlier_or_new (came_at r c place) c) c

-- its piece is added
abbrev pub with_stored : Receiver → DataCommand → ℕ → Receiver
with_stored r c place = with_added r c place (grown_at r c place)

-- the piece is added, and what is then due is dispatched
abbrev pub with_kept : ReceivingEnd → DataCommand → ℕ → ReceivingEnd
with_kept e c place = record e { receiver = all_released wire (with_stored e.receiver c place) }

-- what is foreseen of a command of this outcome
abbrev pub answered_with : ReceivingEnd → Took → ℕ → ℕ → Foresight
answered_with e took number dispatches =
    record { took = took; acknowledged = is_handled took && acknowledges (e.receiver.front % 65536) number; dispatches = dispatches }
