-- What a receiver keeps: all that is held or waits is inside the window.
use Rattle.std.specs.Prelude.{◌≡◌, ℕ, ◌≤◌, ◌<◌, ◌^◌, Some}
use Rattle.std.specs.Ordering.{nat_cmp}
use Rattle.std.specs.FinMap.{FinMap, get}
use Rattle.enet_seq.specs.Windows.{ahead}
use Rattle.enet_fragment.specs.PartialPacket.{count_of}
use Rattle.enet_packets.specs.declared.incoming_packet.IncomingPacket.{IncomingPacket}
use Rattle.enet_receiver.specs.Receiver.{Receiver}

-- a packet that is held
pub record IsHeld (front most number : ℕ) (c : IncomingPacket) : Type 0 where
  pub wire : number < 65536
  pub near : 1 ≤ ahead front number
  pub far : ahead front number ≤ 28671
  pub some_piece : 1 ≤ count_of c.making
  pub few_pieces : count_of c.making ≤ 16384
  pub small : c.making.total ≤ most

-- a packet that waits
pub record IsWaiting (most count : ℕ) (c : IncomingPacket) : Type 0 where
  pub wire : count < 65536
  pub small : c.making.total ≤ most

-- the packets that wait for one number
pub record IsLine (front most number : ℕ) (line : FinMap nat_cmp IncomingPacket) : Type 0 where
  pub wire : number < 65536
  pub far : ahead front number ≤ 28671
  pub packets : (count : ℕ) (c : IncomingPacket) → get line count ≡ Some c → IsWaiting most count c

pub record Keeps (most : ℕ) (r : Receiver) : Type 0 where
  pub packet : most < 2 ^ 32
  pub wire : r.front < 65536
  pub held : (number : ℕ) (c : IncomingPacket) → get r.held number ≡ Some c → IsHeld r.front most number c
  pub waiting : (number : ℕ) (line : FinMap nat_cmp IncomingPacket) → get r.waiting number ≡ Some line → IsLine r.front most number line
