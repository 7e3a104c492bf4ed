-- What a command takes of room, in bytes. Each packet counts whole from its first piece on until the user has it.
use Rattle.std.specs.Prelude.{◌≡◌, ℕ, ◌+◌, ◌≤◌, ◌||◌, Bool, if◌then◌else◌, List, Some, length, sum_by}
use Rattle.std.specs.FinMap.{get, remove}
use Rattle.enet_seq.specs.Windows.{after}
use Rattle.enet_fragment.specs.declared.data.DataCommand.{DataCommand}
use Rattle.enet_fragment.specs.Assembly.{making_of, AreKept}
use Rattle.enet_fragment.specs.PartialPacket.{count_of}
use Rattle.enet_packets.specs.declared.incoming_packet.IncomingPacket.{IncomingPacket}
use Rattle.enet_packets.specs.declared.incoming_packet.Dispatched.{Dispatched}
use Rattle.enet_packets.specs.Packets.{bytes_of, bytes_in, line_at}
use Rattle.enet_receiver.specs.Receiver.{Receiver, held_bytes}
use Rattle.enet_receiver.specs.DataOutcome.{is_next}

-- a packet of at most `most` bytes as its pieces make it, at most 16,384: these bytes, with a mark for each piece that came
pub record IsMade (most : ℕ) (c : IncomingPacket) : Type 0 where
  pub bytes : List ℕ
  pub came : List Bool
  pub missing : ℕ
  pub is : making_of bytes came c.making.cut ≡ c.making
  pub kept : AreKept bytes came missing c.making.cut
  pub small : c.making.total ≤ most
  pub few_pieces : count_of c.making ≤ 16384

-- all that is held, waits or is in the making
pub record HasMade (most : ℕ) (r : Receiver) : Type 0 where
  pub held : (n : ℕ) (c : IncomingPacket) → get r.held n ≡ Some c → IsMade most c
  pub waiting : (n k : ℕ) (c : IncomingPacket) → get (line_at r.waiting n) k ≡ Some c → IsMade most c

-- the bytes of what was dispatched
abbrev pub dispatched_bytes : List Dispatched → ℕ
dispatched_bytes ds = sum_by (λ (d : Dispatched). length d.body) ds

-- the bytes of all packets of a receiver: held, waiting, in the making, or dispatched
abbrev pub all_bytes : Receiver → ℕ
all_bytes r = held_bytes r + dispatched_bytes r.dispatched

-- those that are held, wait or are in the making, without the packet just past the front, which is dispatched next
abbrev pub early_bytes : Receiver → ℕ
early_bytes r = bytes_of (remove r.held (after r.front 1)) + bytes_in r.waiting

-- A command brings a packet of at most `most` bytes, and none where so much waits that none begins; and early ones only where it
-- isn't of the packet just past the front.
pub record TakesRoom (most : ℕ) (full : Bool) (r : Receiver) (c : DataCommand) (new : Receiver) : Type 0 where
  pub all : all_bytes new ≤ all_bytes r + (if full then 0 else most)
  pub early : early_bytes new ≤ early_bytes r + (if full || is_next r c then 0 else most)
