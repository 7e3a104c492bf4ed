-- What a command takes of places. Each packet takes one from its first piece on until the user has it.
use Rattle.std.specs.Prelude.{ℕ, ◌+◌, ◌≤◌, ◌||◌, Bool, if◌then◌else◌, length}
use Rattle.std.specs.FinMap.{remove, len}
use Rattle.enet_seq.specs.Windows.{after}
use Rattle.enet_fragment.specs.declared.data.DataCommand.{DataCommand}
use Rattle.enet_packets.specs.Packets.{packets_in}
use Rattle.enet_receiver.specs.Receiver.{Receiver, held_packets}
use Rattle.enet_receiver.specs.DataOutcome.{is_next}

-- how many packets a receiver has: held, waiting, in the making, or dispatched
abbrev pub all_packets : Receiver → ℕ
all_packets r = held_packets r + length r.dispatched

-- how many are held, wait or are in the making, the one just past the front apart, which is dispatched next
abbrev pub early_packets : Receiver → ℕ
early_packets r = len (remove r.held (after r.front 1)) + packets_in r.waiting

-- A command brings one packet at most, and none where so much waits that none begins; and an early one only where it isn't of the
-- packet just past the front.
pub record TakesAPlace (full : Bool) (r : Receiver) (c : DataCommand) (new : Receiver) : Type 0 where
  pub all : all_packets new ≤ all_packets r + (if full then 0 else 1)
  pub early : early_packets new ≤ early_packets r + (if full || is_next r c then 0 else 1)
