-- How much an inbox holds at most, whatever comes and whether or not the user takes.
use Rattle.std.specs.Prelude.{ℕ, ◌+◌, ◌*◌, ◌≤◌, sum_by}
use Rattle.enet_receiver.specs.Places.{early_packets}
use Rattle.enet_receiver.specs.Room.{early_bytes}
use Rattle.enet_receiver.specs.Foresight.{ReceivingEnd}
use Rattle.enet_inbox.specs.Inbox.{Inbox, places_of, place_limit, waiting_of}

-- the packets that are held, wait or are in the making, on each channel but the one that it dispatches next; and their bytes
abbrev pub early_of : Inbox → ℕ
early_of b = sum_by (λ (r : ReceivingEnd). early_packets r.receiver) b.receivers

abbrev pub early_bytes_of : Inbox → ℕ
early_bytes_of b = sum_by (λ (r : ReceivingEnd). early_bytes r.receiver) b.receivers

-- the most packets in all: as many early ones as there are places, the next one of each channel, and as many untaken ones
abbrev pub most_places : ℕ → ℕ
most_places max_waiting = 2 * place_limit max_waiting + 255

-- the most bytes of all packets: where so many of early ones wait, or of untaken ones, that no packet begins, with the packet that
-- reached it, and the next one of each channel
abbrev pub most_bytes : ℕ → ℕ → ℕ
most_bytes max_packet max_waiting = 2 * max_waiting + 257 * max_packet

pub record FewPackets (b : Inbox) : Type 0 where
  pub early : early_of b ≤ place_limit b.max_waiting
  pub places : places_of b ≤ most_places b.max_waiting

pub record FewBytes (b : Inbox) : Type 0 where
  pub early : early_bytes_of b ≤ b.max_waiting + b.max_packet
  pub bytes : waiting_of b ≤ most_bytes b.max_packet b.max_waiting

pub record IsBounded (b : Inbox) : Type 0 where
  pub packets : FewPackets b
  pub bytes : FewBytes b
