-- One channel's receiver.
use Rattle.std.specs.Prelude.{ℕ, suc, zero, ◌+◌, if◌then◌else◌, List, [], ◌∷◌, ◌++◌, Option, Some, None}
use Rattle.std.specs.Ordering.{nat_cmp}
use Rattle.std.specs.FinMap.{FinMap, get, remove, len, empty, entries}
use Rattle.enet_seq.specs.Numbering.{Numbering}
use Rattle.enet_fragment.specs.PartialPacket.{count_of}
use Rattle.enet_fragment.specs.Whole.{is_whole}
use Rattle.enet_packets.specs.declared.incoming_packet.IncomingPacket.{IncomingPacket}
use Rattle.enet_packets.specs.declared.incoming_packet.Dispatched.{Dispatched}
use Rattle.enet_packets.specs.Packets.{Lines, handed_out, bytes_of, bytes_in, packets_in, line_at, with_line, fresh, last_fresh, still_ahead}

pub record Receiver : Type 0 where
  pub front : ℕ  -- the number of the last reliable command dispatched
  pub unreliable : ℕ  -- the last unreliable number dispatched since
  pub held : FinMap nat_cmp IncomingPacket  -- reliable packets, by the number of their first piece
  pub waiting : Lines  -- unreliable packets, by reliable number, then by unreliable number
  pub dispatched : List Dispatched

abbrev pub nothing_received : Receiver
nothing_received = record { front = 0; unreliable = 0; held = empty; waiting = empty; dispatched = [] }

-- the unreliable packets that go with the front
abbrev pub front_line : Receiver → FinMap nat_cmp IncomingPacket
front_line r = line_at r.waiting r.front

-- the last unreliable number once they are dispatched
abbrev pub flushed_last : Receiver → ℕ
flushed_last r = last_fresh r.unreliable (entries (front_line r))

-- the whole unreliable packets of the front from this number on are dispatched, and those that have fallen behind go
abbrev pub flushed_from : ℕ → Receiver → Receiver
flushed_from first r = record r {
  unreliable = flushed_last r;
  waiting = with_line r.waiting r.front (still_ahead (front_line r) (flushed_last r));
  dispatched = r.dispatched ++ fresh first (entries (front_line r));
}

-- those past the last one that was dispatched
abbrev pub flushed : Receiver → Receiver
flushed r = flushed_from (r.unreliable + 1) r

-- what stands at so many numbers, from one on, goes
unfoldable pub without : {X : Type 0} → Numbering → FinMap nat_cmp X → ℕ → ℕ → FinMap nat_cmp X
without g packets number zero = packets
without g packets number (suc count) = remove (without g packets number count) (g.after number count)

-- the front goes to the last number of the packet just past it: what is held for its numbers goes, and what waits for a number
-- before that
abbrev pub with_passed : Numbering → Receiver → IncomingPacket → Receiver
with_passed g r c = record {
  front = g.after r.front (count_of c.making);
  unreliable = 0;
  held = without g r.held (g.after r.front 1) (count_of c.making);
  waiting = without g r.waiting r.front (count_of c.making);
  dispatched = r.dispatched ++ handed_out c ∷ [];
}

-- the packet just past the front is dispatched, and then the whole unreliable ones that waited for it, number 0 among them
abbrev pub with_dispatched : Numbering → Receiver → IncomingPacket → Receiver
with_dispatched g r c = flushed_from 0 (with_passed g r c)

-- the packet just past the front, where it is whole
abbrev pub next_whole : Option IncomingPacket → Option IncomingPacket
next_whole None = None
next_whole (Some c) = if is_whole c.making then Some c else None

abbrev pub released_with : (Receiver → Receiver) → Numbering → Receiver → Option IncomingPacket → Receiver
released_with rest g r None = r
released_with rest g r (Some c) = rest (with_dispatched g r c)

-- whole packets are dispatched as long as one stands just past the front, at most `turns`
unfoldable pub released : Numbering → ℕ → Receiver → Receiver
released g zero r = r
released g (suc turns) r = released_with (released g turns) g r (next_whole (get r.held (g.after r.front 1)))

-- each dispatch takes at least one held packet away, so as many turns as packets are held are enough
abbrev pub all_released : Numbering → Receiver → Receiver
all_released g r = flushed (released g (len r.held) r)

-- the bytes of all that is held or waits, each packet counted whole from its first piece on
abbrev pub held_bytes : Receiver → ℕ
held_bytes r = bytes_of r.held + bytes_in r.waiting

-- how many packets are held, wait or are in the making
abbrev pub held_packets : Receiver → ℕ
held_packets r = len r.held + packets_in r.waiting

-- all that is held or waits is dropped; the front, the unreliable number and what was dispatched stay
abbrev pub cleared : Receiver → Receiver
cleared r = record r { held = empty; waiting = empty }

-- the unreliable packets that wait or are in the making are given up
abbrev pub without_waiting : Receiver → Receiver
without_waiting r = record r { waiting = empty }
