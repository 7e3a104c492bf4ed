-- What a link keeps true of the numbers that were meant.
use Rattle.std.specs.Prelude.{◌≡◌, ℕ, true, false, ◌+◌, ◌-◌, ◌%◌, ◌<◌, ◌≤◌, ◌⊎◌, List, map, Some}
use Rattle.std.specs.FinMap.{get}
use Rattle.enet_packets.specs.declared.incoming_packet.IncomingPacket.{IncomingPacket}
use Rattle.enet_packets.specs.Packets.{line_at}
use Rattle.enet_receiver.specs.Receiver.{Receiver}
use Rattle.enet_sender.specs.CommandChoice.{carried}
use Rattle.enet_sender.specs.declared.sent.Sent.{Sent}
use Rattle.law_connection.specs.Follows.{command_count}
use Rattle.law_connection.specs.Link.{PutOut, is_late, number_below}
use Rattle.law_connection.specs.Image.{ShowsReceiver, reliable_count}
use Rattle.law_connection.specs.Meant.{OfReliable, OfUnreliable, IsReadAsMeant, has_piece}
use Rattle.law_connection.specs.WireLink.{WireLink}
use Rattle.law_connection.specs.LinkSteps.{Has}

-- dispatched, or held as a piece
abbrev pub IsReceived : Receiver → ℕ → Type 0
IsReceived r m = (m ≤ r.front) ⊎ ((n : ℕ) × (e : IncomingPacket) × (get r.held n ≡ Some e) × (n ≤ m) × (has_piece e.making (m - n) ≡ true))

-- there is a receiver of unbounded numbers that the link shows, and there are unbounded numbers that wait for their
-- acknowledgements, such that
pub record Keeps (mtu : ℕ) (v : WireLink) : Type 0 where
  pub receiver : Receiver
  pub waiting : List ℕ
  -- what the link keeps as the receiver is how that one is kept with wire numbers
  pub shows : v.is_open ≡ true → ShowsReceiver v.incoming receiver
  -- what a sending end keeps as sent has just the numbers that wait
  pub sent : v.is_sending ≡ true → map (λ (p : Sent). p.command.number) v.outgoing.sent ≡ map (λ n. n % 65536) waiting
  -- of the reliable commands that were submitted those up to the greatest number went, and the others are queued
  pub counted : v.is_sending ≡ true → command_count (carried mtu v.submitted) ≡ v.greatest + reliable_count v.outgoing.queued
  -- what waits was sent, and is within the span
  pub span : (m : ℕ) → Has waiting m → (0 < m) × (m ≤ v.greatest) × (v.greatest < m + 8192)
  -- an acknowledgement removed only what was dispatched or is held, where the receiver still dispatches
  pub removed : (m : ℕ) → 0 < m → m ≤ v.greatest → Has waiting m ⊎ (v.is_open ≡ true → IsReceived receiver m)
  -- the front isn't ahead of what was sent
  pub behind : v.is_open ≡ true → receiver.front ≤ v.greatest
  -- it is at most a packet behind the oldest number that was not acknowledged
  pub oldest : v.is_open ≡ true → (u : ℕ) → u ≤ v.greatest + 1 → ((m : ℕ) → Has waiting m → u ≤ m) → u ≤ receiver.front + 16384
  -- so it stays near what was sent: at most a packet and the span behind
  pub near : v.is_open ≡ true → v.greatest ≤ receiver.front + 24575
  -- all pieces that are held under one number are of one submitted packet
  pub held : v.is_open ≡ true → (n : ℕ) (e : IncomingPacket) → get receiver.held n ≡ Some e → OfReliable mtu (carried mtu v.submitted) n e.making
  -- so are those that wait under one number and one unreliable number
  pub lines : v.is_open ≡ true → (n k : ℕ) (e : IncomingPacket) → get (line_at receiver.waiting n) k ≡ Some e → OfUnreliable mtu (carried mtu v.submitted) n k e.making
  -- the mark of a command of the log is not above the greatest number
  pub marks : (c : PutOut) → Has v.commands c → c.sent_then ≤ v.greatest
  -- every command of the log that isn't late was meant with the number below its mark, and is read so, or as nothing
  pub read : v.is_open ≡ true → (c : PutOut) → Has v.commands c → is_late v.greatest c.sent_then c.command.number ≡ false
      → (m : IsReadAsMeant mtu (carried mtu v.submitted) receiver c.command) × (m.meant.number ≡ number_below c.sent_then c.command.number)
