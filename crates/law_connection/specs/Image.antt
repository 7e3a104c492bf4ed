-- How a receiver or a sender with wire numbers shows one with unbounded numbers.
use Rattle.std.specs.Prelude.{◌≡◌, ℕ, true, ◌+◌, ◌-◌, ◌%◌, ◌<◌, ◌≤◌, if◌then◌else◌, List, [], ◌∷◌, map, Option, Some, None}
use Rattle.std.specs.Ordering.{nat_cmp}
use Rattle.std.specs.FinMap.{FinMap, get}
use Rattle.enet_fragment.specs.PartialPacket.{count_of}
use Rattle.enet_fragment.specs.declared.data.DataCommand.{DataCommand}
use Rattle.enet_packets.specs.declared.incoming_packet.IncomingPacket.{IncomingPacket}
use Rattle.enet_receiver.specs.Receiver.{Receiver}
use Rattle.enet_sender.specs.Sender.{Sender, Next}
use Rattle.enet_sender.specs.declared.sent.Sent.{Sent}
use Rattle.law_connection.specs.Link.{wired}
use Rattle.law_connection.specs.Meant.{IsReadAsItself}
use Rattle.law_connection.specs.LinkSteps.{Has}

-- a packet in the making has 1 to 16,384 pieces
abbrev pub IsSized : IncomingPacket → Type 0
IsSized c = (0 < count_of c.making) × (count_of c.making ≤ 16384)

abbrev pub AllSized : FinMap nat_cmp IncomingPacket → Type 0
AllSized held = (n : ℕ) (c : IncomingPacket) → get held n ≡ Some c → IsSized c

-- v is how a receiver r of unbounded numbers is kept
pub record ShowsReceiver (v r : Receiver) : Type 0 where
  pub front : v.front ≡ r.front % 65536
  pub unreliable : v.unreliable ≡ r.unreliable
  pub held : (d : ℕ) → 0 < d → d ≤ 65536 → get v.held ((r.front + d) % 65536) ≡ get r.held (r.front + d)
  pub low : (n : ℕ) → n ≤ r.front → get r.held n ≡ None
  pub near : (d : ℕ) → 28671 < d → get r.held (r.front + d) ≡ None
  pub sized : AllSized v.held
  pub sized_true : AllSized r.held
  pub waiting : (d : ℕ) → d < 65536 → get v.waiting ((r.front + d) % 65536) ≡ get r.waiting (r.front + d)
  pub near_waiting : (d : ℕ) → 28671 < d → get r.waiting (r.front + d) ≡ None
  pub dispatched : v.dispatched ≡ r.dispatched

-- how many of them are reliable
abbrev pub reliable_count : List DataCommand → ℕ
reliable_count [] = 0
reliable_count (c ∷ cs) = if c.reliable then reliable_count cs + 1 else reliable_count cs

-- the last reliable number given that doesn't wait in the queue: the greatest that was sent, if nothing was cleared
abbrev pub reached : Sender → ℕ
reached s = s.number - reliable_count s.queued

-- the numbers of what is sent
abbrev pub numbers_of : List Sent → List ℕ
numbers_of sent = map (λ (p : Sent). p.command.number) sent

abbrev pub IsRising : List ℕ → Type 0
IsRising [] = Unit {0}
IsRising (n ∷ ns) = ((m : ℕ) → Has ns m → n < m) × IsRising ns

-- the reliable ones of these commands have the numbers past `before`, one by one, up to `last`
abbrev pub IsRow : ℕ → List DataCommand → ℕ → Type 0
IsRow before [] last = before ≡ last
IsRow before (c ∷ cs) last = (c.reliable ≡ true → c.number ≡ before + 1) × IsRow (if c.reliable then before + 1 else before) cs last

-- what a sender of unbounded numbers keeps
pub record IsInOrder (s : Sender) : Type 0 where
  -- what is sent is within the span, in the order of its numbers
  pub rising : IsRising (numbers_of s.sent)
  pub span : (m : ℕ) → Has (numbers_of s.sent) m → (m ≤ reached s) × (reached s < m + 8192)
  -- what is queued goes on from there
  pub row : IsRow (reached s) s.queued s.number
  -- each command is read as itself
  pub queued_reads : (c : DataCommand) → Has s.queued c → IsReadAsItself (wired c)
  pub sent_reads : (p : Sent) → Has s.sent p → IsReadAsItself (wired p.command)

-- a sent command as it is kept
abbrev pub wired_sent : Sent → Sent
wired_sent p = record p { command = wired p.command }

-- v is how a sender s of unbounded numbers is kept
pub record ShowsSender (v s : Sender) : Type 0 where
  pub number : v.number ≡ s.number % 65536
  pub unreliable : v.unreliable ≡ s.unreliable
  pub queued : v.queued ≡ map wired s.queued
  pub sent : v.sent ≡ map wired_sent s.sent
  pub in_order : IsInOrder s

-- what is due next at both: nothing, or the same command, with as many bytes and prices new in transit
abbrev pub ShowsNext : Option Next → Option Next → Type 0
ShowsNext None None = Unit {0}
ShowsNext (Some a) (Some b) = (a.command ≡ wired b.command) × (a.added ≡ b.added) × (a.price ≡ b.price) × ShowsSender a.sender b.sender
ShowsNext _ _ = ⊥
