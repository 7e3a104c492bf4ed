-- How many packets are dispatched once a packet is made whole, told by what is held and waits before.
use Rattle.std.specs.Prelude.{◌≡◌, ℕ, zero, suc, ◌+◌, Bool, true, false, ◌==◌, ◌&&◌, not, nat_le, if◌then◌else◌, length, Option, Some, None}
use Rattle.std.specs.Ordering.{nat_cmp}
use Rattle.std.specs.FinMap.{FinMap, get, entries}
use Rattle.enet_seq.specs.Windows.{after}
use Rattle.enet_fragment.specs.PartialPacket.{count_of}
use Rattle.enet_fragment.specs.Whole.{is_whole}
use Rattle.enet_fragment.specs.declared.data.DataCommand.{DataCommand}
use Rattle.enet_packets.specs.declared.incoming_packet.IncomingPacket.{IncomingPacket}
use Rattle.enet_packets.specs.Packets.{Lines, line_at, fresh}
use Rattle.enet_receiver.specs.declared.foreseeing.Completed.{Completed}
use Rattle.enet_receiver.specs.Receiver.{Receiver, next_whole}
use Rattle.enet_receiver.specs.Private.ReceiverParts.{grown_at}

-- how many pieces a packet has
abbrev pub pieces_of : Option IncomingPacket → Option ℕ
pieces_of None = None
pieces_of (Some c) = Some (count_of c.making)

-- whether the packet that is made whole is held under this number
abbrev pub is_held_at : Option Completed → ℕ → Bool
is_held_at None number = false
is_held_at (Some p) number = p.reliable && p.place == number

abbrev pub pieces_or : Option Completed → Option ℕ → Option ℕ
pieces_or None pieces = pieces
pieces_or (Some p) pieces = Some p.pieces

-- how many pieces the packet of a number has, if it is whole
abbrev pub pieces_at : Option Completed → FinMap nat_cmp IncomingPacket → ℕ → Option ℕ
pieces_at completed held number = if is_held_at completed number then pieces_or completed None else pieces_of (next_whole (get held number))

-- whether the packet that is made whole goes with this number, and is not before the first that is dispatched
abbrev pub is_fresh : Option Completed → ℕ → ℕ → Bool
is_fresh None number first = false
is_fresh (Some p) number first = not p.reliable && (p.place == number && nat_le first p.unreliable)

-- how many unreliable packets go with a number, from the first unreliable number on
abbrev pub fresh_at : Option Completed → Lines → ℕ → ℕ → ℕ
fresh_at completed waiting number first = length (fresh first (entries (line_at waiting number))) + (if is_fresh completed number first then 1 else 0)

abbrev pub walk_with : (ℕ → ℕ) → Option Completed → Lines → ℕ → Option ℕ → ℕ
walk_with rest completed waiting front None = 0
walk_with rest completed waiting front (Some pieces) = 1 + fresh_at completed waiting (after front pieces) 0 + rest (after front pieces)

-- the whole packets just past the front, with the unreliable ones that go with them
unfoldable pub walk : ℕ → Option Completed → FinMap nat_cmp IncomingPacket → Lines → ℕ → ℕ
walk zero completed held waiting front = 0
walk (suc turns) completed held waiting front = walk_with (walk turns completed held waiting) completed waiting front (pieces_at completed held (after front 1))

abbrev pub chain_or_line : ℕ → ℕ → ℕ
chain_or_line zero line = line
chain_or_line (suc chain) line = suc chain

-- all that is dispatched
abbrev pub walked : ℕ → Option Completed → Receiver → ℕ
walked turns completed r =
    chain_or_line (walk turns completed r.held r.waiting r.front) (fresh_at completed r.waiting r.front (r.unreliable + 1))

-- the packet that a command makes whole, if it does
abbrev pub Completes : Option Completed → Receiver → DataCommand → ℕ → Type 0
Completes None r c place = is_whole (grown_at r c place).making ≡ false
Completes (Some p) r c place =
    (is_whole (grown_at r c place).making ≡ true)
    × (p.reliable ≡ c.reliable)
    × (p.place ≡ place)
    × (p.unreliable ≡ c.unreliable)
    × (p.pieces ≡ count_of (grown_at r c place).making)
