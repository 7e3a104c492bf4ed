-- Packets that came and are not dispatched yet.
use Rattle.std.specs.Prelude.{ℕ, ◌&&◌, ◌==◌, nat_lt, nat_le, if◌then◌else◌, List, [], ◌∷◌, unwrap_or, sum_by}
use Rattle.std.specs.Ordering.{nat_cmp}
use Rattle.std.specs.FinMap.{FinMap, get, insert, remove, len, empty, values, retain_keys}
use Rattle.enet_fragment.specs.PartialPacket.{joined}
use Rattle.enet_fragment.specs.Whole.{is_whole}
use Rattle.enet_packets.specs.declared.incoming_packet.IncomingPacket.{IncomingPacket}
use Rattle.enet_packets.specs.declared.incoming_packet.Dispatched.{Dispatched}

-- the packet as it is handed out
abbrev pub handed_out : IncomingPacket → Dispatched
handed_out c = record { flags = c.flags; body = joined c.making.pieces }

-- the bytes of packets, each counted whole from its first piece on
abbrev pub bytes_of : FinMap nat_cmp IncomingPacket → ℕ
bytes_of packets = sum_by (λ (c : IncomingPacket). c.making.total) (values packets)

-- unreliable packets in lines: by reliable number, then by unreliable number
abbrev pub Lines : Type 0
Lines = FinMap nat_cmp (FinMap nat_cmp IncomingPacket)

-- the line of a reliable number
abbrev pub line_at : Lines → ℕ → FinMap nat_cmp IncomingPacket
line_at lines number = unwrap_or (get lines number) empty

-- the line of a reliable number is this one; an empty line goes
abbrev pub with_line : Lines → ℕ → FinMap nat_cmp IncomingPacket → Lines
with_line lines number line = if len line == 0 then remove lines number else insert lines number line

-- how many packets wait, and how many bytes they have
abbrev pub packets_in : Lines → ℕ
packets_in lines = sum_by len (values lines)

abbrev pub bytes_in : Lines → ℕ
bytes_in lines = sum_by bytes_of (values lines)

-- of packets by rising number, the whole ones from this number on
abbrev pub fresh : ℕ → List (ℕ × IncomingPacket) → List Dispatched
fresh first [] = []
fresh first (e ∷ es) = if is_whole e.1.making && nat_le first e.0 then handed_out e.1 ∷ fresh first es else fresh first es

-- the number of the last whole one, where that is above the last that was dispatched
abbrev pub last_fresh : ℕ → List (ℕ × IncomingPacket) → ℕ
last_fresh last [] = last
last_fresh last (e ∷ es) = if is_whole e.1.making && nat_lt last e.0 then last_fresh e.0 es else last_fresh last es

-- the packets of a line that have not fallen behind
abbrev pub still_ahead : FinMap nat_cmp IncomingPacket → ℕ → FinMap nat_cmp IncomingPacket
still_ahead line last = retain_keys line (nat_lt last)
