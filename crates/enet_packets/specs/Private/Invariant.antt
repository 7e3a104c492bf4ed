-- How one step changes what the fields of packets hold.
use Rattle.std.specs.Prelude.{◌≡◌, ℕ, ◌+◌, List, sum_by, unwrap_or, Bool, max, if◌then◌else◌, Result, Ok, Err}
use Rattle.std.specs.Ordering.{nat_cmp}
use Rattle.std.specs.Map.{values_of, lookup}
use Rattle.std.specs.BTreeMap.{is_at}
use Rattle.std.specs.FinMap.{FinMap, len, empty, from_entries}
use Rattle.enet_fragment.specs.Whole.{is_whole}
use Rattle.enet_packets.specs.declared.incoming_packet.IncomingPacket.{IncomingPacket}
use Rattle.enet_packets.specs.Packets.{bytes_of, with_line}
use Rattle.enet_packets.specs.Invariant.{KeepsLines}

-- the number past which no packet is whole, once the packet of a number came or grew
abbrev pub most_if : Bool → ℕ → ℕ → ℕ
most_if is_whole most number = if is_whole then max most number else most

abbrev pub most_with : {E : Type 0} → Result Bool E → ℕ → ℕ → ℕ
most_with (Ok is_whole) most number = most_if is_whole most number
most_with (Err why) most number = most

-- the line of a number
abbrev pub line_in : List (ℕ × FinMap nat_cmp IncomingPacket) → ℕ → FinMap nat_cmp IncomingPacket
line_in entries number = unwrap_or (lookup (is_at (nat_cmp number)) entries) empty

-- In the second list the line of this number is another one, or is gone if that is empty.
pub record Settles (entries after : List (ℕ × FinMap nat_cmp IncomingPacket)) (number : ℕ) (line : FinMap nat_cmp IncomingPacket) : Type 0 where
  pub is : from_entries after ≡ with_line (from_entries entries) number line
  pub lines : KeepsLines after
  pub packets : sum_by len (values_of after) + len (line_in entries number) ≡ sum_by len (values_of entries) + len line
  pub bytes : sum_by bytes_of (values_of after) + bytes_of (line_in entries number) ≡ sum_by bytes_of (values_of entries) + bytes_of line
