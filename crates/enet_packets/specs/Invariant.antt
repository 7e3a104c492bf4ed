-- What the fields of packets keep.
use Rattle.std.specs.Prelude.{◌≡◌, ℕ, ◌^◌, ◌-◌, ◌<◌, ◌≤◌, List, All, sum_by, true}
use Rattle.std.specs.Ordering.{nat_cmp}
use Rattle.std.specs.List.Sorted.{IsStrictlySortedBy}
use Rattle.std.specs.Map.{keys_of, values_of}
use Rattle.std.specs.FinMap.{FinMap, len}
use Rattle.enet_fragment.specs.Whole.{is_whole}
use Rattle.enet_packets.specs.declared.incoming_packet.IncomingPacket.{IncomingPacket}
use Rattle.enet_packets.specs.Packets.{bytes_of}

-- how many bytes a packet has once it is whole
abbrev pub total_of : IncomingPacket → ℕ
total_of c = c.making.total

-- no whole packet has a number above this one
abbrev pub AreWholeUpTo : ℕ → List (ℕ × IncomingPacket) → Type 0
AreWholeUpTo most entries = All (λ (e : ℕ × IncomingPacket). is_whole e.1.making ≡ true → e.0 ≤ most) entries

-- The numbers rise and have 16 bits, the counter is the sum of the packets' bytes, and those past `most` are in the making.
pub record KeepsPackets (entries : List (ℕ × IncomingPacket)) (bytes most : ℕ) : Type 0 where
  pub sorted : IsStrictlySortedBy nat_cmp (keys_of entries)
  pub numbers : All (λ (n : ℕ). n < 65536) (keys_of entries)
  pub totals : All (λ (c : IncomingPacket). total_of c ≤ 2 ^ 32 - 1) (values_of entries)
  pub counted : bytes ≡ sum_by total_of (values_of entries)
  pub whole : AreWholeUpTo most entries

-- a line of packets has at most one for each number
pub record KeepsLine (line : FinMap nat_cmp IncomingPacket) : Type 0 where
  pub few : len line ≤ 65536
  pub light : bytes_of line ≤ 2 ^ 48 - 1

-- The numbers of lines rise and have 16 bits.
pub record KeepsLines (entries : List (ℕ × FinMap nat_cmp IncomingPacket)) : Type 0 where
  pub sorted : IsStrictlySortedBy nat_cmp (keys_of entries)
  pub numbers : All (λ (n : ℕ). n < 65536) (keys_of entries)
  pub lines : All (λ (line : FinMap nat_cmp IncomingPacket). KeepsLine line) (values_of entries)

-- The counters are the sums of the lines' packets and bytes.
pub record KeepsWaiting (entries : List (ℕ × FinMap nat_cmp IncomingPacket)) (packets bytes : ℕ) : Type 0 where
  pub lines : KeepsLines entries
  pub packets_counted : packets ≡ sum_by len (values_of entries)
  pub bytes_counted : bytes ≡ sum_by bytes_of (values_of entries)
