-- Which numbers are held, as marks in blocks of 4,096 numbers.
use Rattle.std.specs.Prelude.{◌≡◌, ℕ, ◌/◌, ◌%◌, ◌<◌, Bool, false, List, length, Option, Some, None, is_some, slice_index_or}
use Rattle.std.specs.Ordering.{nat_cmp}
use Rattle.std.specs.FinMap.{FinMap, get}
use Rattle.enet_fragment.specs.Assembly.{missing_in}
use Rattle.enet_packets.specs.declared.incoming_packet.IncomingPacket.{IncomingPacket}

-- what a block's fields keep: a mark for each of its numbers, and how many aren't set
pub record KeepsBlock (marks : List Bool) (missing : ℕ) : Type 0 where
  pub many : length marks ≡ 4096
  pub counted : missing ≡ missing_in marks

-- whether a number of a block is marked; none is where there is no block
abbrev pub block_has : Option (List Bool) → ℕ → Bool
block_has None i = false
block_has (Some marks) i = slice_index_or marks i false

-- whether a number is marked in its block
abbrev pub marked_in : List (Option (List Bool)) → ℕ → Bool
marked_in blocks number = block_has (slice_index_or blocks (number / 4096) None) (number % 4096)

-- a number is marked exactly where a packet is held under it, so that no mark is left when its block comes round again
abbrev pub AreMarked : List (Option (List Bool)) → FinMap nat_cmp IncomingPacket → Type 0
AreMarked blocks held = (number : ℕ) → number < 65536 → marked_in blocks number ≡ is_some (get held number)
