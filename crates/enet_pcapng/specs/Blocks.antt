-- The blocks of a capture in pcapng.
use Rattle.std.specs.Prelude.{◌≡◌, ◌⊎◌, ◌<◌, ◌≤◌, ◌+◌, ◌==◌, ℕ, nat_lt, if◌then◌else◌, List, length, take, drop, Option, Some, None}
use Rattle.std.specs.Int.{from_be_bytes, from_le_bytes, w16, w32}
use Rattle.enet_pcapng.specs.declared.block.Order.{Order}
use Rattle.enet_pcapng.specs.declared.block.Order.TheVariants.{Big, Little}
use Rattle.enet_pcapng.specs.declared.block.Block.{Block}

-- The number of the first four bytes.
abbrev pub number_of : Order → List ℕ → ℕ
number_of Big bytes = from_be_bytes w32 bytes
number_of Little bytes = from_le_bytes w32 bytes

-- The number of the first two bytes.
abbrev pub short_of : Order → List ℕ → ℕ
short_of Big bytes = from_be_bytes w16 bytes
short_of Little bytes = from_le_bytes w16 bytes

-- The order that the first number of a section tells, read with the highest byte first.
abbrev pub sign_of : ℕ → Option Order
sign_of number = if number == 0x1a2b3c4d then Some Big else (if number == 0x4d3c2b1a then Some Little else None)

-- The order of the numbers of a block of this kind: a block that begins a section tells it behind its head.
abbrev pub order_of : ℕ → Order → List ℕ → Option Order
order_of kind before bytes = if kind == 0x0a0d0d0a then (if nat_lt (length bytes) 12 then None else sign_of (number_of Big (drop 8 bytes))) else Some before

-- A block stands at the front of bytes: its kind and its length in a head of 8 bytes, its body, and its length once more.
pub record IsBlock (before : Order) (bytes : List ℕ) (block : Block) (behind : List ℕ) : Type 0 where
  pub kind_is : block.kind ≡ number_of before bytes
  pub order_is : order_of block.kind before bytes ≡ Some block.order
  pub len_is : length block.body.now + 12 ≡ number_of block.order (drop 4 bytes)
  pub is_within : length block.body.now + 12 ≤ length bytes
  pub body_is : block.body.now ≡ take (length block.body.now) (drop 8 bytes)
  pub behind_is : behind ≡ drop 4 (drop (length block.body.now) (drop 8 bytes))

-- No whole block stands there.
abbrev pub IsNoBlock : Order → List ℕ → Type 0
IsNoBlock before bytes = (length bytes < 12) ⊎ ((order_of (number_of before bytes) before bytes ≡ None)
    ⊎ ((order : Order) × (order_of (number_of before bytes) before bytes ≡ Some order)
    × ((number_of order (drop 4 bytes) < 12) ⊎ (length bytes < number_of order (drop 4 bytes)))))
