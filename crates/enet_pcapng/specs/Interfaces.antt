-- The interfaces of a section, and the units of their times.
use Rattle.std.specs.Prelude.{◌≡◌, ◌≢◌, ◌⊎◌, ◌<◌, ◌≤◌, ◌+◌, ◌*◌, ◌/◌, ◌^◌, ℕ, nat_le, if◌then◌else◌, List, length, take, drop, slice_get, Option, Some, None}
use Rattle.enet_pcapng.specs.declared.block.Order.{Order}
use Rattle.enet_pcapng.specs.declared.interface.Interface.{Interface}
use Rattle.enet_pcapng.specs.Blocks.{short_of}

-- A length filled up to a multiple of four.
abbrev pub filled : ℕ → ℕ
filled len = (len + 3) / 4 * 4

-- An option stands at the front of bytes: its code, its length, and its value, filled up.
pub record IsOption (order : Order) (bytes : List ℕ) (code : ℕ) (value behind : List ℕ) : Type 0 where
  pub code_is : code ≡ short_of order bytes
  pub len_is : length value ≡ short_of order (drop 2 bytes)
  pub is_within : filled (length value) + 4 ≤ length bytes
  pub value_is : value ≡ take (length value) (drop 4 bytes)
  pub behind_is : behind ≡ drop (filled (length value)) (drop 4 bytes)

abbrev pub IsNoOption : Order → List ℕ → Type 0
IsNoOption order bytes = (length bytes < 4) ⊎ (length bytes < filled (short_of order (drop 2 bytes)) + 4)

-- The first byte of the first option 9 before an option 0, if there is one.
pub data Finds (order : Order) : List ℕ → Option ℕ → Type 0 where
  no_more : (bytes : List ℕ) → IsNoOption order bytes → Finds order bytes None
  ended : (bytes value behind : List ℕ) → IsOption order bytes 0 value behind → Finds order bytes None
  found : (bytes value behind : List ℕ) → IsOption order bytes 9 value behind → Finds order bytes (slice_get value 0)
  another : (bytes value behind : List ℕ) (code : ℕ) (exponent : Option ℕ) → IsOption order bytes code value behind
      → code ≢ 0 → code ≢ 9 → Finds order behind exponent → Finds order bytes exponent

-- How many units of a time a second has: ten to the power of the exponent, 6 if none is told. Finer units than billionths can't be read.
abbrev pub units_of : Option ℕ → ℕ
units_of None = 1000000
units_of (Some exponent) = if nat_le exponent 9 then 10 ^ exponent else 0

-- The interface that the body of a block tells: the link type, and the unit of times in its options behind 8 bytes.
abbrev pub IsInterface : Order → List ℕ → Interface → Type 0
IsInterface order body interface = ((length body < 8) × (interface.units ≡ 0))
    ⊎ ((8 ≤ length body) × (interface.link ≡ short_of order body)
    × ((exponent : Option ℕ) × Finds order (drop 8 body) exponent × (interface.units ≡ units_of exponent)))
