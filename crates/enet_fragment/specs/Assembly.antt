-- What the fields of an assembly mean.
use Rattle.std.specs.Prelude.{ℕ, zero, suc, ◌≡◌, ◌-◌, ◌*◌, ◌≤◌, ◌<◌, ◌^◌, Bool, if◌then◌else◌, Option, Some, None, List, [], ◌∷◌, length, take, drop, unwrap_or, true, false}
use Rattle.std.specs.Option.{ForSome, ForNone}
use Rattle.enet_fragment.specs.PartialPacket.{PartialPacket}

-- the value, where it is marked
abbrev pub marked : {X : Type 0} → Bool → X → Option X
marked came x = if came then Some x else None

-- the first piece of these bytes, after which so many more come: it has the length of the cut, or all bytes where it is the last
abbrev pub first_piece : ℕ → List ℕ → ℕ → List ℕ
first_piece cut bytes zero = bytes
first_piece cut bytes (suc more) = take cut bytes

-- the marked pieces of a packet whose bytes lie in a row
unfoldable pub pieces_in : ℕ → List ℕ → List Bool → List (Option (List ℕ))
pieces_in cut bytes [] = []
pieces_in cut bytes (came ∷ rest) = marked came (first_piece cut bytes (length rest)) ∷ pieces_in cut (drop cut bytes) rest

-- how many marks are missing
unfoldable pub missing_in : List Bool → ℕ
missing_in [] = 0
missing_in (true ∷ rest) = missing_in rest
missing_in (false ∷ rest) = suc (missing_in rest)

-- the packet in pieces that an assembly's fields stand for
abbrev pub making_of : List ℕ → List Bool → Option ℕ → PartialPacket
making_of bytes came cut = record { total = length bytes; cut = cut; pieces = pieces_in (unwrap_or cut 0) bytes came }

-- what an assembly's fields keep
pub record AreKept (bytes : List ℕ) (came : List Bool) (missing : ℕ) (cut : Option ℕ) : Type 0 where
  pub some_piece : 0 < length came
  pub small_count : length came < 2 ^ 32
  pub small_total : length bytes < 2 ^ 32
  pub counted : missing ≡ missing_in came
  pub in_range : ForSome cut (λ c. (length came - 1) * c ≤ length bytes)
  pub nothing_told : ForNone cut (missing ≡ length came)
