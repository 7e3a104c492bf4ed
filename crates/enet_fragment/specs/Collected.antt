-- The bytes of the pieces that have come, as they are kept: what they stand for, what memory they take, and what stays true of them.
use Rattle.std.specs.Prelude.{ℕ, ◌≡◌, ◌+◌, ◌*◌, ◌≤◌, ◌<◌, List, [], ◌∷◌, ◌++◌, length, take, drop, replicate, min, All, sum_by}
use Rattle.std.specs.Vec.{vec_capacity}
use Rattle.enet_fragment.specs.declared.collected.EarlyPiece.{EarlyPiece}
use Rattle.enet_fragment.specs.declared.collected.Collected.{Collected}

-- a buffer with these bytes at this offset
abbrev pub written_at : ℕ → List ℕ → List ℕ → List ℕ
written_at offset bytes buffer = take offset buffer ++ (bytes ++ drop (offset + length bytes) buffer)

-- these bytes with early pieces written over them, each at its place, in the order in which they came
unfoldable pub laid : List ℕ → List EarlyPiece → List ℕ
laid bytes [] = bytes
laid bytes (piece ∷ rest) = laid (written_at piece.offset piece.body.items bytes) rest

-- a packet's bytes: those of the front, and behind them those of early pieces, with zeros where nothing has come
abbrev pub contents : ℕ → Collected → List ℕ
contents total c = c.front.items ++ drop (length c.front.items) (laid (replicate total 0) c.early.items)

-- each of these ends within a packet of so many bytes
abbrev pub AreWithin : ℕ → List EarlyPiece → Type 0
AreWithin total early = All (λ piece. piece.offset + length piece.body.items ≤ total) early

-- one piece more, behind these
abbrev pub AddsPiece : List EarlyPiece → ℕ → List ℕ → List EarlyPiece → Type 0
AddsPiece before offset bytes after =
    (piece : EarlyPiece) × (after ≡ before ++ piece ∷ []) × (piece.offset ≡ offset) × (piece.body.items ≡ bytes)

-- the bytes of a packet of so many fit their fields
pub record IsCollected (total : ℕ) (c : Collected) : Type 0 where
  pub within : length c.front.items ≤ total
  pub roomy : c.front_room ≤ vec_capacity c.front
  pub gathered : 0 < length c.front.items → (total ≤ c.front_room) × (c.early.items ≡ [])
  pub placed : AreWithin total c.early.items
  pub counted : c.early_bytes ≡ min (sum_by (λ (piece : EarlyPiece). length piece.body.items) c.early.items) 18446744073709551615

-- how many bytes of memory they have taken: room for the front, the early pieces, and their places
abbrev pub taken_by : Collected → ℕ
taken_by c = c.front_room + c.early_bytes + 32 * vec_capacity c.early

-- they have taken no more than so many bytes that came, in so many pieces, are worth
pub record IsThrifty (bytes pieces : ℕ) (c : Collected) : Type 0 where
  pub taken : c.front_room + c.early_bytes ≤ 2 * bytes
  pub came : c.early_bytes ≤ bytes
  pub pieces_came : length c.early.items ≤ pieces
  pub places : 2 * vec_capacity c.early ≤ 3 * length c.early.items + 8
