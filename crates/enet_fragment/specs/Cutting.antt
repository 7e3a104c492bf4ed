-- How a packet is cut into pieces before it is sent.
use Rattle.std.specs.Prelude.{ℕ, zero, suc, ◌+◌, ◌-◌, ◌*◌, ◌/◌, ◌==◌, ◌&&◌, nat_le, nat_lt, if◌then◌else◌, Option, Some, None, List, [], ◌∷◌, length, take, drop, min, max, is_some}

-- the length of each piece but the last one: what a datagram of this mtu has room for beside its headers. An mtu is 576 to 4,096, so
-- that no piece is meant to be below 512 or above 4,068
abbrev pub piece_length : ℕ → ℕ
piece_length mtu = max 512 (min 4068 (mtu - 28))

-- the least number of pieces of at most that length that a packet of so many bytes can be cut into; one where it is empty
unfoldable pub piece_count : ℕ → ℕ → ℕ
piece_count len mtu = if len == 0 then 1 else ((len - 1) / piece_length mtu + 1)

-- that number, unless it is above the limit
unfoldable pub planned : ℕ → ℕ → Option ℕ
planned len mtu = if nat_le (piece_count len mtu) 16384 then Some (piece_count len mtu) else None

-- where piece i of a packet of so many bytes begins, and how long it is; none past the last piece, nor where there is no plan
unfoldable pub piece_span : ℕ → ℕ → ℕ → Option (ℕ × ℕ)
piece_span len mtu i =
    if is_some (planned len mtu) && nat_lt i (piece_count len mtu)
    then Some (i * piece_length mtu, min (piece_length mtu) (len - i * piece_length mtu))
    else None

-- so many pieces of this length, one after another; the last one has what is left
unfoldable pub cut_up : ℕ → ℕ → List ℕ → List (List ℕ)
cut_up piece zero bytes = []
cut_up piece (suc n) bytes = take piece bytes ∷ cut_up piece n (drop piece bytes)

-- the pieces of a body, in order
abbrev pub pieces_of : ℕ → List ℕ → List (List ℕ)
pieces_of mtu body = cut_up (piece_length mtu) (piece_count (length body) mtu) body
