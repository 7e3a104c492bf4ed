-- The place that a fragment claims to have in its packet, and whether an even cut has such a piece.
use Rattle.std.specs.Prelude.{ℕ, ◌+◌, ◌-◌, ◌*◌, ◌/◌, ◌==◌, ◌&&◌, ◌||◌, nat_le, nat_lt, if◌then◌else◌, Bool, List, length}
use Rattle.enet_fragment.specs.declared.place.Place.{Place}

-- the place that a fragment's fields and its payload make
abbrev pub place_of : ℕ → ℕ → ℕ → ℕ → List ℕ → Place
place_of number count total offset bytes =
    record { number = number; count = count; total = total; offset = offset; len = length bytes }

-- it is the last piece of its packet
abbrev pub is_last : Place → Bool
is_last p = p.number + 1 == p.count

-- the length of every piece but the last, as this piece tells it: its own length; the last piece tells it by its offset,
-- which the pieces before it fill in equal shares (a piece that is alone has none before it and tells 0)
unfoldable pub told_piece_len : Place → ℕ
told_piece_len p = if is_last p then p.offset / (p.count - 1) else p.len

-- the place of this piece in a packet that is cut into pieces of this length, of which the last one has the rest
unfoldable pub is_even : ℕ → Place → Bool
is_even cut p =
    (p.offset == p.number * cut)
    && (p.len == (if is_last p then p.total - p.offset else cut))
    && nat_le ((p.count - 1) * cut) p.total

-- of several pieces, this one and those that it tells of have lengths that a datagram allows: no mtu, 576 to 4,096, leaves a piece more
-- than 4,068 bytes, and none cuts below 512
unfoldable pub is_of_piece_length : Place → Bool
is_of_piece_length p =
    p.count == 1 || (nat_le 512 (told_piece_len p) && nat_le (told_piece_len p) 4068 && nat_le p.len 4068)

-- some packet that is cut evenly into at most as many pieces as the limit allows, and into none that no datagram allows, has this piece
unfoldable pub is_sound : Place → Bool
is_sound p =
    nat_lt p.number p.count
    && nat_le p.count 16384
    && nat_le (p.offset + p.len) p.total
    && is_even (told_piece_len p) p
    && is_of_piece_length p
