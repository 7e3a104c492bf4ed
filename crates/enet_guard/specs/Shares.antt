-- What a client may send. What it has spent counts in thousandths, of packets and of bytes, so that each millisecond takes off as many as a
-- second allows packets or bytes.
use Rattle.std.specs.Prelude.{ℕ, ◌+◌, ◌-◌, ◌*◌, eqb, nat_lt, min, Bool, true, false, ◌&&◌, Option, Some, None}
use Rattle.enet_codec.specs.declared.address.Addr.{Addr}
use Rattle.enet_guard.specs.declared.guard.Seated.{Seated}
use Rattle.enet_guard.specs.declared.loads.Load.{Load}
use Rattle.enet_guard.specs.declared.share.Spent.{Spent}

-- nothing counts at this moment
abbrev pub unspent : ℕ → Spent
unspent clock = record { packets = 0; bytes = 0; at = clock }

-- what counts still after so many milliseconds
abbrev pub drained : ℕ → Option ℕ → ℕ → ℕ
drained spent None ms = 0
drained spent (Some rate) ms = spent - rate * ms

-- it is less than two seconds allow
abbrev pub has_left : ℕ → Option ℕ → Bool
has_left spent None = true
has_left spent (Some rate) = nat_lt spent (2000 * rate)

-- with so many packets or bytes more
abbrev pub with_more : ℕ → ℕ → ℕ
with_more spent more = min (spent + 1000 * more) 18446744073709551615

abbrev pub spent_at : Spent → Option ℕ → Option ℕ → ℕ → Spent
spent_at s packets bytes clock = record { packets = drained s.packets packets (clock - s.at); bytes = drained s.bytes bytes (clock - s.at); at = clock }

abbrev pub spent_more : Spent → Load → Spent
spent_more s load = record s { packets = with_more s.packets load.packets; bytes = with_more s.bytes load.bytes }

-- this address is connected in the slot
abbrev pub is_client : Option (Option Seated) → Addr → Bool
is_client None from = false
is_client (Some None) from = false
is_client (Some (Some seated)) from = eqb seated.address.ip from.ip && eqb seated.address.port from.port
