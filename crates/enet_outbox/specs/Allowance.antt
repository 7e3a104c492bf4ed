-- What a peer may have in transit beside its window, by how its line fares: in bytes, of the prices of its commands. Times are in
-- milliseconds.
use Rattle.std.specs.Prelude.{ℕ, ◌+◌, ◌-◌, ◌*◌, ◌/◌, max, min, Bool, false, nat_le, nat_lt, if◌then◌else◌, Option, Some, None}
use Rattle.enet_sender.specs.declared.outgoing.Acknowledged.{Acknowledged}

pub record Allowed : Type 0 where
  pub bytes : ℕ  -- the allowance
  pub least : ℕ  -- the least round trip that was measured
  pub calm : Bool  -- whether the round trip is little longer than that

-- the allowance of a new peer, which is as wide as the widest window: an allowance so wide limits nothing
abbrev pub wide : ℕ
wide = 65536

-- it is never less, nor more
abbrev pub fewest : ℕ
fewest = 2800

abbrev pub greatest : ℕ
greatest = 131072

-- while the peer is calm it counts as so much at least
abbrev pub calm_bytes : ℕ
calm_bytes = 6400

-- the greatest number of 32 bits
abbrev pub unlimited : ℕ
unlimited = 4294967295

abbrev pub new_allowance : Allowed
new_allowance = record { bytes = wide; least = unlimited; calm = false }

-- what the prices of what is in transit may be together, the mtu apart
abbrev pub limit : Allowed → ℕ
limit a = if nat_le wide a.bytes then unlimited else (if a.calm then max a.bytes calm_bytes else a.bytes)

-- what a price adds to an allowance: the less, the wider that is
abbrev pub share : ℕ → ℕ → ℕ
share bytes price = price / 4 + 2048 * price / bytes

-- By how much it grows with an acknowledgement. Where the command was due to go again, or the time is not that of its last send, a resend
-- was needless: its price is given back
abbrev pub growth : ℕ → Acknowledged → ℕ
growth bytes told =
    if told.due then told.price
    else (if told.last then share bytes told.price else share bytes told.price + told.price)

abbrev pub after_acknowledgement : Allowed → Acknowledged → Allowed
after_acknowledgement a told = record a { bytes = min (a.bytes + growth a.bytes told) greatest }

-- where the acknowledgement matches nothing of a channel it stays
abbrev pub after_match : Allowed → Option Acknowledged → Allowed
after_match a None = a
after_match a (Some told) = after_acknowledgement a told

-- it shrinks by twice the price of what was lost
abbrev pub after_loss : Allowed → ℕ → Allowed
after_loss a prices = record a { bytes = max (a.bytes - 2 * prices) fewest }

-- the round trip is little longer than the least
abbrev pub is_calm : ℕ → ℕ → Bool
is_calm round_trip least = nat_lt round_trip (least + max (least / 4) 4)

-- after a sample, with the round trip as it stands then
abbrev pub after_sample : Allowed → ℕ → ℕ → Allowed
after_sample a measured round_trip = record a { least = min a.least measured; calm = is_calm round_trip (min a.least measured) }
