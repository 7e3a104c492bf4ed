-- When a sent command is due for resending, and when its peer has timed out. Times are in milliseconds.
use Rattle.std.specs.Prelude.{ℕ, ◌+◌, ◌-◌, ◌^◌, Bool, ◌&&◌, ◌||◌, ◌==◌, nat_le, nat_lt, if◌then◌else◌}
use Rattle.enet_rtt.specs.Clock.{elapsed_time, since_later}
use Rattle.enet_rtt.specs.declared.expiry.Patience.{Patience}
use Rattle.enet_rtt.specs.declared.expiry.Expiry.{Expiry}
use Rattle.enet_rtt.specs.declared.expiry.Expiry.TheVariants.{No, Resend, End}
use Rattle.enet_rtt.specs.declared.transmission.Transmission.{Transmission}

-- The peer, last heard at `heard`, has timed out over a command: the maximum has passed since its first send, or 2^(attempts - 1) is
-- the limit or more and its last two sends, each a timeout apart, were made when the minimum had passed since its first send or since
-- the peer was heard, whichever was later.
abbrev pub gives_up : Patience → ℕ → ℕ → Transmission → Bool
gives_up p now heard t =
    nat_le p.maximum (elapsed_time now t.first)
    || (nat_le p.limit (2 ^ (t.attempts - 1)) && nat_le (elapsed_time now t.last + t.timeout + p.minimum) (since_later now t.first heard))

-- Nothing before the timeout has passed since the last send.
abbrev pub expiry : Patience → ℕ → ℕ → Transmission → Expiry
expiry p now heard t =
    if nat_lt (elapsed_time now t.last) t.timeout then No
    else (if gives_up p now heard t then End else Resend)

-- ENet's default numbers.
abbrev pub standard_patience : Patience
standard_patience = record { limit = 32; minimum = 5000; maximum = 30000 }

-- A number, or its default where it is 0.
abbrev pub or_default_number : ℕ → ℕ → ℕ
or_default_number n d = if n == 0 then d else n

abbrev pub patience_with_defaults : ℕ → ℕ → ℕ → Patience
patience_with_defaults limit minimum maximum = record {
  limit = or_default_number limit 32;
  minimum = or_default_number minimum 5000;
  maximum = or_default_number maximum 30000;
}
