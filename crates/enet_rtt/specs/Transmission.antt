-- How a command is sent, and sent again, until it is acknowledged. Times are in milliseconds.
use Rattle.std.specs.Prelude.{ℕ, ◌+◌, ◌-◌, ◌*◌, ◌%◌, ◌^◌, max, min, Bool, true, false, ◌&&◌, ◌||◌, ◌==◌, not, nat_le, nat_lt, if◌then◌else◌}
use Rattle.enet_rtt.specs.Clock.{elapsed_time}
use Rattle.enet_rtt.specs.Expiry.{gives_up}
use Rattle.enet_rtt.specs.declared.expiry.Patience.{Patience}
use Rattle.enet_rtt.specs.declared.transmission.Tick.{Tick}
use Rattle.enet_rtt.specs.declared.transmission.Transmission.{Transmission}

-- Sent for the first time.
abbrev pub begun : ℕ → ℕ → Transmission
begun now timeout = record { first = now; last = now; timeout = timeout; attempts = 1; due = false }

-- Attempts stop at 255.
abbrev pub next_attempts : ℕ → ℕ
next_attempts n = min (n + 1) 255

-- Sent once more.
abbrev pub again : ℕ → Transmission → Transmission
again now t = record t { last = now; attempts = next_attempts t.attempts; due = false }

-- It has waited out its timeout, and is not due to go again already.
abbrev pub is_late : ℕ → Transmission → Bool
is_late now t = not t.due && nat_le t.timeout (elapsed_time now t.last)

-- It is late, and its peer, last heard at `heard`, has timed out over it.
abbrev pub ends : ℕ → Patience → ℕ → Transmission → Bool
ends now patience heard t = is_late now t && gives_up patience now heard t

-- The peer was heard since the last send: so it answers, and this was dropped.
abbrev pub is_heard_since : Tick → Transmission → Bool
is_heard_since tick t = nat_lt (elapsed_time tick.now tick.heard) (elapsed_time tick.now t.last)

-- A timeout doubles, but to no more than the bound; one that is past it stays.
abbrev pub grown_time : ℕ → ℕ → ℕ
grown_time bound t = max t (min (2 * t) bound)

-- To so many milliseconds a timeout doubles where the peer answers.
abbrev pub answered_bound : ℕ
answered_bound = 100

-- Then it is that of a first send, or twice what it was, as far as this bound, where that is longer.
abbrev pub answered_time : ℕ → ℕ → ℕ
answered_time present t = max present (min (2 * t) answered_bound)

-- A timeout that ran out backs off in silence only.
abbrev pub next_time : Tick → Transmission → ℕ
next_time tick t = if is_heard_since tick t then answered_time tick.present t.timeout else grown_time tick.bound t.timeout

-- Where it is late, it is due to go again, and has its next timeout then.
abbrev pub marked : Tick → Transmission → Transmission
marked tick t = if is_late tick.now t then record t { timeout = next_time tick t; due = true } else t

-- A time of 16 bits is that of a send: of the first one or of the last one, or where it was sent three times or more, one between them.
abbrev pub went_at : ℕ → Transmission → Bool
went_at time t =
    time == t.first % 2 ^ 16
    || time == t.last % 2 ^ 16
    || (nat_le 3 t.attempts && nat_le ((time + 2 ^ 16 - t.first % 2 ^ 16) % 2 ^ 16) (elapsed_time t.last t.first))
