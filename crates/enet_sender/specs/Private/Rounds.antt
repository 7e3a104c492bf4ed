-- What all commands that a ring names become, and what a test says of them.
use Rattle.std.specs.Prelude.{ℕ, zero, suc, Bool, false, [], Option, Some, None}
use Rattle.std.specs.Option.{option_map}
use Rattle.enet_rtt.specs.declared.transmission.Tick.{Tick}
use Rattle.enet_sender.specs.declared.sent.Sent.{Sent}
use Rattle.enet_sender.specs.Sender.{marked}
use Rattle.enet_sender.specs.Rings.{Rings}

-- what stands under a key that a ring has so many times, once each command of the ring was changed
abbrev pub changed_at : (Option Sent → Option Sent) → ℕ → Option Sent → Option Sent
changed_at change zero o = o
changed_at change (suc n) o = change o

-- marked, where it is late
abbrev pub marked_at : Tick → ℕ → Option Sent → Option Sent
marked_at tick n o = changed_at (option_map (marked tick)) n o

-- taken out
abbrev pub taken_at : ℕ → Option Sent → Option Sent
taken_at n o = changed_at (λ p. None) n o

-- a test of the command under a key
abbrev pub test_at : (Sent → Bool) → Option Sent → Bool
test_at test None = false
test_at test (Some p) = test p

-- once nothing is queued or sent: the numbers go on from where they stand
abbrev pub without_keys : Rings → Rings
without_keys r = record { number = r.number; unreliable = r.unreliable; passed = r.number; reliable = 0; due_from = 0; queued = []; sent = [] }
