-- What happens within a second.
use Rattle.std.specs.Prelude.{ℕ, ◌&&◌, Bool, nat_le}
use Rattle.enet_rtt.specs.Clock.{elapsed_time}
use Rattle.enet_slot.specs.Slot.{SlotState, is_due}

-- whether a moment comes at most a second after another one
abbrev pub is_soon : ℕ → ℕ → Bool
is_soon now later = nat_le (elapsed_time later now) 1000

-- a moment within a second of another one brings the peer of a slot something
abbrev pub is_due_soon : ℕ → ℕ → SlotState → Bool
is_due_soon now later s = is_soon now later && is_due later s
