-- Reliable sequence numbers modulo 65536, and the windows in which ENet 1.3 reads them.
--
-- The 65,536 numbers are 16 windows of 4,096. A receiver looks at a number only where its window is the
-- front's or one of the next six, the front being the last reliable number that it has dispatched.
use Rattle.std.specs.Prelude.{ℕ, Bool, ◌+◌, ◌-◌, ◌/◌, ◌%◌, ◌&&◌, ◌||◌, ◌==◌, nat_le, nat_lt, not, if◌then◌else◌, Option, Some, None}

-- the window in which a number stands, 16 higher where the number is below the front
abbrev pub window_of : ℕ → ℕ → ℕ
window_of front number = if nat_lt number front then number / 4096 + 16 else number / 4096

-- whether a number is looked at: its window is the front's or one of the next six
abbrev pub in_window : ℕ → ℕ → Bool
in_window front number = nat_le (front / 4096) (window_of front number) && nat_lt (window_of front number) (front / 4096 + 7)

-- whether a command of this number is acknowledged: its window is neither the seventh nor the eighth past the front's
abbrev pub acknowledges : ℕ → ℕ → Bool
acknowledges front number = not (window_of front number == front / 4096 + 7 || window_of front number == front / 4096 + 8)

-- the distance from the front up to a number
abbrev pub ahead : ℕ → ℕ → ℕ
ahead front number = (number + 65536 - front) % 65536

-- the number so many past another
abbrev pub after : ℕ → ℕ → ℕ
after number count = (number + count) % 65536

-- whether a fragment is looked at: the number of its packet's first piece and its own are both in the window
abbrev pub fragment_in_window : ℕ → ℕ → ℕ → Bool
fragment_in_window front start own = in_window front start && in_window front own

-- the true number, counted without wrapping, that a wire number stands for at a receiver whose true front is `front`
abbrev pub number_in_window : ℕ → ℕ → Option ℕ
number_in_window front wire = if in_window (front % 65536) wire then Some (front + ahead (front % 65536) wire) else None
