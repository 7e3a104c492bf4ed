-- When each command that waits for its acknowledgement is late first, on a clock that doesn't wrap.
use Rattle.std.specs.Prelude.{◌≡◌, ℕ, ◌+◌, ◌%◌, ◌^◌, ◌<◌, ◌≤◌, Bool, true, false, Option, Some, List, length, nat_le, if◌then◌else◌}
use Rattle.slab.specs.Slab.{Slab, get}
use Rattle.enet_rtt.specs.Clock.{elapsed_time}
use Rattle.enet_deadlines.specs.Moments.{IsAt}
use Rattle.enet_sender.specs.declared.sent.Sent.{Sent}
use Rattle.enet_sender.specs.Sender.{is_late}
use Rattle.enet_sender.specs.Pending.{vacant}

-- A command went last at a moment up to `clock`, and its timeout has passed since at the one that is noted for its key.
pub record IsForetold (clock : ℕ) (moments : List (Option ℕ)) (key : ℕ) (p : Sent) : Type 0 where
  pub went : ℕ
  pub begun : went ≤ clock
  pub shown : went % 2 ^ 32 ≡ p.transmission.last
  pub fits : p.transmission.timeout < 2 ^ 32
  pub noted : IsAt moments key (went + p.transmission.timeout)

-- So it is of each command that isn't due to go again, and no other key has a moment.
pub record AreForetold (clock : ℕ) (at : ℕ → Option Sent) (moments : List (Option ℕ)) : Type 0 where
  pub each : (key : ℕ) (p : Sent) → at key ≡ Some p → p.transmission.due ≡ false → IsForetold clock moments key p
  pub only : (key moment : ℕ) → IsAt moments key moment → (p : Sent) × ((at key ≡ Some p) × (p.transmission.due ≡ false))

-- And each key has a place for its moment.
pub record KeepsTime (s : Slab Sent) (moments : List (Option ℕ)) (clock : ℕ) : Type 0 where
  pub begun : 2 ^ 32 ≤ clock
  pub small : clock < 2 ^ 62
  pub few : length moments ≤ vacant
  pub inside : (key : ℕ) (p : Sent) → get s key ≡ Some p → key < length moments
  pub foretold : AreForetold clock (get s) moments

-- the commands, with room for as many as have their places
abbrev pub timed : Slab Sent → List (Option ℕ) → Slab Sent
timed s moments = record s { capacity = if nat_le s.capacity (length moments) then s.capacity else 0 }

-- a command under some key passes a test, or none does
abbrev pub SomePasses : (Sent → Bool) → (ℕ → Option Sent) → Type 0
SomePasses test at = (key : ℕ) × ((p : Sent) × ((key < vacant) × ((at key ≡ Some p) × (test p ≡ true))))

abbrev pub NonePasses : (Sent → Bool) → (ℕ → Option Sent) → Type 0
NonePasses test at = (key : ℕ) (p : Sent) → at key ≡ Some p → test p ≡ false

-- In so many milliseconds after the moment `now` a command is late first: none is before, and then one is. The greatest number of 32 bits
-- says no more than that none is before.
pub record IsLateIn (at : ℕ → Option Sent) (now wait : ℕ) : Type 0 where
  pub before : (later : ℕ) → later < 2 ^ 32 → elapsed_time later now < wait → NonePasses (is_late later) at
  pub first : wait < 4294967295 → (later : ℕ) → later < 2 ^ 32 → elapsed_time later now ≡ wait → SomePasses (is_late later) at
