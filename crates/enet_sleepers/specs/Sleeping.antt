-- Slots that sleep: they have nothing to put out and nothing to tell, and time brings them something at a moment that is noted.
use Rattle.std.specs.Prelude.{◌≡◌, ◌≢◌, ℕ, ◌+◌, ◌%◌, ◌^◌, ◌<◌, ◌≤◌, ◌⊎◌, Bool, true, false, Option, None, Some, List, length, slice_get, slice_set, slice_index_or}
use Rattle.enet_deadlines.specs.Clock.{HappensAt}
use Rattle.enet_deadlines.specs.Moments.{IsAt}
use Rattle.enet_deadlines.specs.Sets.{IsIn, IsOut}
use Rattle.enet_slot.specs.Slot.{SlotState, is_due}
use Rattle.enet_slot.specs.Giving.{is_vacant}
use Rattle.enet_slot.specs.Waiting.{Waits}

-- what is noted of the slots of a host
pub record Noted : Type 0 where
  pub awake : List Bool  -- which are awake; the others sleep
  pub free : List Bool  -- which of those that sleep are free
  pub due : List (Option ℕ)  -- when time brings those that sleep and hold a peer something, on a clock that doesn't wrap
  pub clock : ℕ  -- that clock

-- as much is noted of each slot, and there are few of them; the clock is far from the end of its numbers
pub record IsWhole (v : Noted) : Type 0 where
  pub free : length v.free ≡ length v.awake
  pub due : length v.due ≡ length v.awake
  pub few : length v.awake ≤ 65535
  pub early : v.clock < 2 ^ 62 + 2 ^ 32

-- a slot sleeps and is free
pub record SleepsFree (v : Noted) (i : ℕ) (s : SlotState) : Type 0 where
  pub empty : s.peer ≡ None
  pub listed : IsIn v.free i
  pub never : slice_index_or v.due i None ≡ None

-- or it holds a peer, that only waits and is due at a moment to come
pub record SleepsHeld (v : Noted) (i : ℕ) (s : SlotState) : Type 0 where
  pub waits : Waits s
  pub held : is_vacant s.peer ≡ false
  pub unlisted : IsOut v.free i
  pub moment : ℕ
  pub at : IsAt v.due i moment
  pub ahead : v.clock < moment
  pub near : moment < v.clock + 4294967295
  pub due : HappensAt (λ (t : ℕ). is_due t s) v.clock moment

abbrev pub Sleeps : Noted → ℕ → SlotState → Type 0
Sleeps v i s = SleepsFree v i s ⊎ SleepsHeld v i s

-- What is noted is true of the slots of a host whose clock shows `now`: the slots that are not awake sleep, and of those that are nothing is noted.
pub record KeepsSleepers (now : ℕ) (v : Noted) (slots : List SlotState) : Type 0 where
  pub count : length v.awake ≡ length slots
  pub shown : v.clock % 2 ^ 32 ≡ now
  pub blank : (i : ℕ) → IsIn v.awake i → IsOut v.free i × (slice_index_or v.due i None ≡ None)
  pub asleep : (i : ℕ) (s : SlotState) → slice_get slots i ≡ Some s → IsOut v.awake i → Sleeps v i s

-- So it is of all slots but n, to which something came.
pub record KeepsOthers (now n : ℕ) (v : Noted) (slots : List SlotState) : Type 0 where
  pub count : length v.awake ≡ length slots
  pub shown : v.clock % 2 ^ 32 ≡ now
  pub blank : (i : ℕ) → IsIn v.awake i → IsOut v.free i × (slice_index_or v.due i None ≡ None)
  pub asleep : (i : ℕ) (s : SlotState) → i ≢ n → slice_get slots i ≡ Some s → IsOut v.awake i → Sleeps v i s

-- slot i is awake from now on
abbrev pub woken : Noted → ℕ → Noted
woken v i = record v { awake = slice_set v.awake i true; free = slice_set v.free i false; due = slice_set v.due i None }

-- slot i, if there is one, was woken, or is awake as before
abbrev pub Wakes : Noted → ℕ → Noted → Type 0
Wakes v i w = ((i < length v.awake → IsIn v.awake i) × (w ≡ v)) ⊎ ((i < length v.awake) × (w ≡ woken v i))
