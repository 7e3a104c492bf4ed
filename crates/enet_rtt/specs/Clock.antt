-- The clock counts milliseconds modulo 2^32.
use Rattle.std.specs.Prelude.{◌≡◌, ℕ, ◌+◌, ◌-◌, ◌%◌, ◌^◌, ◌<◌, ◌≤◌, ◌↔◌, max, min, Bool, true, false}

-- From the moment `since` until now.
abbrev pub elapsed_time : ℕ → ℕ → ℕ
elapsed_time now since = (now + 2 ^ 32 - since) % 2 ^ 32

-- From the later of two moments until now: the lesser of the times since either.
abbrev pub since_later : ℕ → ℕ → ℕ → ℕ
since_later now a b = min (elapsed_time now a) (elapsed_time now b)

-- Moment a is earlier than moment b: a is a day or more after b, on a clock that wraps.
abbrev pub IsEarlier : ℕ → ℕ → Type 0
IsEarlier a b = 86400000 ≤ elapsed_time a b

-- The round trip that an acknowledgement shows, from the sent time of 16 bits that it repeats: at least 1.
abbrev pub sample_of : ℕ → ℕ → ℕ
sample_of now sent = max 1 ((now + 2 ^ 16 - sent) % 2 ^ 16)

-- The sent time of 16 bits that a datagram tells at a moment, of a peer that adds so much to its times.
abbrev pub told_time : ℕ → ℕ → ℕ
told_time now offset = (now + offset) % 2 ^ 16

-- What a told time stands for, of a peer that adds so much to its times.
abbrev pub meant_time : ℕ → ℕ → ℕ
meant_time told offset = (told + 2 ^ 16 - offset) % 2 ^ 16

-- It stands for the moment at which it was told.
abbrev pub ShowsToldTime : Type 0
ShowsToldTime = (now offset : ℕ) → offset < 2 ^ 16 → meant_time (told_time now offset) offset ≡ now % 2 ^ 16

-- For times that don't wrap, of which the clock shows the remainders: the time that has passed is shown rightly where it
-- is less than 2^32 ms.
abbrev pub ShowsElapsedTime : Type 0
ShowsElapsedTime = (since now : ℕ) → since ≤ now → now < since + 2 ^ 32 → elapsed_time (now % 2 ^ 32) (since % 2 ^ 32) ≡ now - since

-- And of two moments less than a day apart it is told rightly whether the one is earlier.
abbrev pub TellsEarlier : Type 0
TellsEarlier =
    (a b : ℕ) → a < b + 86400000 → b < a + 86400000 → IsEarlier (a % 2 ^ 32) (b % 2 ^ 32) ↔ (a < b)

-- From the moment `now` on it first happens after so many milliseconds: at no moment before, and then. The greatest number of 32
-- bits says no more than that it does not happen before.
pub record HappensIn (happens : ℕ → Bool) (now wait : ℕ) : Type 0 where
  pub before : (later : ℕ) → later < 2 ^ 32 → elapsed_time later now < wait → happens later ≡ false
  pub first : wait < 4294967295 → (later : ℕ) → later < 2 ^ 32 → elapsed_time later now ≡ wait → happens later ≡ true
