-- When one command is late first, as its moment is reckoned anew, and moments that are past.
use Rattle.std.specs.Prelude.{◌≡◌, ℕ, ◌+◌, ◌^◌, ◌<◌, ◌≤◌, false, List, Option, Some}
use Rattle.enet_rtt.specs.Clock.{elapsed_time}
use Rattle.enet_deadlines.specs.Moments.{IsAt, IsNotDue}
use Rattle.enet_sender.specs.declared.sent.Sent.{Sent}

-- the clock showing `now` at `clock`, the command under a key is late first at this moment
pub record IsLateAt (at : ℕ → Option Sent) (key clock now moment : ℕ) : Type 0 where
  pub command : Sent
  pub there : at key ≡ Some command
  pub waits : command.transmission.due ≡ false
  pub fits : command.transmission.timeout < 2 ^ 32
  pub low : command.transmission.last < 2 ^ 32
  pub is : moment + elapsed_time now command.transmission.last ≡ clock + command.transmission.timeout

-- no moment that is noted is past
abbrev pub NonePast : ℕ → List (Option ℕ) → Type 0
NonePast clock moments = (key : ℕ) → IsNotDue clock moments key

-- a command that waits went 2^32 milliseconds ago or more, by the moment that is noted for its key
pub record IsOvertaken (clock : ℕ) (at : ℕ → Option Sent) (moments : List (Option ℕ)) : Type 0 where
  pub key : ℕ
  pub command : Sent
  pub there : at key ≡ Some command
  pub went : ℕ
  pub noted : IsAt moments key (went + command.transmission.timeout)
  pub long : went + 2 ^ 32 ≤ clock
