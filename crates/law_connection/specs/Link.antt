-- What stands in the logs of a channel, with unbounded numbers, and what is late.
use Rattle.std.specs.Prelude.{ℕ, Bool, ◌+◌, ◌-◌, ◌%◌, nat_lt, if◌then◌else◌}
use Rattle.std.specs.Option.{option_map}
use Rattle.enet_codec.specs.declared.command.Fragment.{Fragment}
use Rattle.enet_fragment.specs.declared.data.DataCommand.{DataCommand}

-- a command that was put out: `sent_then` is the greatest number sent just after its datagram
pub record PutOut : Type 0 where
  pub command : DataCommand
  pub sent_then : ℕ

-- an acknowledgement: `sent_then` is the greatest number sent when its command came, or just after it was put out itself
pub record Answer : Type 0 where
  pub number : ℕ
  pub sent_then : ℕ

-- a command as a datagram has it
abbrev pub wired_fragment : Bool → Fragment → Fragment
wired_fragment reliable f = record { start = if reliable then f.start % 65536 else f.start; count = f.count; number = f.number; total = f.total; offset = f.offset }

abbrev pub wired : DataCommand → DataCommand
wired c = record { reliable = c.reliable; number = c.number % 65536; unreliable = c.unreliable; fragment = option_map (wired_fragment c.reliable) c.fragment; body = c.body }

-- the greatest number that has this wire number and is at most `sent_then`
abbrev pub number_below : ℕ → ℕ → ℕ
number_below sent_then number = sent_then - (sent_then + 65536 - number) % 65536

-- more than 32,768 late: `sent` is the greatest number sent by now
abbrev pub is_late : ℕ → ℕ → ℕ → Bool
is_late sent sent_then number = nat_lt 32768 (sent - number_below sent_then number)
