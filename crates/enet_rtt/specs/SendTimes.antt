-- When a command was sent, by the 16 bits of the clock that a datagram tells.
use Rattle.std.specs.Prelude.{ℕ, ◌+◌, ◌%◌, ◌^◌, ◌==◌, Bool, List, min, replicate, take, slice_set}
use Rattle.std.specs.List.{list_any}
use Rattle.enet_rtt.specs.declared.send_times.SendTimes.{SendTimes}

-- Of a command that wasn't sent.
abbrev pub no_sends : SendTimes
no_sends = record { times = replicate 8 0; count = 0 }

-- It was sent once more: the first seven moments are kept, and the last.
abbrev pub with_send : ℕ → SendTimes → SendTimes
with_send now s = record { times = slice_set s.times (min s.count 7) (now % 2 ^ 16); count = min s.count 7 + 1 }

-- It was sent at this time.
abbrev pub has_time : ℕ → SendTimes → Bool
has_time time s = list_any (λ (t : ℕ). t == time) (take s.count s.times)
