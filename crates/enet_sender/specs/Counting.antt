-- How many of the commands that are sent and not acknowledged were sent again.
use Rattle.std.specs.Prelude.{ℕ, ◌+◌, min, Bool, nat_lt}
use Rattle.std.specs.List.{count_by}
use Rattle.enet_sender.specs.declared.sent.Sent.{Sent}
use Rattle.enet_sender.specs.Sender.{Sender}

-- sent more than once
abbrev pub is_sent_again : Sent → Bool
is_sent_again p = nat_lt 1 p.transmission.attempts

abbrev pub count_sent_again : Sender → ℕ
count_sent_again s = count_by is_sent_again s.sent

-- the greatest number of 64 bits, where counts stop
abbrev pub greatest_count : ℕ
greatest_count = 18446744073709551615

abbrev pub added : ℕ → ℕ → ℕ
added count n = min (count + n) greatest_count
