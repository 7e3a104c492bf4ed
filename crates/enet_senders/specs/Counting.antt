-- How many of a peer's commands that are sent and not acknowledged were sent again.
use Rattle.std.specs.Prelude.{ℕ, Bool, nat_lt, List, sum_by}
use Rattle.std.specs.List.{count_by}
use Rattle.enet_sender.specs.Counting.{count_sent_again}
use Rattle.enet_sender.specs.Due.{SendingEnd}
use Rattle.enet_senders.specs.declared.control.SentControl.{SentControl}
use Rattle.enet_senders.specs.Controlling.{Commands}

-- of channel 0xFF
abbrev pub is_sent_again : SentControl → Bool
is_sent_again p = nat_lt 1 p.transmission.attempts

abbrev pub count_control : Commands → ℕ
count_control c = count_by is_sent_again c.sent

-- of the other channels
abbrev pub count_on : SendingEnd → ℕ
count_on s = count_sent_again s.sender

abbrev pub count_over : List SendingEnd → ℕ
count_over senders = sum_by count_on senders
