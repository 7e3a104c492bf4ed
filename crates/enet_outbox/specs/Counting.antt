-- How many of a peer's commands that are sent and not acknowledged were sent again, those of channel 0xFF among them.
use Rattle.std.specs.Prelude.{ℕ, ◌+◌}
use Rattle.enet_senders.specs.Counting.{count_control, count_over}
use Rattle.enet_outbox.specs.Outbox.{Outbox}

abbrev pub count_in : Outbox → ℕ
count_in o = count_control o.control + count_over o.senders
