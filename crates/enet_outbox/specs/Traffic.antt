-- How many of a peer's data commands that ask for an acknowledgement went, for the first time or again, and how many were acknowledged. Each
-- count is modulo 2^64. Commands of channel 0xFF don't count.
use Rattle.std.specs.Prelude.{ℕ, ◌+◌, ◌%◌, ◌^◌, Bool, if◌then◌else◌, Option, Some, None}
use Rattle.enet_sender.specs.declared.outgoing.Acknowledged.{Acknowledged}
use Rattle.enet_outbox.specs.declared.traffic.Traffic.{Traffic}

-- at first
abbrev pub no_traffic : Traffic
no_traffic = record { sent = 0; again = 0; acknowledged = 0 }

abbrev pub one_more : ℕ → ℕ
one_more n = (n + 1) % 2 ^ 64

-- a command went, for the first time or again
abbrev pub with_one_sent : Traffic → Bool → Traffic
with_one_sent t again = record t { sent = one_more t.sent; again = if again then one_more t.again else t.again }

-- a command was acknowledged
abbrev pub with_acknowledged : Traffic → Traffic
with_acknowledged t = record t { acknowledged = one_more t.acknowledged }

-- where the acknowledgement matches no data command they stay
abbrev pub after_match : Traffic → Option Acknowledged → Traffic
after_match t None = t
after_match t (Some told) = with_acknowledged t
