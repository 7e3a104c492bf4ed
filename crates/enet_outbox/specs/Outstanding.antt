-- How much a peer has queued, or sent and not acknowledged, and when that is as much as may be. Commands of channel 0xFF and
-- acknowledgements don't count.
use Rattle.std.specs.Prelude.{ℕ, ◌+◌, min, ◌&&◌, ◌||◌, Bool, false, nat_lt, nat_le, Option, Some, None, List, length, sum_by}
use Rattle.enet_sender.specs.Counting.{greatest_count}
use Rattle.enet_sender.specs.declared.outstanding.Outstanding.{Outstanding}
use Rattle.enet_senders.specs.Outstanding.{outstanding_over}
use Rattle.enet_outbox.specs.declared.parts.SendLimit.{SendLimit}
use Rattle.enet_outbox.specs.declared.parts.Unsequenced.{Unsequenced}
use Rattle.enet_outbox.specs.Outbox.{Outbox}

abbrev pub bytes_waiting : List Unsequenced → ℕ
bytes_waiting packets = sum_by (λ (u : Unsequenced). length u.body) packets

-- the commands of its channels and its unsequenced packets, and their payloads
abbrev pub outstanding_of : Outbox → Outstanding
outstanding_of o = record {
  commands = (outstanding_over o.senders).commands + length o.unsequenced;
  bytes = (outstanding_over o.senders).bytes + bytes_waiting o.unsequenced;
}

-- as it is told: each number stops at the greatest one
abbrev pub capped : Outstanding → Outstanding
capped there = record { commands = min there.commands greatest_count; bytes = min there.bytes greatest_count }

-- something is there, and it has as many bytes or commands as the limit, or more
abbrev pub reaches : SendLimit → Outstanding → Bool
reaches limit there = nat_lt 0 there.commands && (nat_le limit.bytes there.bytes || nat_le limit.commands there.commands)

-- whether a peer is full; never where there is no limit
abbrev pub is_full : Option SendLimit → Outbox → Bool
is_full None o = false
is_full (Some limit) o = reaches limit (outstanding_of o)
