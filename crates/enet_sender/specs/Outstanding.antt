-- How much a channel has queued, or sent and not acknowledged: how many commands, and the bytes of their payloads.
use Rattle.std.specs.Prelude.{ℕ, ◌+◌, length, sum_by}
use Rattle.slab.specs.Slab.{Slab, slab_len}
use Rattle.enet_fragment.specs.declared.data.DataCommand.{DataCommand}
use Rattle.enet_sender.specs.declared.outstanding.Outstanding.{Outstanding}
use Rattle.enet_sender.specs.declared.sent.Sent.{Sent}
use Rattle.enet_sender.specs.Late.{sum_at}
use Rattle.enet_sender.specs.Sender.{Sender}

abbrev pub payload : Sent → ℕ
payload p = length p.command.body

abbrev pub outstanding_commands : Sender → ℕ
outstanding_commands s = length s.queued + length s.sent

abbrev pub outstanding_bytes : Sender → ℕ
outstanding_bytes s = sum_by (λ (c : DataCommand). length c.body) s.queued + sum_by payload s.sent

-- the same of all commands of a peer, by their keys
abbrev pub outstanding_at : Slab Sent → Outstanding
outstanding_at s = record { commands = slab_len s; bytes = sum_at payload s.slots }
