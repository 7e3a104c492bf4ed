-- How much the channels of a peer have queued, or sent and not acknowledged.
use Rattle.std.specs.Prelude.{List, sum_by}
use Rattle.enet_sender.specs.declared.outstanding.Outstanding.{Outstanding}
use Rattle.enet_sender.specs.Due.{SendingEnd}
use Rattle.enet_sender.specs.Outstanding.{outstanding_commands, outstanding_bytes}

abbrev pub outstanding_over : List SendingEnd → Outstanding
outstanding_over senders = record {
  commands = sum_by (λ (s : SendingEnd). outstanding_commands s.sender) senders;
  bytes = sum_by (λ (s : SendingEnd). outstanding_bytes s.sender) senders;
}
