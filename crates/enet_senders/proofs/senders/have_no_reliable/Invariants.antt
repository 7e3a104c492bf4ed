use Rattle.std.proofs.Common.{◌≡◌, ◌-◌, true, not, length, take}
use Rattle.std.specs.List.{list_all}
use Rattle.enet_sender.specs.Sender.{left}
use Rattle.enet_sender.specs.Due.{SendingEnd}
use Rattle.enet_senders.specs.Senders.{ends_in}
use Rattle.enet_senders.proofs.senders.have_no_reliable.Given as goal

abbrev pub invariant-channels : goal.invariant-channels
invariant-channels l = list_all (λ (s : SendingEnd). not (left s.sender).reliable) (take l.place (ends_in l.pending l.channels)) ≡ true

abbrev pub decreases-channels : goal.decreases-channels
decreases-channels l = length l.channels - l.place
