use Rattle.std.proofs.Common.{ℕ, ◌-◌, take, length}
use Rattle.std.specs.List.{list_any}
use Rattle.enet_rtt.specs.Clock.{HappensIn}
use Rattle.enet_sender.specs.Sender.{is_late}
use Rattle.enet_sender.specs.Due.{SendingEnd}
use Rattle.enet_senders.specs.Senders.{ends_in}
use Rattle.enet_senders.proofs.senders.look_for_late.Given as goal

abbrev pub invariant-channels : goal.invariant-channels
invariant-channels l = HappensIn (λ (later : ℕ). list_any (λ (s : SendingEnd). list_any (is_late later) s.sender.sent) (take l.place (ends_in l.pending l.channels))) l.now l.wait

abbrev pub decreases-channels : goal.decreases-channels
decreases-channels l = length l.channels - l.place
