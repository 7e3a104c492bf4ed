use Rattle.std.proofs.Common.{◌≡◌, take}
use Rattle.enet_inbox.specs.Private.Invariant.{waiting_packets_in}
use Rattle.enet_inbox.proofs.receivers.waiting_packets_in.Given as goal

abbrev pub invariant-loop-receiver : goal.invariant-loop-receiver
invariant-loop-receiver l = l.waiting ≡ waiting_packets_in (take l.receiver-index l.receivers)
