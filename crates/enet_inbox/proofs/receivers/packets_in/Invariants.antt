use Rattle.std.proofs.Common.{◌≡◌, take}
use Rattle.enet_inbox.specs.Invariant.{packets_in}
use Rattle.enet_inbox.proofs.receivers.packets_in.Given as goal

abbrev pub invariant-loop-receiver : goal.invariant-loop-receiver
invariant-loop-receiver l = l.packets ≡ packets_in (take l.receiver-index l.receivers)
