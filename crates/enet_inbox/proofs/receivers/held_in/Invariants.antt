use Rattle.std.proofs.Common.{◌≡◌, take}
use Rattle.enet_inbox.specs.Private.Invariant.{held_in}
use Rattle.enet_inbox.proofs.receivers.held_in.Given as goal

abbrev pub invariant-loop-receiver : goal.invariant-loop-receiver
invariant-loop-receiver l = l.held ≡ held_in (take l.receiver-index l.receivers)
