use Rattle.std.proofs.Common.{◌≡◌, ◌++◌, map, take, drop}
use Rattle.enet_inbox.specs.Inbox.{given_way_receiver}
use Rattle.enet_inbox.proofs.receivers.give_way.Given as goal

abbrev pub invariant-loop-channel : goal.invariant-loop-channel
invariant-loop-channel l = l.receivers.items ≡ map given_way_receiver (take l.channel l.initial.receivers.items) ++ drop l.channel l.initial.receivers.items
