use Rattle.std.proofs.Common.{◌≡◌, ◌+◌, length, take}
use Rattle.enet_codec.specs.Outward.{errands_for}
use Rattle.enet_submit.proofs.broadcast.count_for.Given as goal

abbrev pub invariant-loop-packet : goal.invariant-loop-packet
invariant-loop-packet l = l.all ≡ l.before + length (errands_for (take l.packet-index l.packets) l.peer)
