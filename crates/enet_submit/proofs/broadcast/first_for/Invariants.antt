use Rattle.std.proofs.Common.{◌≡◌, ◌-◌, length, drop}
use Rattle.enet_codec.specs.Outward.{errands_for}
use Rattle.enet_submit.proofs.broadcast.first_for.Given as goal

abbrev pub invariant-loop-at : goal.invariant-loop-at
invariant-loop-at l = errands_for (drop l.fn.from l.packets) l.peer ≡ errands_for (drop l.at l.packets) l.peer

abbrev pub decreases-loop-at : goal.decreases-loop-at
decreases-loop-at l = length l.packets - l.at
