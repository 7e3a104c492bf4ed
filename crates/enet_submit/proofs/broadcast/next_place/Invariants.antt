use Rattle.std.proofs.Common.{◌≡◌, ◌-◌, length, drop}
use Rattle.enet_submit.specs.Broadcast.{errands_from}
use Rattle.enet_submit.proofs.broadcast.next_place.Given as goal

abbrev pub invariant-loop-at : goal.invariant-loop-at
invariant-loop-at l = errands_from (drop l.fn.peer l.peers) l.packets l.fn.packet ≡ errands_from (drop l.at l.peers) l.packets l.from

abbrev pub decreases-loop-at : goal.decreases-loop-at
decreases-loop-at l = length l.peers - l.at
