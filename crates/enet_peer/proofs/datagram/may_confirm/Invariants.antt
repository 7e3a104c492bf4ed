use Rattle.std.proofs.Common.{length}
use Rattle.enet_peer.proofs.Unconfirmed.{ComesAlike}
use Rattle.enet_peer.proofs.datagram.may_confirm.Given as goal

-- if what is left comes alike then all does
abbrev pub invariant-loop-command : goal.invariant-loop-command
invariant-loop-command l = ComesAlike l.peer.peer l.rest → ComesAlike l.peer.peer l.commands

abbrev pub decreases-loop-command : goal.decreases-loop-command
decreases-loop-command l = length l.rest
