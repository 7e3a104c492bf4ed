use Rattle.enet_captured.specs.Private.Belonging.{IsLast, is_between_at}
use Rattle.enet_captured.proofs.connections.last_between.Given as goal

-- the last one so far
abbrev pub invariant-loop-i : goal.invariant-loop-i
invariant-loop-i l = IsLast (is_between_at l.connections l.from l.to) l.i l.found
