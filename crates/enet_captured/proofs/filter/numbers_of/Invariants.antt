use Rattle.std.proofs.Common.{take}
use Rattle.enet_captured.specs.Private.Numbers.{AreOn}
use Rattle.enet_captured.proofs.filter.numbers_of.Given as goal

-- the numbers of the commands so far
abbrev pub invariant-loop-place : goal.invariant-loop-place
invariant-loop-place l = AreOn l.channel (take l.place l.marks) l.numbers
