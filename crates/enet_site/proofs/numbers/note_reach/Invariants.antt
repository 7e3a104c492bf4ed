use Rattle.std.proofs.Common.{◌≡◌, ◌++◌, map, take, drop}
use Rattle.law_network.specs.Log.{reached}
use Rattle.enet_site.proofs.numbers.note_reach.Given as goal

abbrev pub invariant-loop-mark : goal.invariant-loop-mark
invariant-loop-mark l = l.marks ≡ map (reached l.own l.other) (take l.mark-index l.initial.marks) ++ drop l.mark-index l.initial.marks
