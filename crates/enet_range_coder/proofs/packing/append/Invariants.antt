use Rattle.std.proofs.Common.{◌≡◌, ◌+◌, ◌++◌, take}
use Rattle.enet_range_coder.proofs.packing.append.Given as goal

abbrev pub invariant-loop-i : goal.invariant-loop-i
invariant-loop-i l = take (l.at + l.i) l.out ≡ take l.at l.fn.out ++ take l.i l.coded.bytes
