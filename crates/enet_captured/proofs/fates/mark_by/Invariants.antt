use Rattle.std.proofs.Common.{◌≡◌, map, take}
use Rattle.enet_captured.specs.Fates.{marked_as}
use Rattle.enet_captured.proofs.fates.mark_by.Given as goal

-- the datagrams so far
abbrev pub invariant-loop-one : goal.invariant-loop-one
invariant-loop-one l = l.found.items ≡ map (marked_as l.fn.marks) (take l.one-index l.seen)
