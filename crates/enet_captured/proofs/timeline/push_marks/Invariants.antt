use Rattle.std.proofs.Common.{◌≡◌, ◌++◌, map, take}
use Rattle.enet_captured.specs.Private.Timelines.{mark_of}
use Rattle.enet_captured.proofs.timeline.push_marks.Given as goal

-- so far each command is put behind those that were there
abbrev pub invariant-loop-one : goal.invariant-loop-one
invariant-loop-one l = l.marks.items ≡ l.initial.marks.items ++ map (mark_of l.datagram l.connection l.way l.at l.sent) (take l.one-index l.told)
