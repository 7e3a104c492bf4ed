use Rattle.std.proofs.Common.{◌≡◌, filter, take}
use Rattle.enet_captured.specs.Filters.{seen_passes}
use Rattle.enet_captured.proofs.filter.seen_passing.Given as goal

-- what passes of the datagrams so far
abbrev pub invariant-loop-place : goal.invariant-loop-place
invariant-loop-place l = l.found.items ≡ filter (seen_passes l.asked l.begun l.marks) (take l.place l.seen)
