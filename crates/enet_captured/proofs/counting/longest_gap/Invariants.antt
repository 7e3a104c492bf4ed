use Rattle.enet_captured.specs.Gaps.{IsLongestOf}
use Rattle.enet_captured.proofs.counting.longest_gap.Given as goal

-- the longest of the gaps so far
abbrev pub invariant-loop-place : goal.invariant-loop-place
invariant-loop-place l = IsLongestOf l.seen l.place l.longest
