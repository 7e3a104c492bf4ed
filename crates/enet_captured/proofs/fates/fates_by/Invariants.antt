use Rattle.std.proofs.Common.{◌≡◌, ℕ}
use Rattle.std.specs.BTreeMap as tree
use Rattle.std.specs.Option.{unwrap_or}
use Rattle.std.specs.Ordering.{nat_cmp}
use Rattle.enet_captured.specs.Fates.{fate_at, joined, nothing}
use Rattle.enet_captured.proofs.fates.fates_by.Given as goal

-- what is true of the commands so far
abbrev pub invariant-loop-place : goal.invariant-loop-place
invariant-loop-place l = (datagram : ℕ) → unwrap_or (tree.get nat_cmp l.fates datagram) nothing ≡ joined l.marks (fate_at l.marks) datagram l.place
