use Rattle.std.proofs.Common.{ℕ, ◌+◌, ◌-◌, ◌*◌, ◌/◌, ◌≤◌, ◌<◌, arith, rules}
use Rattle.enet_fragment.proofs.Cuts.{at-least}
use Rattle.enet_fragment.specs.Cutting.{piece_length}
use Rattle.enet_fragment.proofs.cutting.plan.Goals as goal
use Rattle.enet_fragment.proofs.cutting.plan.Goals.{then-len-eq0, else-len-eq0}

-- so many pieces have room for all bytes
enough : (len piece : ℕ) → 0 < piece → len ≤ ((len - 1) / piece + 1) * piece
enough len piece h = omega arith

pub returns-then-count-clause-enough : goal.returns-then-count-clause-enough
returns-then-count-clause-enough c =
    elim c.if-len-eq0.branch [ then-len-eq0 w ↦ omega arith | else-len-eq0 w ↦ rw (w.count-is, c.piece_length-cut.ensures) (enough c.args.len (piece_length c.args.mtu) (omega (arith, at-least c.args.mtu))) ]

pub returns-else-count-clause-none : goal.returns-else-count-clause-none
returns-else-count-clause-none c = search rules
