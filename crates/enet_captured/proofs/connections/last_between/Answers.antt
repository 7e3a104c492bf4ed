use Rattle.std.proofs.Common.{◌+◌, ℕ, Option, sym, subst, ◌∙◌}
use Rattle.enet_captured.specs.Private.Belonging.{IsLast, is_between_at}
use Rattle.enet_captured.proofs.CountLemmas.{at_read, last_before, last_here}
use Rattle.enet_captured.proofs.connections.last_between.Goals as goal
use Rattle.enet_captured.proofs.connections.last_between.Goals.{then-is_between, else-is_between}

pub loop-i-preserved : goal.loop-i-preserved
loop-i-preserved c =
    let l = c.loop-i in
    let found_at = at_read c.args.connections.now c.args.from c.args.to l.i _ c.loop-i-test.true ∙ sym c.is_between.ensures in
    elim c.if-is_between.branch [
      | then-is_between w ↦ subst (λ (f : Option ℕ). IsLast (is_between_at c.args.connections.now c.args.from c.args.to) (l.i + 1) f) (sym w.found-is)
          (last_here _ l.i (found_at ∙ w.if-is_between.true))
      | else-is_between w ↦ subst (λ (f : Option ℕ). IsLast (is_between_at c.args.connections.now c.args.from c.args.to) (l.i + 1) f) (sym w.found-is)
          (last_before _ l.i l.found (found_at ∙ w.if-is_between.false) l.invariant)
    ]
