use Rattle.std.proofs.Common.{◌+◌, ◌≤◌, ℕ, Bool, List, get_or, set, false, sym, ap, subst, ◌∙◌, arith}
use Rattle.enet_receiver.specs.Blocks.{KeepsBlock}
use Rattle.enet_receiver.proofs.Marks.{one_more_missing}
use Rattle.enet_receiver.proofs.block.Block.unmark.Goals as goal

pub overflow_add-self : goal.overflow_add-self
overflow_add-self c =
    let more : c.self.inside.missing + 1 ≤ 4096 = (one_more_missing c.self.inside.marks c.self.inside.missing c.args.i c.self.invariant
    (ap (λ (j : ℕ). get_or c.self.inside.marks j false) (sym c.from.ensures) ∙ sym c.has.ensures ∙ c.if-has.true)).0 in
    omega arith

pub invariant_of-self : goal.invariant_of-self
invariant_of-self c =
    subst (λ (marks : List Bool). KeepsBlock marks (c.self.inside.missing + 1)) (sym (c.unmark.ensures ∙ ap (λ (j : ℕ). set c.self.inside.marks j false) c.from-then-has.ensures))
    ((one_more_missing c.self.inside.marks c.self.inside.missing c.args.i c.self.invariant
    (ap (λ (j : ℕ). get_or c.self.inside.marks j false) (sym c.from.ensures) ∙ sym c.has.ensures ∙ c.if-has.true)).1)
