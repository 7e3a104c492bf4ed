use Rattle.std.proofs.Common.{◌-◌, ℕ, Bool, List, get_or, set, true, false, sym, ap, subst, ◌∙◌}
use Rattle.enet_receiver.specs.Blocks.{KeepsBlock}
use Rattle.enet_receiver.proofs.Marks.{one_missing}
use Rattle.enet_receiver.proofs.block.Block.mark.Goals as goal

pub overflow_sub-self : goal.overflow_sub-self
overflow_sub-self c =
    (one_missing c.self.inside.marks c.self.inside.missing c.args.i c.has.result c.self.invariant c.requires (c.has.ensures ∙ ap (λ (j : ℕ). get_or c.self.inside.marks j false) c.from.ensures) c.if-not-has.true).0

pub invariant_of-self : goal.invariant_of-self
invariant_of-self c =
    subst (λ (marks : List Bool). KeepsBlock marks (c.self.inside.missing - 1)) (sym (c.mark.ensures ∙ ap (λ (j : ℕ). set c.self.inside.marks j true) c.from-then-not-has.ensures))
    ((one_missing c.self.inside.marks c.self.inside.missing c.args.i c.has.result c.self.invariant c.requires (c.has.ensures ∙ ap (λ (j : ℕ). get_or c.self.inside.marks j false) c.from.ensures) c.if-not-has.true).1)
