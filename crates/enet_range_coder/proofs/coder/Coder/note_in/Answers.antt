use Rattle.std.proofs.Common.{ap, sym, ◌∙◌}
use Rattle.enet_range_coder.specs.Learning.{Noting}
use Rattle.enet_range_coder.proofs.Growing.{noted_has, noted_new}
use Rattle.enet_range_coder.proofs.coder.Coder.note_in.Goals as goal

pub returns-then-has-clause-memory : goal.returns-then-has-clause-memory
returns-then-has-clause-memory c =
    c.count.ensures ∙ sym (ap (λ (n : Noting). n.memory) (noted_has c.args.self.now c.args.context c.args.byte c.before-before.result c.behind-place.result c.before-before.ensures c.behind-place.ensures (sym c.has.ensures ∙ c.if-has.true)))

pub returns-then-has-clause-cell : goal.returns-then-has-clause-cell
returns-then-has-clause-cell c =
    sym (ap (λ (n : Noting). n.cell) (noted_has c.args.self.now c.args.context c.args.byte c.before-before.result c.behind-place.result c.before-before.ensures c.behind-place.ensures (sym c.has.ensures ∙ c.if-has.true)))

pub returns-then-has-clause-is_new : goal.returns-then-has-clause-is_new
returns-then-has-clause-is_new c =
    sym (ap (λ (n : Noting). n.is_new) (noted_has c.args.self.now c.args.context c.args.byte c.before-before.result c.behind-place.result c.before-before.ensures c.behind-place.ensures (sym c.has.ensures ∙ c.if-has.true)))

pub returns-clause-memory : goal.returns-clause-memory
returns-clause-memory c =
    c.plant-cell.ensures.memory ∙ sym (ap (λ (n : Noting). n.memory) (noted_new c.args.self.now c.args.context c.args.byte c.before-before.result c.behind-place.result c.before-before.ensures c.behind-place.ensures (sym c.has.ensures ∙ c.if-has.false)))

pub returns-clause-cell : goal.returns-clause-cell
returns-clause-cell c =
    c.plant-cell.ensures.cell ∙ sym (ap (λ (n : Noting). n.cell) (noted_new c.args.self.now c.args.context c.args.byte c.before-before.result c.behind-place.result c.before-before.ensures c.behind-place.ensures (sym c.has.ensures ∙ c.if-has.false)))

pub returns-clause-is_new : goal.returns-clause-is_new
returns-clause-is_new c =
    sym (ap (λ (n : Noting). n.is_new) (noted_new c.args.self.now c.args.context c.args.byte c.before-before.result c.behind-place.result c.before-before.ensures c.behind-place.ensures (sym c.has.ensures ∙ c.if-has.false)))
