use Rattle.std.proofs.Common.{ap, sym, ◌∙◌}
use Rattle.enet_range_coder.specs.Learning.{Noting}
use Rattle.enet_range_coder.proofs.Growing.{noted_empty, noted_other}
use Rattle.enet_range_coder.proofs.coder.Coder.note.Goals as goal

pub returns-then-context-eq0-clause-memory : goal.returns-then-context-eq0-clause-memory
returns-then-context-eq0-clause-memory c = c.note_root.ensures.memory ∙ sym (ap (λ (n : Noting). n.memory) (noted_empty c.args.self.now c.args.context c.args.byte c.if-context-eq0.true))

pub returns-then-context-eq0-clause-cell : goal.returns-then-context-eq0-clause-cell
returns-then-context-eq0-clause-cell c = c.note_root.ensures.cell ∙ sym (ap (λ (n : Noting). n.cell) (noted_empty c.args.self.now c.args.context c.args.byte c.if-context-eq0.true))

pub returns-then-context-eq0-clause-is_new : goal.returns-then-context-eq0-clause-is_new
returns-then-context-eq0-clause-is_new c = c.note_root.ensures.is_new ∙ sym (ap (λ (n : Noting). n.is_new) (noted_empty c.args.self.now c.args.context c.args.byte c.if-context-eq0.true))

pub returns-else-context-eq0-clause-memory : goal.returns-else-context-eq0-clause-memory
returns-else-context-eq0-clause-memory c = c.note_in.ensures.memory ∙ sym (ap (λ (n : Noting). n.memory) (noted_other c.args.self.now c.args.context c.args.byte c.if-context-eq0.false))

pub returns-else-context-eq0-clause-cell : goal.returns-else-context-eq0-clause-cell
returns-else-context-eq0-clause-cell c = c.note_in.ensures.cell ∙ sym (ap (λ (n : Noting). n.cell) (noted_other c.args.self.now c.args.context c.args.byte c.if-context-eq0.false))

pub returns-else-context-eq0-clause-is_new : goal.returns-else-context-eq0-clause-is_new
returns-else-context-eq0-clause-is_new c = c.note_in.ensures.is_new ∙ sym (ap (λ (n : Noting). n.is_new) (noted_other c.args.self.now c.args.context c.args.byte c.if-context-eq0.false))
