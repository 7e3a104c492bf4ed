use Rattle.std.proofs.Common.{ap, sym}
use Rattle.enet_range_coder.specs.Learning.{Noting}
use Rattle.enet_range_coder.proofs.Growing.{root_has, root_new}
use Rattle.enet_range_coder.proofs.coder.Coder.note_root.Goals as goal

pub returns-then-cell-ne0-clause-memory : goal.returns-then-cell-ne0-clause-memory
returns-then-cell-ne0-clause-memory c = sym (ap (λ (n : Noting). n.memory) (root_has c.args.self.now c.args.byte c.weigh_root.new.weights c.weigh_root.ensures c.if-cell-ne0.true))

pub returns-then-cell-ne0-clause-cell : goal.returns-then-cell-ne0-clause-cell
returns-then-cell-ne0-clause-cell c = sym (ap (λ (n : Noting). n.cell) (root_has c.args.self.now c.args.byte c.weigh_root.new.weights c.weigh_root.ensures c.if-cell-ne0.true))

pub returns-then-cell-ne0-clause-is_new : goal.returns-then-cell-ne0-clause-is_new
returns-then-cell-ne0-clause-is_new c = sym (ap (λ (n : Noting). n.is_new) (root_has c.args.self.now c.args.byte c.weigh_root.new.weights c.weigh_root.ensures c.if-cell-ne0.true))

pub returns-clause-memory : goal.returns-clause-memory
returns-clause-memory c = sym (ap (λ (n : Noting). n.memory) (root_new c.args.self.now c.add-cell.new.self c.args.byte c.add-cell.result c.weigh_root.new.weights c.fresh.result c.weigh_root.ensures c.if-cell-ne0.false c.fresh.ensures c.add-cell.ensures.memory c.add-cell.ensures.cell))

pub returns-clause-cell : goal.returns-clause-cell
returns-clause-cell c = sym (ap (λ (n : Noting). n.cell) (root_new c.args.self.now c.add-cell.new.self c.args.byte c.add-cell.result c.weigh_root.new.weights c.fresh.result c.weigh_root.ensures c.if-cell-ne0.false c.fresh.ensures c.add-cell.ensures.memory c.add-cell.ensures.cell))

pub returns-clause-is_new : goal.returns-clause-is_new
returns-clause-is_new c = sym (ap (λ (n : Noting). n.is_new) (root_new c.args.self.now c.add-cell.new.self c.args.byte c.add-cell.result c.weigh_root.new.weights c.fresh.result c.weigh_root.ensures c.if-cell-ne0.false c.fresh.ensures c.add-cell.ensures.memory c.add-cell.ensures.cell))
