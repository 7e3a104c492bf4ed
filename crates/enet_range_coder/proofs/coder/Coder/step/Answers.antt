use Rattle.std.proofs.Common.{ap, sym, ◌∙◌}
use Rattle.enet_range_coder.specs.declared.cell.Cell.{Cell}
use Rattle.enet_range_coder.proofs.Growing.{step_full, step_long, step_short}
use Rattle.enet_range_coder.proofs.coder.Coder.step.Goals as goal

pub returns-then-is_full : goal.returns-then-is_full
returns-then-is_full c = c.clear.ensures ∙ step_full c.args.self.now (sym c.is_full.ensures ∙ c.if-is_full.true)

pub returns-then-is_longest : goal.returns-then-is_longest
returns-then-is_longest c = step_long c.args.self.now c.at.result.shorter (sym c.is_full.ensures ∙ c.if-is_full.false) (sym c.is_longest.ensures ∙ c.if-is_longest.true) (ap (λ (x : Cell). x.shorter) c.at.ensures)

pub returns-else-is_longest : goal.returns-else-is_longest
returns-else-is_longest c = step_short c.args.self.now (sym c.is_full.ensures ∙ c.if-is_full.false) (sym c.is_longest.ensures ∙ c.if-is_longest.false)
