use Rattle.std.proofs.Common.{sym, ◌∙◌}
use Rattle.enet_range_coder.proofs.Growing.{root_halves, root_stays}
use Rattle.enet_range_coder.proofs.root.weigh_root.Goals as goal

pub returns-then-is_heavy_root : goal.returns-then-is_heavy_root
returns-then-is_heavy_root c = root_halves c.args.weights.now c.halve_root.new.weights c.args.byte c.saturating_add-up.result (sym c.is_heavy_root.ensures ∙ c.if-is_heavy_root.true) c.saturating_add-up.ensures c.halve_root.ensures

pub returns-else-is_heavy_root : goal.returns-else-is_heavy_root
returns-else-is_heavy_root c = root_stays c.args.weights.now c.args.byte c.saturating_add-up.result (sym c.is_heavy_root.ensures ∙ c.if-is_heavy_root.false) c.saturating_add-up.ensures
