use Rattle.std.proofs.Common.{rules, ◌∙◌}
use Rattle.enet_slot.proofs.slot.Slot.let_go.Goals as goal

pub returns : goal.returns
returns c = c.vacate.ensures ∙ (search rules)
