use Rattle.std.proofs.Common.{rules}
use Rattle.enet_slot.proofs.slot.Slot.refused_by.Goals as goal

pub returns-then-session-terms : goal.returns-then-session-terms
returns-then-session-terms c = search rules

pub returns : goal.returns
returns c = search rules
