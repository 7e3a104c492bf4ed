use Rattle.std.proofs.Common.{rules}
use Rattle.enet_slot.proofs.slot.Slot.reserve.Goals as goal

pub returns-clause-wanted : goal.returns-clause-wanted
returns-clause-wanted c = search rules
