use Rattle.std.proofs.Common.{rules}
use Rattle.enet_slot.proofs.all.share_out.Goals as goal

pub returns-clause-slots : goal.returns-clause-slots
returns-clause-slots c = search rules
