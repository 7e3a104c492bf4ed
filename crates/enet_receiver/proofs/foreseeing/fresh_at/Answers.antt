use Rattle.std.proofs.Common.{rules}
use Rattle.enet_receiver.proofs.foreseeing.fresh_at.Goals as goal

pub returns-clause-count : goal.returns-clause-count
returns-clause-count c = search rules
