use Rattle.std.proofs.Common.{rules}
use Rattle.enet_service.proofs.queues.Queues.open.Goals as goal

pub returns-clause-new : goal.returns-clause-new
returns-clause-new c = search rules
