use Rattle.std.proofs.Common.{rules}
use Rattle.enet_chat.proofs.relay.relay_step.Goals as goal

pub returns-clause-orders : goal.returns-clause-orders
returns-clause-orders c = search rules
