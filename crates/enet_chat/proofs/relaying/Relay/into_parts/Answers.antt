use Rattle.std.proofs.Common.{rules}
use Rattle.enet_chat.proofs.relaying.Relay.into_parts.Goals as goal

pub returns-clause-orders : goal.returns-clause-orders
returns-clause-orders c = search rules

pub returns-clause-waits : goal.returns-clause-waits
returns-clause-waits c = search rules
