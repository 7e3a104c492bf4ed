use Rattle.std.proofs.Common.{rules}
use Rattle.enet_bridge.proofs.order_sender.OrderSender.into_parts.Goals as goal

pub returns-clause-all : goal.returns-clause-all
returns-clause-all c = search rules

pub returns-clause-waits : goal.returns-clause-waits
returns-clause-waits c = search rules
