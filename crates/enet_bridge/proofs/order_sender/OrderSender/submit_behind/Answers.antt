use Rattle.enet_submit.specs.Words.{sent}
use Rattle.enet_bridge.proofs.Broadcasts.{asked-more}
use Rattle.enet_bridge.proofs.order_sender.OrderSender.submit_behind.Goals as goal

pub returns-in-Ok-clause-added : goal.returns-in-Ok-clause-added
returns-in-Ok-clause-added g c =
    asked-more (sent c.args.self.now.seat) _ c.args.self.now.waiting.items c.args.self.now.waiting.items _ _ c.args.broadcast c.requires c.requires c.in-Ok.ensures.next.1
