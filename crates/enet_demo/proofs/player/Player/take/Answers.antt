use Rattle.std.proofs.Common.{refl}
use Rattle.enet_demo.proofs.More.{plays_on}
use Rattle.enet_demo.proofs.player.Player.take.Goals as goal

pub returns-clause-played : goal.returns-clause-played
returns-clause-played g c = plays_on c.args.self.now _ c.in-Some.numbered c.requires c.in-Some.ensures.taken refl refl
    c.after-self.ensures.peer (c.after-self.ensures.asks c.args.self.now.plan) c.received_after-self.ensures
