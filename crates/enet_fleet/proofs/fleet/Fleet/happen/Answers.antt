use Rattle.enet_fleet.proofs.Reaching.{reached-step}
use Rattle.enet_fleet.proofs.fleet.Fleet.happen.Goals as goal

pub invariant_of-self : goal.invariant_of-self
invariant_of-self c = reached-step c.self.inside.hosts c.happen.new.hosts c.args.event.now c.happen.result c.self.invariant c.happen.ensures
