use Rattle.enet_world.proofs.Joining.{joined-in-range}
use Rattle.enet_world.proofs.hosts.joined_config.Goals as goal

pub returns-clause-in_range : goal.returns-clause-in_range
returns-clause-in_range c = joined-in-range c.args.config.now c.args.other.now c.min.result c.min-2.result c.min.ensures c.min-2.ensures
