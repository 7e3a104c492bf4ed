use Rattle.enet_codec.specs.Config.{is_in_range}
use Rattle.law_connection.proofs.Runs.{and-right}
use Rattle.enet_world.proofs.hosts.Hosts.open.Goals as goal

pub returns-in-Err-clause-memory : goal.returns-in-Err-clause-memory
returns-in-Err-clause-memory c = c.in-Err.ensures.in_range (and-right (is_in_range c.args.a) (is_in_range c.args.b) c.requires)
