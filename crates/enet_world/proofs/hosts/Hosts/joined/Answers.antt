use Rattle.std.proofs.Common.{◌∙◌}
use Rattle.std.proofs.Math.Bool.{and_comm}
use Rattle.enet_codec.specs.Config.{is_in_range}
use Rattle.enet_world.proofs.hosts.Hosts.joined.Goals as goal

pub returns-in-Err-clause-memory : goal.returns-in-Err-clause-memory
returns-in-Err-clause-memory c = c.in-Err.ensures.in_range (c.joined_config-2.ensures.in_range (and_comm (is_in_range c.args.b) (is_in_range c.args.a) ∙ c.requires))
