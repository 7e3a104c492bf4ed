use Rattle.enet_codec.proofs.Joins.{◌▸◌}
use Rattle.enet_codec.proofs.write.put_two_u16.Goals as goal

pub returns-clause-puts : goal.returns-clause-puts
returns-clause-puts c = c.put_u16-at.ensures.puts ▸ c.put_u16.ensures.puts
