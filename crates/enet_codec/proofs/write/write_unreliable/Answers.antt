use Rattle.enet_codec.proofs.Joins.{◌▸◌}
use Rattle.enet_codec.proofs.write.write_unreliable.Goals as goal

pub returns-clause-written : goal.returns-clause-written
returns-clause-written c = c.put_head-at.ensures.puts ▸ c.put_two_u16-at.ensures.puts ▸ c.put.ensures
