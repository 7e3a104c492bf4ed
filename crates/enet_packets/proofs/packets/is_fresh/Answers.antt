use Rattle.std.proofs.Common.{rules}
use Rattle.enet_packets.proofs.packets.is_fresh.Goals as goal

pub returns-then-is_whole : goal.returns-then-is_whole
returns-then-is_whole c = search rules
