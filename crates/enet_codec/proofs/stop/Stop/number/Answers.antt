use Rattle.std.proofs.Common.{rules}
use Rattle.enet_codec.proofs.stop.Stop.number.Goals as goal

pub returns-in-BadCommand : goal.returns-in-BadCommand
returns-in-BadCommand c = search rules
