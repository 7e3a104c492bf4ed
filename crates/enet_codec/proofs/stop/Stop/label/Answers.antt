use Rattle.std.proofs.Common.{rules}
use Rattle.enet_codec.proofs.stop.Stop.label.Goals as goal

pub returns-in-Waiting : goal.returns-in-Waiting
returns-in-Waiting c = search rules
