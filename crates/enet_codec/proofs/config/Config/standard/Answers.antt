use Rattle.std.proofs.Common.{rules}
use Rattle.enet_codec.proofs.config.Config.standard.Goals as goal

pub returns : goal.returns
returns c = search rules
