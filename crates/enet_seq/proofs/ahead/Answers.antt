use Rattle.std.proofs.Common.{rules}
use Rattle.enet_seq.proofs.ahead.Goals as goal

pub returns : goal.returns
returns c = search rules
