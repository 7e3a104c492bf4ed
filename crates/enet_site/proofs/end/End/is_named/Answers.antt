use Rattle.std.proofs.Common.{rules}
use Rattle.enet_site.proofs.end.End.is_named.Goals as goal

pub returns-then-self-name : goal.returns-then-self-name
returns-then-self-name c = search rules
