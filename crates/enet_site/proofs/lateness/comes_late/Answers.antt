use Rattle.std.proofs.Common.{rules}
use Rattle.enet_site.proofs.lateness.comes_late.Goals as goal

pub returns : goal.returns
returns c = search rules
