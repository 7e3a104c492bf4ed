use Rattle.std.proofs.Common.{rules}
use Rattle.enet_site.proofs.end.submitted.Goals as goal

pub returns-in-Some : goal.returns-in-Some
returns-in-Some c = search rules
