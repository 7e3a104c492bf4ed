use Rattle.std.proofs.Common.{rules}
use Rattle.enet_site.proofs.leaving.disconnect.Goals as goal

pub returns-in-Now : goal.returns-in-Now
returns-in-Now c = search rules
