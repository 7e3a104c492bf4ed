use Rattle.std.proofs.Common.{refl}
use Rattle.law_network.proofs.ExampleWorlds.{crosses-opened, crosses-joined}
use Rattle.law_network.proofs.runs_happen.Goals as goal

pub returns-clause-in_range : goal.returns-clause-in_range
returns-clause-in_range c = refl

pub returns-clause-opened : goal.returns-clause-opened
returns-clause-opened c = crosses-opened

pub returns-clause-joined : goal.returns-clause-joined
returns-clause-joined c = crosses-joined
