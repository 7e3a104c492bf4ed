use Rattle.std.proofs.Common.{refl}
use Rattle.enet_fleet.proofs.ExampleFleets.{crosses}
use Rattle.enet_fleet.proofs.run_happens.Goals as goal

pub returns-clause-in_range : goal.returns-clause-in_range
returns-clause-in_range c = refl

pub returns-clause-crosses : goal.returns-clause-crosses
returns-clause-crosses c = crosses
