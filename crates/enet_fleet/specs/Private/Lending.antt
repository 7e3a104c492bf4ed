-- A host of a fleet is lent.
use Rattle.std.specs.Prelude.{Option}
use Rattle.std.specs.Borrow.{LendsIf, MutBor, Fml}
use Rattle.law_network.specs.Places.{Place}
use Rattle.enet_site.specs.contracts.place.Place as place
use Rattle.law_headline.specs.declared.node.Node.{Node}
use Rattle.enet_fleet.specs.contracts.hosts.Hosts as hosts
use Rattle.enet_fleet.specs.Fleets.{Fleet, with_place}

-- afterwards the fleet has that host as it was left, and is as it was where there is none
abbrev pub LendsPlace : MutBor Fleet → Node → Option (MutBor Place) → Fml
LendsPlace f n p = LendsIf hosts.the_row place.the_row f p (with_place f.now n) f.now
