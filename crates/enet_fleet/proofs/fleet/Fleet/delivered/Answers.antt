use Rattle.std.proofs.Common.{subst}
use Rattle.law_headline.specs.Delivered.{HasDelivered}
use Rattle.enet_fleet.specs.Fleets.{Fleet}
use Rattle.enet_fleet.proofs.Reaching.{fit-server, fit-clients}
use Rattle.enet_fleet.proofs.fleet.Fleet.delivered.Goals as goal

pub returns : goal.returns
returns c =
    let i = c.self.invariant in
    let each = c.each_connection_of_a_fleet.ensures.delivered i.server i.clients (fit-server i.server i.clients i.fit) (fit-clients i.server i.clients i.fit) in
    subst HasDelivered c.self.view_is (each i.events i.answers c.self.inside.hosts i.runs)
