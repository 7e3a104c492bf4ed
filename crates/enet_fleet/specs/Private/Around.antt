-- What is around a host of a fleet.
use Rattle.law_network.specs.Steps.{Around}
use Rattle.law_headline.specs.declared.node.Node.{Node}
use Rattle.law_headline.specs.Nets as nets
use Rattle.enet_fleet.specs.Fleets.{Fleet, address_of}

abbrev pub around : Fleet → Node → Around
around f n = nets.around address_of f n
