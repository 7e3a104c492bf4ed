-- Each peer of a fleet's hosts is one end, by the calls that the events make there: also where a stranger is at the other end.
use Rattle.std.specs.Prelude.{◌≡◌, ◌⊎◌, List, Some, Result}
use Rattle.enet_codec.specs.declared.config.Config.{Config}
use Rattle.enet_codec.specs.declared.event.PeerRef.{PeerRef}
use Rattle.enet_codec.specs.declared.refusal.Refusal.{Refusal}
use Rattle.law_network.specs.Calls.{Call}
use Rattle.law_network.specs.Calls as call
use Rattle.law_one_end.specs.Hosts.{IsEnd, IsNobody}
use Rattle.law_network.specs.Places.{Place}
use Rattle.law_headline.specs.declared.node.Node.{Node}
use Rattle.enet_fleet.specs.declared.answer.Answer.{Answer}
use Rattle.enet_fleet.specs.declared.event.FleetEvent.{FleetEvent}
use Rattle.enet_fleet.specs.Alone.{calls_at}
use Rattle.enet_fleet.specs.Fleets.{Fleet, place_of, Runs, open_fleet}

-- by these calls a host has become another, and each name that nobody had is still nobody's or that of one end
abbrev pub LeadToEnds : List Call → Place → Place → Type 0
LeadToEnds calls was is =
    (steps : call.Steps calls was.site.host is.site.host)
    × ((name : PeerRef) → IsNobody name calls ⊎ IsEnd name calls (record { before = was.site.host; after = is.site.host; steps = steps }))

-- so it is of each host, by the calls that these events and answers make there from the opening on
abbrev pub EachIsOneEnd : Config → List Config → List FleetEvent → List (Result Answer Refusal) → Type 0
EachIsOneEnd server clients events answers =
    (f : Fleet) × (run : Runs (open_fleet server clients) events answers f)
    × ((n : Node) (was : Place) → place_of (open_fleet server clients) n ≡ Some was
    → (is : Place) × (place_of f n ≡ Some is) × LeadToEnds (calls_at n events answers (open_fleet server clients) f run) was is)
