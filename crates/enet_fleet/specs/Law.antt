-- The law of one connection, of each connection of a fleet.
use Rattle.std.specs.Prelude.{◌≡◌, ℕ, false, true, List, Some, Result, slice_get}
use Rattle.std.specs.List.{list_all}
use Rattle.enet_codec.specs.declared.config.Config.{Config}
use Rattle.enet_codec.specs.declared.refusal.Refusal.{Refusal}
use Rattle.enet_codec.specs.Config.{is_in_range}
use Rattle.enet_fleet.specs.declared.answer.Answer.{Answer}
use Rattle.law_connection.specs.LinkSteps.{Has}
use Rattle.law_network.specs.Law.{IsPaired}
use Rattle.law_network.specs.Log.{Logged}
use Rattle.law_network.specs.Places.{Place}
use Rattle.enet_fleet.specs.declared.event.FleetEvent.{FleetEvent}
use Rattle.law_headline.specs.declared.node.Node.{Node}
use Rattle.enet_fleet.specs.Fleets.{Fleet, place_of, far_address, Runs, open_fleet}

-- the client that asked for a connection and the server show its two ends
abbrev pub AreLawful : Fleet → Type 0
AreLawful f = (x i : ℕ) → slice_get f.asked x ≡ Some i → (p : Place) × (slice_get f.clients i ≡ Some p) × IsPaired false p.site f.server.site x

-- what a host puts out of a connection goes to the host that has its other end
abbrev pub AreAcross : Fleet → Type 0
AreAcross f = (n : Node) (p : Place) → place_of f n ≡ Some p → (d : Logged) → Has p.site.log d → far_address f n d.connection ≡ Some d.to

-- of every fleet that comes of hosts whose slots are all free, by events of any kind, whatever is answered to them
abbrev pub OfEachRun : (Fleet → Type 0) → Type 0
OfEachRun P = (server : Config) (clients : List Config) → is_in_range server ≡ true → list_all is_in_range clients ≡ true
    → (events : List FleetEvent) (answers : List (Result Answer Refusal)) (f : Fleet) → Runs (open_fleet server clients) events answers f → P f
