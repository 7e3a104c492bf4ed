-- The lists that a fleet keeps are those of its transcript.
use Rattle.std.specs.Prelude.{◌≡◌, ℕ, true, false, List, [], length, map, zip, Some, None, Result, slice_get}
use Rattle.std.specs.List.{list_all}
use Rattle.enet_codec.specs.declared.config.Config.{Config}
use Rattle.enet_codec.specs.declared.event.PeerRef.{PeerRef}
use Rattle.enet_codec.specs.declared.refusal.Refusal.{Refusal}
use Rattle.enet_codec.specs.Config.{is_in_range}
use Rattle.law_connection.specs.LinkSteps.{Has}
use Rattle.enet_fleet.specs.declared.answer.Answer.{Answer}
use Rattle.law_network.specs.Network.{HostEnd}
use Rattle.law_network.specs.Places.{Place}
use Rattle.law_headline.specs.declared.node.Node.{Node}
use Rattle.enet_fleet.specs.declared.event.FleetEvent.{FleetEvent}
use Rattle.enet_fleet.specs.Fleets.{Fleet, place_of, is_host, Runs, open_fleet}
use Rattle.law_headline.specs.Kept.{IsRecorded, IsCovered}
use Rattle.enet_fleet.specs.Transcript.{Happened, submitted, taken, asked, guests}

pub record IsToldBy (hs : List Happened) (f : Fleet) : Type 0 where
  pub each : (n : Node) (p : Place) → place_of f n ≡ Some p → IsRecorded (λ q channel. submitted n q channel hs) (λ q. taken n q hs) p.site
  pub covered : (n : Node) (p : Place) → place_of f n ≡ Some p → guests n hs ≡ false → IsCovered (is_host (length f.clients)) (λ q channel. submitted n q channel hs) (λ q. taken n q hs) p.site
  pub absent : (n : Node) → place_of f n ≡ None → (q : PeerRef) → taken n q hs ≡ []
  pub asked_is : f.asked ≡ map (λ a. a.0) (asked hs)
  pub begun : (x i : ℕ) (name : PeerRef) → slice_get (asked hs) x ≡ Some (i, name)
      → (p : Place) × (slice_get f.clients i ≡ Some p) × (e : HostEnd) × Has p.site.ends e × (e.connection ≡ x) × (e.name ≡ name)

-- of every list of events
abbrev pub EachListIsKept : Type 0
EachListIsKept = (server : Config) (clients : List Config) → is_in_range server ≡ true → list_all is_in_range clients ≡ true
    → (events : List FleetEvent) (answers : List (Result Answer Refusal)) (f : Fleet) → Runs (open_fleet server clients) events answers f → IsToldBy (zip events answers) f
