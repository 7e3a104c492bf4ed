-- How every fleet comes about.
use Rattle.std.specs.Prelude.{◌≡◌, true, List, Result}
use Rattle.enet_codec.specs.declared.config.Config.{Config}
use Rattle.enet_codec.specs.declared.refusal.Refusal.{Refusal}
use Rattle.enet_fleet.specs.declared.answer.Answer.{Answer}
use Rattle.enet_fleet.specs.declared.event.FleetEvent.{FleetEvent}
use Rattle.enet_fleet.specs.Fleets.{Fleet, Runs, open_fleet}
use Rattle.enet_fleet.specs.Reached.{fit}

-- some list of events takes such hosts to this fleet
pub record IsReached (f : Fleet) : Type 0 where
  pub server : Config
  pub clients : List Config
  pub fit : fit server clients ≡ true
  pub events : List FleetEvent
  pub answers : List (Result Answer Refusal)
  pub runs : Runs (open_fleet server clients) events answers f
