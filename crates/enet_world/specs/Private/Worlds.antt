-- A world as one of its sides sees it, and what every world is.
use Rattle.std.specs.Prelude.{ℕ, ◌≡◌, ◌+◌, ◌≤◌, ◌<◌, ◌^◌, ◌&&◌, min, Bool, true, List, [], ◌∷◌, length, Result}
use Rattle.law_network.specs.declared.event.Side.{Side}
use Rattle.law_network.specs.declared.event.Side.TheVariants.{A, B}
use Rattle.law_network.specs.Network.{Site}
use Rattle.law_network.specs.World.{World, Runs, address_of}
use Rattle.enet_codec.specs.declared.refusal.Refusal.{Refusal}
use Rattle.enet_codec.specs.declared.config.Config.{Config}
use Rattle.enet_codec.specs.Config.{is_in_range}
use Rattle.law_network.specs.declared.event.Answer.{Answer}
use Rattle.law_network.specs.declared.event.WorldEvent.{WorldEvent}
use Rattle.law_network.specs.declared.event.WorldEvent.TheVariants as happen
use Rattle.enet_world.specs.Worlds.{first}

-- the world of a site and the other, where the site is this side
abbrev pub world_of : Side → Site → Site → ℕ → World
world_of A here far count = record { a = here; b = far; count = count }
world_of B here far count = record { a = far; b = here; count = count }

-- some list of events takes two such hosts to this world
pub record IsReached (joined : Bool) (w : World) : Type 0 where
  pub a : Config
  pub b : Config
  pub in_range : (is_in_range a && is_in_range b) ≡ true
  pub events : List WorldEvent
  pub answers : List (Result Answer Refusal)
  pub runs : Runs (first joined a b) events answers w

-- by how much an event's clock goes on, in milliseconds
abbrev pub passes : WorldEvent → ℕ
passes (happen.Tick side ms) = min ms 60000
passes _ = 0

abbrev pub all_pass : List WorldEvent → ℕ
all_pass [] = 0
all_pass (e ∷ es) = passes e + all_pass es

-- so, with so many milliseconds of both clocks together, counted up to 2^32 - 1
pub record IsReachedIn (passed : ℕ) (joined : Bool) (w : World) : Type 0 where
  pub reached : IsReached joined w
  pub counted : passed ≡ min (all_pass reached.events) 4294967295
  pub clock_a : reached.a.clock < 2 ^ 32
  pub clock_b : reached.b.clock < 2 ^ 32

-- both hosts are where they belong, and there are no more connections than ends
pub record IsPlaced (w : World) : Type 0 where
  pub a : w.a.address ≡ address_of A
  pub b : w.b.address ≡ address_of B
  pub few : w.count ≤ length w.a.ends + length w.b.ends
