-- How every world of two hosts comes about.
use Rattle.std.specs.Prelude.{ℕ, zero, suc, ◌+◌, min, Bool, true, false, List, [], ◌∷◌}
use Rattle.enet_codec.specs.declared.config.Config.{Config}
use Rattle.law_network.specs.declared.event.Side.TheVariants.{A, B}
use Rattle.law_network.specs.declared.event.WorldEvent.{WorldEvent}
use Rattle.law_network.specs.declared.event.WorldEvent.TheVariants as happen
use Rattle.law_network.specs.World.{World, open_world, joined_world}

-- a world, whether connection 0 stood from its start, and by how many milliseconds both clocks together have gone on since
pub record Begun : Type 0 where
  pub joined : Bool
  pub passed : ℕ
  pub world : World

-- a world to which nothing has happened
abbrev pub first : Bool → Config → Config → World
first true a b = joined_world a b
first false a b = open_world a b

abbrev pub begun : Bool → Config → Config → Begun
begun joined a b = record { joined = joined; passed = 0; world = first joined a b }

-- the time that has passed, once this happens: a clock goes on by a minute at most, and the count stops at 2^32 - 1
abbrev pub passed_by : WorldEvent → ℕ → ℕ
passed_by (happen.Tick side ms) passed = min (passed + min ms 60000) 4294967295
passed_by _ passed = passed

-- once these happen, one after another
abbrev pub passed_in : List WorldEvent → ℕ → ℕ
passed_in [] passed = passed
passed_in (e ∷ es) passed = passed_in es (passed_by e passed)

-- after so many rounds, in each of which both clocks go on
abbrev pub passed_by_rounds : ℕ → ℕ → ℕ → ℕ
passed_by_rounds zero ms passed = passed
passed_by_rounds (suc n) ms passed = passed_by (happen.Tick B ms) (passed_by (happen.Tick A ms) (passed_by_rounds n ms passed))
