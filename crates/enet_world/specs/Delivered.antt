-- Acknowledged means delivered, between the two hosts of a world.
use Rattle.std.specs.Prelude.{ℕ}
use Rattle.law_network.specs.World.{World}
use Rattle.law_headline.specs.Delivered.{ArrivesBetween}

-- of each connection
abbrev pub HasDelivered : World → Type 0
HasDelivered w = (x : ℕ) → ArrivesBetween w.a w.b x
