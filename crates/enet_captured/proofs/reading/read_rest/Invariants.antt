use Rattle.std.proofs.Common.{length, ◌-◌, ◌≡◌, ◌≤◌, ◌++◌, drop, List, Option}
use Rattle.enet_codec.specs.declared.stop.Stop.{Stop}
use Rattle.enet_captured.specs.declared.told.Told.{Told}
use Rattle.enet_captured.specs.Private.Readings.{SaysRest}
use Rattle.enet_captured.proofs.reading.read_rest.Given as goal

-- what the bytes that are left say, behind what was said, is what all say
abbrev pub invariant-loop-place : goal.invariant-loop-place
invariant-loop-place l =
    (l.place ≤ length l.datagram) × ((said : List Told) × (l.told.items ≡ l.fn.told.items ++ said)
    × ((more : List Told) (why : Option Stop) → SaysRest (drop l.place l.datagram) more why → SaysRest (drop l.header l.datagram) (said ++ more) why))

abbrev pub decreases-loop-place : goal.decreases-loop-place
decreases-loop-place l = length l.datagram - l.place
