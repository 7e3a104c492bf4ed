use Rattle.std.proofs.Common.{ℕ, length, Option}
use Rattle.enet_pcapng.specs.Interfaces.{Finds}
use Rattle.enet_pcapng.proofs.interface.exponent_in.Given as goal

abbrev pub invariant-options : goal.invariant-options
invariant-options l = (exponent : Option ℕ) → Finds l.order l.rest exponent → Finds l.order l.options exponent

abbrev pub decreases-options : goal.decreases-options
decreases-options l = length l.rest
