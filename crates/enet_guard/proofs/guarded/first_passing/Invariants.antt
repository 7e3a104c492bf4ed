use Rattle.std.proofs.Common.{◌≡◌, ℕ, List, length}
use Rattle.enet_codec.specs.declared.address.Addr.{Addr}
use Rattle.enet_wire.specs.Wires.{also, unless_spent}
use Rattle.enet_guard.specs.Guarding.{ruling}
use Rattle.enet_guard.specs.Passing.{PassesOver}
use Rattle.enet_guard.proofs.Passings.{came_so}
use Rattle.enet_guard.proofs.guarded.first_passing.Given as goal

abbrev pub invariant-loop-over : goal.invariant-loop-over
invariant-loop-over g l =
    (over : List (Addr × List ℕ))
    × PassesOver l.fn.guard over l.guard
    × (length over ≡ l._over)
    × (g.N.Wire.told l.wire ≡ also (g.N.Wire.told l.fn.wire) (unless_spent (g.N.Wire.faults l.fn.wire) (came_so over)))
    × (g.N.Wire.faults l.wire ≡ g.N.Wire.faults l.fn.wire)
    × (ruling l.guard ≡ ruling l.fn.guard)
