use Rattle.std.proofs.Common.{arith}
use Rattle.enet_serve.proofs.Partings.{left-so, left-empty, left-told}
use Rattle.enet_serve.proofs.leaving.take_leave.Goals as goal

pub returns-then-see_off-clause-leaves : goal.returns-then-see_off-clause-leaves
returns-then-see_off-clause-leaves g c = left-so _ _ _ c.if-see_off.ensures.seen_off

pub returns-then-disconnect_all-gt0-clause-leaves : goal.returns-then-disconnect_all-gt0-clause-leaves
returns-then-disconnect_all-gt0-clause-leaves g c = left-told _ _ _ _ _ c.if-see_off.ensures.seen_off c.disconnect_all.ensures.parts c.take_turn.ensures.idles

pub returns-else-disconnect_all-gt0-clause-leaves : goal.returns-else-disconnect_all-gt0-clause-leaves
returns-else-disconnect_all-gt0-clause-leaves g c =
    left-empty _ _ _ _ c.if-see_off.ensures.seen_off c.disconnect_all.ensures.parts c.disconnect_all.ensures.count (omega (arith, c.if-disconnect_all-gt0.false))
