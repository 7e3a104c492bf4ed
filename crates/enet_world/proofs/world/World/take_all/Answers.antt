use Rattle.std.proofs.Common.{arith, inr, refl}
use Rattle.enet_world.proofs.world.World.take_all.Goals as goal

pub returns-clause-all : goal.returns-clause-all
returns-clause-all c = (c.takes.self.world, c.takes.invariant.taken, inr (omega (arith, c.takes-test.false, c.takes.invariant.end), refl, refl))
