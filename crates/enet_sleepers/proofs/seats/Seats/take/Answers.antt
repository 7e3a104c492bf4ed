use Rattle.std.proofs.Common.{◌≤◌, length, subst, arith}
use Rattle.enet_sleepers.specs.Seating.{Seating}
use Rattle.enet_sleepers.proofs.seats.Seats.take.Goals as goal

pub overflow_cast-number : goal.overflow_cast-number
overflow_cast-number c = let few : length c.args.self.now.others ≤ 65535 = subst (λ (v : Seating). length v.others ≤ 65535) c.self.view_is c.self.invariant.few in omega (arith, few, c.requires.number)
