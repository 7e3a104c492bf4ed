use Rattle.std.proofs.Common.{rules, arith}
use Rattle.enet_sender.proofs.Weighing.{bytes-fit, bytes-come}
use Rattle.enet_sender.proofs.timed.TimedSlab.insert.Goals as goal

pub overflow_add-self : goal.overflow_add-self
overflow_add-self c =
    let most = bytes-fit c.self.inside.slab c.self.inside.deadlines c.self.inside.clock c.self.inside.bytes c.self.invariant.0 c.self.invariant.1 in
    omega (arith, c.requires.short, c.len.ensures.value)

pub invariant_of-self : goal.invariant_of-self
invariant_of-self c = (
  search rules,
  bytes-come c.self.inside.slab c.insert_reserved.new.self _ c.self.inside.bytes c.len.result _ c.self.invariant.1 c.insert_reserved.ensures.was_vacant c.insert_reserved.ensures.updates c.requires.short c.len.ensures.value,
)
