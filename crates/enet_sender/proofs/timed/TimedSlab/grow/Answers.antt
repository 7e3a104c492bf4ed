use Rattle.std.proofs.Common.{refl, ap}
use Rattle.slab.specs.Slab.{Slab}
use Rattle.enet_sender.specs.declared.sent.Sent.{Sent}
use Rattle.enet_sender.proofs.Foretelling.{keeps-grown}
use Rattle.enet_sender.proofs.Weighing.{bytes-still}
use Rattle.enet_sender.proofs.timed.TimedSlab.grow.Goals as goal

pub invariant_of-self : goal.invariant_of-self
invariant_of-self c = (
  keeps-grown c.self.inside.slab c.self.inside.slab c.self.inside.deadlines c.make_places.new.deadlines c.self.inside.clock c.self.invariant.0 refl c.make_places.ensures.grown c.make_places.ensures.few,
  c.self.invariant.1,
)

pub invariant_of-self-then-is_err : goal.invariant_of-self-then-is_err
invariant_of-self-then-is_err c = (
  keeps-grown c.self.inside.slab c.reserve_exact.new.self c.self.inside.deadlines c.make_places.new.deadlines c.self.inside.clock c.self.invariant.0
      (ap (λ (s : Slab Sent). s.slots) c.reserve_exact.ensures.rest_kept) c.make_places.ensures.grown c.make_places.ensures.few,
  bytes-still c.self.inside.slab c.reserve_exact.new.self c.self.inside.bytes c.self.invariant.1 (ap (λ (s : Slab Sent). s.slots) c.reserve_exact.ensures.rest_kept),
)

pub invariant_of-self-2 : goal.invariant_of-self-2
invariant_of-self-2 c =
    let first = keeps-grown c.self.inside.slab c.reserve_exact.new.self c.self.inside.deadlines c.make_places.new.deadlines c.self.inside.clock c.self.invariant.0
    (ap (λ (s : Slab Sent). s.slots) c.reserve_exact.ensures.rest_kept) c.make_places.ensures.grown c.make_places.ensures.few in (
      keeps-grown c.reserve_exact.new.self c.reserve_exact.new.self c.make_places.new.deadlines c.make_places-2.new.deadlines c.self.inside.clock first refl c.make_places-2.ensures.grown c.make_places-2.ensures.few,
      bytes-still c.self.inside.slab c.reserve_exact.new.self c.self.inside.bytes c.self.invariant.1 (ap (λ (s : Slab Sent). s.slots) c.reserve_exact.ensures.rest_kept),
    )
