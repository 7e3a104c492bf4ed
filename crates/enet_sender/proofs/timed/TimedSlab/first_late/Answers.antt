use Rattle.slab.specs.Slab.{get}
use Rattle.enet_sender.proofs.Foretelling.{foretold-later}
use Rattle.enet_sender.proofs.timed.TimedSlab.first_late.Goals as goal

pub first_late-requires-clause-foretold : goal.first_late-requires-clause-foretold
first_late-requires-clause-foretold c =
    foretold-later c.self.inside.clock c.moment_at-clock.result (get c.self.inside.slab) c.self.inside.deadlines c.moment_at-clock.ensures.later c.self.invariant.0.foretold
