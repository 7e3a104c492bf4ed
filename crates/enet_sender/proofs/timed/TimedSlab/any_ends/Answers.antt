use Rattle.slab.specs.Slab.{get}
use Rattle.enet_sender.proofs.Foretelling.{foretold-later}
use Rattle.enet_sender.proofs.timed.TimedSlab.any_ends.Goals as goal

pub any_ends-requires-clause-foretold : goal.any_ends-requires-clause-foretold
any_ends-requires-clause-foretold c =
    foretold-later c.self.inside.clock c.moment_at-clock.result (get c.self.inside.slab) c.self.inside.deadlines c.moment_at-clock.ensures.later c.self.invariant.0.foretold
