use Rattle.std.proofs.Common.{ℕ, Option, List, sym, subst}
use Rattle.slab.specs.Slab.{get}
use Rattle.enet_sender.specs.Foretold.{AreForetold}
use Rattle.enet_sender.proofs.Foretelling.{foretold-noted}
use Rattle.enet_sender.proofs.lateness.note_anew.Goals as goal

pub returns-in-Some-clause-foretold : goal.returns-in-Some-clause-foretold
returns-in-Some-clause-foretold c =
    subst (λ (ms : List (Option ℕ)). AreForetold c.args.clock (get c.args.slab.now) ms) (sym c.set.ensures)
    (foretold-noted c.args.clock c.args.now c.args.key c.in-Some.moment (get c.args.slab.now) c.args.deadlines.now c.requires.shown c.requires.begun c.requires.within c.requires.foretold c.in-Some.ensures.some)
