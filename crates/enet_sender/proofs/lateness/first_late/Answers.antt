use Rattle.std.proofs.Common.{◌+◌, ◌<◌, ◌^◌, arith, sym, ◌∙◌}
use Rattle.slab.specs.Slab.{get}
use Rattle.enet_sender.proofs.Foretelling.{late-after, late-never, least-near, overtaken}
use Rattle.enet_sender.proofs.lateness.first_late.Goals as goal

pub overflow_cast-result : goal.overflow_cast-result
overflow_cast-result c =
    let near : c.in-Some.moment < c.args.clock + 2 ^ 32 = least-near c.args.clock c.in-Some.ensures.0.0 c.in-Some.moment (get c.args.slab.now) c.args.deadlines.now c.requires.foretold c.in-Some.ensures.0.1 in
    omega (arith, c.if-clock-moment.true)

pub returns-in_default-clause-some : goal.returns-in_default-clause-some
returns-in_default-clause-some c = late-never c.args.clock c.args.now (get c.args.slab.now) c.args.deadlines.now c.requires.foretold c.in_default.ensures

pub returns-then-clock-moment-clause-some : goal.returns-then-clock-moment-clause-some
returns-then-clock-moment-clause-some c =
    late-after c.args.clock c.args.now c.in-Some.moment (get c.args.slab.now) c.args.deadlines.now c.requires.few c.requires.shown c.requires.foretold c.if-clock-moment.true c.in-Some.ensures.0 c.in-Some.ensures.1

pub returns-else-is_late-clause-none : goal.returns-else-is_late-clause-none
returns-else-is_late-clause-none c =
    let due = c.in_ok-key.ensures in
    overtaken c.args.clock c.args.now c.in_ok-key.key due.1.0 (get c.args.slab.now) c.args.deadlines.now c.requires.shown c.requires.foretold due.1.1.0 due.1.1.1 (sym c.is_late.ensures ∙ c.if-is_late.false)
