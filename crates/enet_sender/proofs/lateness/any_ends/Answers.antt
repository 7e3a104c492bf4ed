use Rattle.std.proofs.Common.{inl, inr, sym, ◌∙◌, arith}
use Rattle.std.proofs.lemmas.Bool.{cases_lt}
use Rattle.slab.specs.Slab.{get}
use Rattle.enet_sender.proofs.Foretelling.{quiet, ends-late, ending-more}
use Rattle.enet_sender.proofs.lateness.any_ends.Goals as goal

pub overflow_add-from : goal.overflow_add-from
overflow_add-from c = omega (arith, c.in-Some.ensures.1, c.requires.few)

pub due-preserved : goal.due-preserved
due-preserved c =
    let inv = c.due.invariant in
    let due = c.in-Some.ensures in
    record {
      before = ending-more c.args.clock c.args.now c.due.from c.in-Some.key c.args.patience.now c.args.heard (get c.args.slab.now) c.args.deadlines.now c.requires.shown c.requires.foretold inv.before due.3 (sym c.is_end.ensures ∙ c.if-is_end.false);
      within = omega (arith, due.1);
    }

pub returns-clause-none : goal.returns-clause-none
returns-clause-none c = λ answered key p there.
    elim (cases_lt key c.due.from) [
      | inl less ↦ c.due.invariant.before key p less there
      | inr more ↦ ends-late c.args.now c.args.patience.now c.args.heard p
          (quiet c.args.clock c.args.now key (get c.args.slab.now) c.args.deadlines.now c.requires.shown c.requires.foretold (c.in_default.ensures key more) p there)
    ]
