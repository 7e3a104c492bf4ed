use Rattle.std.proofs.Common.{inl, inr, sym, ◌∙◌, arith}
use Rattle.std.proofs.lemmas.Bool.{cases_lt}
use Rattle.slab.specs.Slab.{get}
use Rattle.enet_sender.proofs.Foretelling.{quiet, before-more, none_past-more}
use Rattle.enet_sender.proofs.lateness.any_late.Goals as goal

pub overflow_add-from : goal.overflow_add-from
overflow_add-from c = omega (arith, c.in-Some.ensures.1, c.due.invariant.len, c.requires.few)

pub due-preserved : goal.due-preserved
due-preserved c =
    let at = get c.args.slab.now in
    let moments = c.due.deadlines in
    let new = c.note_anew.new.deadlines in
    let clock = c.args.clock in
    let key = c.in-Some.key in
    let inv = c.due.invariant in
    let due = c.in-Some.ensures in
    record {
      foretold = c.note_anew.ensures.foretold;
      len = c.note_anew.ensures.len ∙ inv.len;
      before = before-more clock c.args.now c.due.from key at moments c.requires.shown inv.foretold inv.before due.3 (sym c.is_late.ensures ∙ c.if-is_late.false);
      past = none_past-more clock c.due.from key moments new inv.past due.3 c.note_anew.ensures.others c.note_anew.ensures.ahead;
    }

pub returns-clause-none : goal.returns-clause-none
returns-clause-none c = λ answered key p there.
    let inv = c.due.invariant in
    elim (cases_lt key c.due.from) [
      | inl less ↦ inv.before key p less there
      | inr more ↦ quiet c.args.clock c.args.now key (get c.args.slab.now) c.due.deadlines c.requires.shown inv.foretold (c.in_default.ensures key more) p there
    ]

pub returns-clause-ahead : goal.returns-clause-ahead
returns-clause-ahead c = λ answered key.
    elim (cases_lt key c.due.from) [
      | inl less ↦ c.due.invariant.past key less
      | inr more ↦ c.in_default.ensures key more
    ]
