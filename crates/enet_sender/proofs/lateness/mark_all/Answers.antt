use Rattle.std.proofs.Common.{◌≡◌, ◌+◌, ◌<◌, ◌≤◌, ◌≢◌, inl, inr, ℕ, None, Option, List, length, get_or, set, take, sym, ap, subst, ◌∙◌, arith}
use Rattle.std.specs.Option.{option_map}
use Rattle.std.proofs.lemmas.Bool.{cases_eq, cases_lt}
use Rattle.std.proofs.lemmas.List.{length-set, get_or-set_other}
use Rattle.slab.specs.Slab.{get}
use Rattle.enet_deadlines.specs.Moments.{IsNotDue}
use Rattle.enet_sender.specs.Sender.{marked}
use Rattle.enet_sender.specs.declared.sent.Sent.{Sent}
use Rattle.enet_sender.specs.declared.lateness.Late.{Late}
use Rattle.enet_sender.specs.Late.{IsLate}
use Rattle.enet_sender.specs.Private.Late.{IsLateOne}
use Rattle.enet_sender.specs.Foretold.{AreForetold}
use Rattle.enet_sender.proofs.Foretelling.{quiet, unmarked, foretold-marked, none_past-more, cleared-ahead}
use Rattle.enet_sender.proofs.Summing.{IsQuiet, late-more, late-all}
use Rattle.enet_sender.proofs.lateness.mark_all.Goals.{then-mark_under, else-mark_under}
use Rattle.enet_sender.proofs.lateness.mark_all.Goals as goal

pub overflow_add-from : goal.overflow_add-from
overflow_add-from c = omega (arith, c.in-Some.ensures.1, c.due.invariant.len, c.requires.few)

pub due-preserved : goal.due-preserved
due-preserved c =
    let tick = c.args.tick in
    let first = get c.args.slab.now in
    let at = get c.due.slab in
    let after = get c.mark_under.new.slab in
    let moments = c.due.deadlines in
    let key = c.in-Some.key in
    let inv = c.due.invariant in
    let due = c.in-Some.ensures in
    let updates = c.mark_under.ensures.updates in
    let done : (k : ℕ) → k < key + 1 → get c.mark_under.new.slab k ≡ option_map (marked c.args.tick) (get c.args.slab.now k) = λ k low. elim (cases_eq k key) [
      | inl same ↦ ap after same ∙ updates.changed ∙ ap (option_map (marked tick)) (inv.ahead key due.0 ∙ ap first (sym same))
      | inr other ↦ elim (cases_lt k c.due.from) [
        | inl less ↦ updates.others k other ∙ inv.done k less
        | inr more ↦
            let same = inv.ahead k more in
            updates.others k other ∙ same
            ∙ sym (unmarked tick (first k) (λ p there. quiet c.args.clock tick.now k at moments c.requires.shown inv.foretold (due.3 k more (omega (arith, other))) p (same ∙ there)))
      ]
    ] in
    let early : (k : ℕ) → c.due.from ≤ k → k < key → IsQuiet tick (first k) = λ k more less p there.
    quiet c.args.clock tick.now k at moments c.requires.shown inv.foretold (due.3 k more less) p (inv.ahead k more ∙ there) in
    let one : IsLateOne tick (first key) c.late_under.result = subst (λ (o : Option Sent). IsLateOne tick o c.late_under.result) (inv.ahead key due.0) c.late_under.ensures in
    let late = subst (λ (l : Late). IsLate tick (take (key + 1) c.args.slab.now.slots) l) (sym c.with-late.ensures) (late-more tick c.args.slab.now.slots c.due.from key c.due.late c.late_under.result due.0 early inv.late one) in
    let ahead : (k : ℕ) → key + 1 ≤ k → get c.mark_under.new.slab k ≡ get c.args.slab.now k = λ k more. updates.others k (λ same. omega arith) ∙ inv.ahead k (omega (arith, due.0)) in
    let clock = c.args.clock in
    elim c.if-mark_under.branch [
      | then-mark_under w ↦
          let is = w.deadlines-is ∙ w.clear.ensures in
          let others : (k : ℕ) → k ≢ key → get_or (set moments key None) k None ≡ get_or moments k None = λ k other. get_or-set_other moments key k None None other in
          record {
            foretold = subst (λ (ms : List (Option ℕ)). AreForetold clock after ms) (sym is)
                (foretold-marked clock key tick at after moments inv.foretold due.1 (sym c.mark_under.ensures.late ∙ w.if-mark_under.true) updates.changed updates.others);
            len = ap (λ (ms : List (Option ℕ)). length ms) is ∙ length-set moments key None ∙ inv.len;
            done = done;
            past = subst (λ (ms : List (Option ℕ)). (k : ℕ) → k < key + 1 → IsNotDue clock ms k) (sym is)
                (none_past-more clock c.due.from key moments (set moments key None) inv.past due.3 others (cleared-ahead clock key moments due.1));
            late = late;
            ahead = ahead;
          }
      | else-mark_under w ↦ record {
        foretold = subst (λ (ms : List (Option ℕ)). AreForetold clock after ms) (sym w.deadlines-is) w.note_anew.ensures.foretold;
        len = ap (λ (ms : List (Option ℕ)). length ms) w.deadlines-is ∙ w.note_anew.ensures.len ∙ inv.len;
        done = done;
        past = subst (λ (ms : List (Option ℕ)). (k : ℕ) → k < key + 1 → IsNotDue clock ms k) (sym w.deadlines-is)
            (none_past-more clock c.due.from key moments w.note_anew.new.deadlines inv.past due.3 w.note_anew.ensures.others w.note_anew.ensures.ahead);
        late = late;
        ahead = ahead;
      }
    ]

pub returns-clause-marked : goal.returns-clause-marked
returns-clause-marked c = λ key.
    let inv = c.due.invariant in
    elim (cases_lt key c.due.from) [
      | inl less ↦ inv.done key less
      | inr more ↦
          let same = inv.ahead key more in
          same ∙ sym (unmarked c.args.tick (get c.args.slab.now key) (λ p there. quiet c.args.clock c.args.tick.now key (get c.due.slab) c.due.deadlines c.requires.shown inv.foretold (c.in_default.ensures key more) p (same ∙ there)))
    ]

pub returns-clause-ahead : goal.returns-clause-ahead
returns-clause-ahead c = λ key.
    elim (cases_lt key c.due.from) [
      | inl less ↦ c.due.invariant.past key less
      | inr more ↦ c.in_default.ensures key more
    ]

pub returns-clause-late : goal.returns-clause-late
returns-clause-late c =
    let tick = c.args.tick in
    let inv = c.due.invariant in
    late-all tick c.args.slab.now.slots c.due.from c.due.late
    (λ k more p there. quiet c.args.clock tick.now k (get c.due.slab) c.due.deadlines c.requires.shown inv.foretold (c.in_default.ensures k more) p (inv.ahead k more ∙ there)) inv.late
