use Rattle.std.proofs.Common.{◌≡◌, ℕ, ◌≤◌, [], ◌∷◌, length, length-append, ap, ◌∙◌, arith, rules}
use Rattle.crossbeam_queue.specs.Passes.{view}
use Rattle.enet_submit.specs.declared.token.Seat.{Seat}
use Rattle.enet_submit.specs.Rule.{made_one, new_seat, seats_in}
use Rattle.enet_submit.specs.Words.{sent, limit_of, IsSeatOf, IsNew}
use Rattle.enet_submit.proofs.Rules.{new_one}
use Rattle.enet_submit.proofs.Settles.{each_next}
use Rattle.enet_submit.proofs.opening.make_seats.Goals as goal

pub another-theirs-requires-clause-rule : goal.another-theirs-requires-clause-rule
another-theirs-requires-clause-rule c = new_one _ _ _ _ c.loop-number.invariant.1

pub loop-number-preserved : goal.loop-number-preserved
loop-number-preserved c =
    let items = c.push_reserved.ensures.items in
    let theirs = c.another-theirs.ensures in
    let seat = c.new_seat.ensures in
    let none : length (sent c.new_seat.result) ≡ 0 = ap length seat.1.1 in
    let room : length (sent c.new_seat.result) ≤ limit_of c.args.queue.now = omega arith in (
      (search rules),
      theirs.rule.0 ∙ ap made_one c.loop-number.invariant.1,
      ap length items ∙ omega (arith, length-append c.loop-number.all.items (c.new_seat.result ∷ [])),
      each_next (λ (k : ℕ) (s : Seat). IsSeatOf c.args.queue.now s × IsNew k s) _ _ _ _ c.loop-number.invariant.2 items c.loop-number.invariant.3
          ((ap (λ p. p.table_id) seat.0 ∙ theirs.queue.1.0, ap (λ p. seats_in (view p)) seat.0 ∙ (ap seats_in theirs.rule.1 ∙ ap (λ v. seats_in (new_seat v)) c.loop-number.invariant.1), room), seat.1),
      c.push_reserved.ensures.capacity ∙ c.loop-number.invariant.4,
    )
