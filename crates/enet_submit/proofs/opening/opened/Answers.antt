use Rattle.std.proofs.Common.{ℕ, rules, arith}
use Rattle.enet_submit.specs.declared.token.Seat.{Seat}
use Rattle.enet_submit.specs.Words.{IsNew, IsSeatOf}
use Rattle.enet_submit.proofs.Rules.{begins}
use Rattle.enet_submit.proofs.Settles.{each_kept, all_from_each}
use Rattle.enet_submit.proofs.opening.opened.Goals as goal

pub ruled-requires-clause-rule : goal.ruled-requires-clause-rule
ruled-requires-clause-rule c = begins

pub returns : goal.returns
returns c =
    let Q : Seat → Type 0 = IsSeatOf (record { ring = c.in_ok-ring.ring; seats = c.args.seats; per_seat = c.args.per_seat; few = omega arith }) in
    let P : ℕ → Seat → Type 0 = λ k s. Q s × IsNew k s in
    let all = c.make_seats-all.ensures.seats in
    record {
      capacity_is = (search rules);
      seats_are = (search rules);
      limit_is = (search rules);
      one_for_each = all.0;
      in_order = each_kept P IsNew _ _ (λ n s p. p.1) all.1;
      all_of_queue = all_from_each Q P _ _ (λ n s p. p.0) all.1;
      drain_of_queue = (search rules);
      none_taken = (search rules);
    }
