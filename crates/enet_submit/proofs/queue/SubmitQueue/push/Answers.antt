use Rattle.std.proofs.Common.{refl, sym, ap, arith}
use Rattle.enet_submit.specs.Parcels.{numbered}
use Rattle.enet_submit.specs.Requests.{orders_of}
use Rattle.enet_submit.proofs.Rules.{submits, seat_after, seat_pushed}
use Rattle.enet_submit.proofs.queue.SubmitQueue.push.Goals as goal

pub try_push_as-requires-clause-rule : goal.try_push_as-requires-clause-rule
try_push_as-requires-clause-rule g c = let s = c.args.seat.now in (submits _ _ _ s.number _ _ s.sees s.within refl (sym s.counted) (omega (arith, c.requires.room, c.requires.counted.0))).0

pub invariant_of-seat-2-clause-sees : goal.invariant_of-seat-2-clause-sees
invariant_of-seat-2-clause-sees g c = let s = c.args.seat.now in (seat_after _ _ s.number s.count (orders_of c.args.request) s.sees c.in_default.ensures.rule).0

pub invariant_of-seat-2-clause-counted : goal.invariant_of-seat-2-clause-counted
invariant_of-seat-2-clause-counted g c = let s = c.args.seat.now in omega (arith, (seat_after _ _ s.number s.count (orders_of c.args.request) s.sees c.in_default.ensures.rule).2, s.counted, c.requires.counted.0)

pub invariant_of-seat-2-clause-within : goal.invariant_of-seat-2-clause-within
invariant_of-seat-2-clause-within g c = let s = c.args.seat.now in omega (arith, (seat_after _ _ s.number s.count (orders_of c.args.request) s.sees c.in_default.ensures.rule).1, s.within)

pub returns-clause-pushed : goal.returns-clause-pushed
returns-clause-pushed g c =
    let s = c.args.seat.now in
    seat_pushed _ _ s.number _ (numbered s.number s.count (orders_of c.args.request)) _ s.sees c.requires.seat.1 (ap (λ n. numbered s.number n (orders_of c.args.request)) (sym s.counted)) c.in_default.ensures.rule
