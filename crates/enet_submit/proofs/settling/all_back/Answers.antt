use Rattle.std.proofs.Common.{rules, ℕ, ◌<◌, refl, sym, subst, below_more, arith}
use Rattle.std.proofs.lemmas.Bool.{false≢true}
use Rattle.enet_submit.specs.Words.{HasSent}
use Rattle.enet_submit.proofs.settling.all_back.Goals as goal

pub returns-then-not-has_sent : goal.returns-then-not-has_sent
returns-then-not-has_sent c =
    let s : ℕ = c.loop-seat.seat in
    let few = c.args.drain.now.few in
    let here : s < 16 = omega arith in
    ((λ z. absurd (false≢true z)), λ all. c.if-not-has_sent.ensures.1 (subst (λ n. HasSent s n c.args.finished.now) (sym (c.args.drain.now.counted s here)) (all s c.loop-seat-test.true)))

pub loop-seat-preserved : goal.loop-seat-preserved
loop-seat-preserved c =
    let s : ℕ = c.loop-seat.seat in
    let few = c.args.drain.now.few in
    let here : s < 16 = omega arith in
    below_more _ _ c.loop-seat.invariant (subst (λ n. HasSent s n c.args.finished.now) (c.args.drain.now.counted s here) (c.if-not-has_sent.ensures.0 refl))

pub returns : goal.returns
returns c = search rules
