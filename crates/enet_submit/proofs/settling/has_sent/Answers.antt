use Rattle.std.proofs.Common.{sym, refl, ◌∙◌}
use Rattle.enet_submit.proofs.settling.has_sent.Goals as goal

pub returns-then-f-count : goal.returns-then-f-count
returns-then-f-count c =
    let f = c.f-item.result in
    ((λ _. (f, (c.loop-f.f-index, c.loop-f-test.true, sym c.f-item.is), c.if-f-seat.true, f.counted ∙ c.if-f-count.true)), λ _. refl)
