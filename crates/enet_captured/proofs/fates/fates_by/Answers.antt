use Rattle.std.proofs.Common.{◌≡◌, ◌∙◌, length, ap, arith}
use Rattle.enet_captured.specs.Fates.{fate_at, join, joined}
use Rattle.enet_captured.proofs.FateLemmas.{fates_more}
use Rattle.enet_captured.proofs.fates.fates_by.Goals as goal

pub loop-place-preserved : goal.loop-place-preserved
loop-place-preserved c = λ q.
    let marks = c.args.marks.now in
    fates_more marks (fate_at marks) c.loop-place.fates c.insert.new.self c.loop-place.place q _ c.join-fate.result c.loop-place-test.true c.loop-place.invariant
    (c.join-fate.ensures ∙ ap (λ x. join x c.fate_at.result) c.fate_in.ensures ∙ ap (join _) c.fate_at.ensures) (c.in_ok-insert.ensures.updates.0 q)

pub returns : goal.returns
returns c =
    let marks = c.args.marks.now in
    let ended : c.loop-place.place ≡ length c.args.marks.now = omega arith in
    λ q. c.loop-place.invariant q ∙ ap (joined marks (fate_at marks) q) ended
