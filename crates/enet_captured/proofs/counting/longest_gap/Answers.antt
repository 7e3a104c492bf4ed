use Rattle.std.proofs.Common.{◌≡◌, ◌+◌, ◌∙◌, ap, sym, subst, Some}
use Rattle.enet_captured.specs.Gaps.{IsLongestOf, gap_behind}
use Rattle.enet_captured.specs.Private.Gaps.{longer}
use Rattle.enet_captured.proofs.GapLemmas.{longest_more}
use Rattle.enet_captured.proofs.counting.longest_gap.Goals as goal

pub loop-place-preserved : goal.loop-place-preserved
loop-place-preserved c =
    let same : longer c.loop-place.longest (gap_behind c.args.seen.now c.loop-place.place) ≡ c.longer.result =
    ap (longer c.loop-place.longest) (sym c.gap_behind.ensures) ∙ sym c.longer.ensures in
    subst (λ g. IsLongestOf c.args.seen.now (c.loop-place.place + 1) (Some g)) same
    (longest_more c.args.seen.now c.loop-place.place c.loop-place.longest c.loop-place.invariant)
