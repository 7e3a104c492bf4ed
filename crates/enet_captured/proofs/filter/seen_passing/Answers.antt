use Rattle.std.proofs.Common.{◌∙◌, ap, arith, filter}
use Rattle.std.proofs.lemmas.List.{take_all}
use Rattle.enet_captured.specs.Filters.{seen_passes}
use Rattle.enet_captured.proofs.PassLemmas.{seen_more}
use Rattle.enet_captured.proofs.filter.seen_passing.Goals as goal

pub loop-place-preserved : goal.loop-place-preserved
loop-place-preserved c =
    seen_more c.args.asked c.args.begun c.args.marks.now c.args.seen.now c.loop-place.place _ _ _ _ _ c.loop-place-test.true c.seen_passes-passes.ensures
    (c.in_ok-numbers.ensures _) c.loop-place.invariant c.in_ok-keep.ensures

pub returns : goal.returns
returns c =
    c.loop-place.invariant ∙ ap (filter (seen_passes c.args.asked c.args.begun c.args.marks.now)) (take_all c.loop-place.place c.args.seen.now (omega arith))
