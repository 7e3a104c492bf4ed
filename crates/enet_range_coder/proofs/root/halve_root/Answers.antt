use Rattle.std.proofs.Common.{◌<◌, length, get_or, arith}
use Rattle.std.proofs.lemmas.List.Edits.{map_over_more}
use Rattle.enet_range_coder.specs.Learning.{halve_weight}
use Rattle.enet_range_coder.proofs.Growing.{get_any}
use Rattle.enet_range_coder.proofs.root.halve_root.Goals as goal

pub loop-weight-preserved : goal.loop-weight-preserved
loop-weight-preserved c =
    let l : c.loop-weight.weight-index < length c.args.weights.now = omega arith in
    let m : c.loop-weight.weight-index < length c.loop-weight.weights = omega arith in
    (map_over_more halve_weight c.args.weights.now c.loop-weight.weights c.loop-weight.weight-index (get_or c.loop-weight.weights c.loop-weight.weight-index 0) l c.loop-weight.invariant (get_any c.loop-weight.weights c.loop-weight.weight-index 0 (get_or c.loop-weight.weights c.loop-weight.weight-index 0) m))
