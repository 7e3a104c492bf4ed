use Rattle.std.proofs.Common.{◌∙◌, ◌+◌, ◌-◌, ◌≡◌, arith}
use Rattle.enet_range_coder.proofs.Sharing.{row_skips}
use Rattle.enet_range_coder.proofs.root.row_of.Goals as goal

pub loop-preserved : goal.loop-preserved
loop-preserved c =
    let n : c.loop.row.first + 16 - c.loop.row.first ≡ 16 = omega arith in
    record {
      first = omega (arith, c.loop.invariant.first);
      bound = omega (arith, c.loop.invariant.bound, c.weigh_all.ensures.bound);
      rest = row_skips c.args.weights.now c.loop.row.first c.args.aim c.loop.row.below c.weigh_all.result (rw n at c.weigh_all.ensures.weight) c.if-aim-below.false ∙ c.loop.invariant.rest;
    }
