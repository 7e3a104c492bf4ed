use Rattle.std.proofs.Common.{◌+◌, ◌∙◌}
use Rattle.enet_captured.specs.declared.timeline.Way.TheVariants.{Right, Left}
use Rattle.enet_captured.specs.Sends.{asks_on, turn}
use Rattle.enet_captured.proofs.TableLemmas.{table_more}
use Rattle.enet_captured.proofs.LinkLemmas.{slice_table, turn_is, more_is}
use Rattle.enet_captured.proofs.sends.turns_of.Goals as goal

pub loop-mark-preserved : goal.loop-mark-preserved
loop-mark-preserved c =
    let marks = c.args.marks.now in
    let l = c.loop-mark in
    let within = c.loop-mark-test.true in
    record {
      table = slice_table (turn marks) (l.mark-index + 1) _ _ c.in_ok-push.ensures.items
          (table_more (turn marks) l.mark-index l.turns.items c.by_way.result l.invariant.table
          (c.by_way.ensures ∙ turn_is marks l.mark-index l.right l.left _ within l.invariant.to_right l.invariant.to_left));
      to_right = more_is (asks_on Right) marks l.mark-index l.right c.counted-right.result _ within l.invariant.to_right c.counted-right.ensures;
      to_left = more_is (asks_on Left) marks l.mark-index l.left c.counted-left.result _ within l.invariant.to_left c.counted-left.ensures;
    }
