use Rattle.std.proofs.Common.{◌≡◌, take, count_by}
use Rattle.enet_captured.specs.declared.timeline.Way.TheVariants.{Right, Left}
use Rattle.enet_captured.specs.Sends.{asks_on, turn}
use Rattle.enet_captured.specs.Private.Tables.{IsTable}
use Rattle.enet_captured.proofs.sends.turns_of.Given as goal

-- the turns so far, and how many went each way
abbrev pub invariant-loop-mark : goal.invariant-loop-mark
invariant-loop-mark l = record {
  table : IsTable (turn l.marks) l.mark-index l.turns.items;
  to_right : l.right ≡ count_by (asks_on Right) (take l.mark-index l.marks);
  to_left : l.left ≡ count_by (asks_on Left) (take l.mark-index l.marks);
}
