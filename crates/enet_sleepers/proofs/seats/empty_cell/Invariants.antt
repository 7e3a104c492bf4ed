use Rattle.std.proofs.Common.{◌≡◌, ◌+◌, ◌≤◌}
use Rattle.enet_sleepers.proofs.seats.empty_cell.Given as goal

abbrev pub invariant-loop-cell : goal.invariant-loop-cell
invariant-loop-cell l = record {
  past : l.first ≤ l.cell;
  end : l.cell-end ≡ l.first + 8;
}
