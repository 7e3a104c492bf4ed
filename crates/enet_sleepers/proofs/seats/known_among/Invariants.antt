use Rattle.std.proofs.Common.{◌≡◌, ◌+◌}
use Rattle.enet_slot.specs.Slotted.{all_shown}
use Rattle.enet_sleepers.specs.Private.Seating.{KnownInNone}
use Rattle.enet_sleepers.proofs.seats.known_among.Given as goal

abbrev pub invariant-loop-cell : goal.invariant-loop-cell
invariant-loop-cell l = record {
  none : KnownInNone l.from l.connect_id (all_shown l.slots) l.cells l.first l.cell;
  end : l.cell-end ≡ l.first + 8;
}
