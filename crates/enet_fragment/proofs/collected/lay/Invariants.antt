use Rattle.std.proofs.Common.{◌≡◌, ◌≤◌, take}
use Rattle.std.specs.Vec.{vec_capacity}
use Rattle.enet_fragment.specs.Collected.{laid}
use Rattle.enet_fragment.specs.Private.Assembly.{filled_up}
use Rattle.enet_fragment.proofs.collected.lay.Given as goal

abbrev pub invariant-loop-piece : goal.invariant-loop-piece
invariant-loop-piece l = record {
  bytes : filled_up l.total l.buffer.items ≡ laid (filled_up l.total l.initial.buffer.items) (take l.piece-index l.early);
  len : l.buffer.len ≤ l.total;
  room : l.total ≤ vec_capacity l.buffer;
}
