use Rattle.std.proofs.Common.{sym, ◌∙◌}
use Rattle.enet_service.proofs.Parting.{one-parted, none-parted}
use Rattle.enet_service.proofs.watched.WatchedHost.disconnect_all.Goals.{in-Some, in_default}
use Rattle.enet_service.proofs.watched.WatchedHost.disconnect_all.Goals as goal

pub loop-slot-preserved : goal.loop-slot-preserved
loop-slot-preserved c = elim c.match-name_in.branch [
  | in-Some w ↦ rw (w.self-inside-is, w.parted-is) (one-parted _ _ _ _ _ _ w.in-Some.peer _ c.loop-slot.invariant (sym c.name_in.ensures ∙ w.in-Some.is) w.apply_order.ensures)
  | in_default w ↦ rw (w.self-inside-is, w.parted-is) (none-parted _ _ _ _ _ c.loop-slot.invariant (sym c.name_in.ensures ∙ w.in_default.is))
]
