use Rattle.enet_service.proofs.Parting.{PartedBelow}
use Rattle.enet_service.proofs.watched.WatchedHost.disconnect_all.Given as goal

abbrev pub invariant-loop-slot : goal.invariant-loop-slot
invariant-loop-slot l = PartedBelow l.how l.fn.self l.slot l.parted l.self-inside.host
