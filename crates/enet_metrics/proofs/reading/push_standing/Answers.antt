use Rattle.std.proofs.Common.{append_assoc, refl}
use Rattle.enet_metrics.proofs.reading.push_standing.Goals as goal

pub returns : goal.returns
returns c =
    simp (append_assoc, c.in_ok-push_traffic.ensures, c.in_ok-push_waiting.ensures, c.in_ok-push_slots.ensures, c.in_ok-push_queued.ensures, c.in_ok-push_peers.ensures) refl
