use Rattle.std.proofs.Common.{append_assoc, refl}
use Rattle.enet_metrics.specs.Trips.{trips_text}
use Rattle.enet_metrics.proofs.trips.push_trips.Goals as goal

pub returns : goal.returns
unfolding trips_text
returns c =
    simp (append_assoc, c.in_ok-push_line.ensures, c.in_ok-push_seconds.ensures, c.in_ok-total.ensures.text, c.in_ok-push_head.ensures, c.in_ok-total.ensures.total) refl
