use Rattle.std.proofs.Common.{append_assoc, refl}
use Rattle.enet_metrics.specs.Readings.{stops_text}
use Rattle.enet_metrics.proofs.reading.push_stops.Goals as goal

pub returns : goal.returns
unfolding stops_text
returns c =
    simp (append_assoc, c.in_ok-push_reasons.ensures, c.in_ok-push_head.ensures) refl
