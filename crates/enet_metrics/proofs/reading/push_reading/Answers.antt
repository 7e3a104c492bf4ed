use Rattle.std.proofs.Common.{append_assoc, refl}
use Rattle.enet_metrics.specs.Readings.{reading_text}
use Rattle.enet_metrics.proofs.reading.push_reading.Goals as goal

pub returns : goal.returns
unfolding reading_text
returns c =
    simp (append_assoc, c.in_ok-push_age.ensures, c.in_ok-push_trips.ensures, c.in_ok-push_refusals.ensures, c.in_ok-push_stops.ensures, c.in_ok-push_standing.ensures) refl
