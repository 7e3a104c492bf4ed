use Rattle.std.proofs.Common.{append_assoc, refl}
use Rattle.enet_metrics.specs.Readings.{known_age_text}
use Rattle.enet_metrics.proofs.reading.push_known_age.Goals as goal

pub returns : goal.returns
unfolding known_age_text
returns c =
    simp (append_assoc, c.in_ok-push_seconds.ensures, c.in_ok-push_head.ensures) refl
