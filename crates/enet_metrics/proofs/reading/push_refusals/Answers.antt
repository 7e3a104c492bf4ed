use Rattle.std.proofs.Common.{append_assoc, refl}
use Rattle.enet_metrics.specs.Readings.{refusals_text}
use Rattle.enet_metrics.proofs.reading.push_refusals.Goals as goal

pub returns : goal.returns
unfolding refusals_text
returns c =
    simp (append_assoc, c.in_ok-push_reasons.ensures, c.in_ok-push_head.ensures) refl
