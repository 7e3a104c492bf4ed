use Rattle.std.proofs.Common.{append_assoc, refl}
use Rattle.enet_metrics.specs.Readings.{queued_text}
use Rattle.enet_metrics.proofs.reading.push_queued.Goals as goal

pub returns : goal.returns
unfolding queued_text
returns c =
    simp (append_assoc, c.in_ok-push_figure-4.ensures, c.in_ok-push_figure-3.ensures, c.in_ok-push_figure-2.ensures, c.in_ok-push_figure.ensures) refl
