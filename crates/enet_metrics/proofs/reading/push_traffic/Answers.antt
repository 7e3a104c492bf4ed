use Rattle.std.proofs.Common.{append_assoc, refl}
use Rattle.enet_metrics.specs.Readings.{traffic_text}
use Rattle.enet_metrics.proofs.reading.push_traffic.Goals as goal

pub returns : goal.returns
unfolding traffic_text
returns c =
    simp (append_assoc, c.in_ok-push_figure.ensures, c.in_ok-push_sends.ensures, c.in_ok-push_bytes.ensures, c.in_ok-push_datagrams.ensures) refl
