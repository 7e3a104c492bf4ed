use Rattle.std.proofs.Common.{append_assoc, refl}
use Rattle.enet_metrics.specs.Readings.{datagrams_text}
use Rattle.enet_metrics.proofs.reading.push_datagrams.Goals as goal

pub returns : goal.returns
unfolding datagrams_text
returns c =
    simp (append_assoc, c.in_ok-push_line-2.ensures, c.in_ok-push_line.ensures, c.in_ok-push_head.ensures) refl
