use Rattle.std.proofs.Common.{append_assoc, refl}
use Rattle.enet_metrics.specs.Readings.{states_text}
use Rattle.enet_metrics.proofs.reading.push_states.Goals as goal

pub returns : goal.returns
unfolding states_text
returns c =
    simp (append_assoc, c.in_ok-push_line-6.ensures, c.in_ok-push_line-5.ensures, c.in_ok-push_line-4.ensures, c.in_ok-push_line-3.ensures, c.in_ok-push_line-2.ensures, c.in_ok-push_line.ensures) refl
