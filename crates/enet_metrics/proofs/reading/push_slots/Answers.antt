use Rattle.std.proofs.Common.{append_assoc, refl}
use Rattle.enet_metrics.specs.Readings.{slots_text}
use Rattle.enet_metrics.proofs.reading.push_slots.Goals as goal

pub returns : goal.returns
unfolding slots_text
returns c =
    simp (append_assoc, c.in_ok-push_states.ensures, c.in_ok-push_head.ensures, c.in_ok-push_figure.ensures) refl
