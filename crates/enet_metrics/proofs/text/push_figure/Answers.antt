use Rattle.std.proofs.Common.{append_assoc, refl}
use Rattle.enet_metrics.specs.Texts.{figure_text}
use Rattle.enet_metrics.proofs.text.push_figure.Goals as goal

pub returns : goal.returns
unfolding figure_text
returns c =
    simp (append_assoc, c.in_ok-push_line.ensures, c.in_ok-push_head.ensures) refl
