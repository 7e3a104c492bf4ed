use Rattle.std.proofs.Common.{append_assoc}
use Rattle.enet_metrics.specs.Texts.{line_text}
use Rattle.enet_metrics.proofs.text.push_line.Goals as goal

pub returns : goal.returns
unfolding line_text
returns c = simp append_assoc c.write.ensures.bytes
