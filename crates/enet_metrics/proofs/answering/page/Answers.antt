use Rattle.std.proofs.Common.{append_assoc}
use Rattle.enet_metrics.specs.Answers.{page_text}
use Rattle.enet_metrics.proofs.answering.page.Goals as goal

pub returns : goal.returns
unfolding page_text
returns c = simp append_assoc c.format.ensures.ok
