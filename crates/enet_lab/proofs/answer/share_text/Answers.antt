use Rattle.std.proofs.lemmas.List.{append_assoc}
use Rattle.enet_lab.specs.Answers.{share_text}
use Rattle.enet_lab.proofs.answer.share_text.Goals as goal

pub returns : goal.returns
unfolding share_text
returns c = simp append_assoc c.format.ensures.ok
