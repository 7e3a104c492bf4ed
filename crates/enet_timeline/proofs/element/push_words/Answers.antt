use Rattle.std.proofs.Common.{append_assoc}
use Rattle.enet_timeline.specs.Pictures.{words_text}
use Rattle.enet_timeline.proofs.element.push_words.Goals as goal

pub returns : goal.returns
unfolding words_text
returns c = simp append_assoc c.write.ensures.bytes
