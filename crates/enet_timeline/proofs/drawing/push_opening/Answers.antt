use Rattle.std.proofs.Common.{append_assoc}
use Rattle.enet_timeline.specs.Pictures.{opening_text}
use Rattle.enet_timeline.proofs.drawing.push_opening.Goals as goal

pub returns : goal.returns
unfolding opening_text
returns c = simp append_assoc c.write.ensures.bytes
