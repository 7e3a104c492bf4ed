use Rattle.std.proofs.Common.{append_assoc}
use Rattle.enet_timeline.specs.Pictures.{ground_text}
use Rattle.enet_timeline.proofs.drawing.push_ground.Goals as goal

pub returns : goal.returns
unfolding ground_text
returns c = simp append_assoc c.write.ensures.bytes
