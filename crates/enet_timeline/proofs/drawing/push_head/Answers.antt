use Rattle.std.proofs.Common.{refl}
use Rattle.enet_timeline.proofs.Joins.{join3}
use Rattle.enet_timeline.proofs.drawing.push_head.Goals as goal

pub returns : goal.returns
returns c = (_, join3 _ _ _ _ _ _ _ _ c.in_ok-push_opening.ensures c.in_ok-push_str.ensures.bytes c.in_ok-push_ground.ensures refl)
