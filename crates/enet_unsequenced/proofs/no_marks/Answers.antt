use Rattle.std.proofs.lemmas.List.{get_or-replicate}
use Rattle.enet_unsequenced.proofs.no_marks.Goals as goal

pub returns : goal.returns
returns c = λ place d within. get_or-replicate 16 place 0 d within
