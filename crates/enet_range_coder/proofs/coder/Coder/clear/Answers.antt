use Rattle.std.proofs.Common.{refl}
use Rattle.enet_range_coder.specs.Learning.{nothing_learned}
use Rattle.enet_range_coder.proofs.coder.Coder.clear.Goals as goal

pub returns : goal.returns
unfolding nothing_learned
returns c = rw c.fresh-self.ensures refl
