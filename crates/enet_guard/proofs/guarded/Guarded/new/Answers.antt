use Rattle.enet_guard.proofs.Rests.{rest_new}
use Rattle.enet_guard.proofs.guarded.Guarded.new.Goals as goal

pub invariant_of-result : goal.invariant_of-result
invariant_of-result g c = rest_new _ _ c.new-6.ensures
