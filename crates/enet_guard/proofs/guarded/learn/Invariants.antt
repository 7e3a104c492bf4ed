use Rattle.std.proofs.Common.{◌≡◌}
use Rattle.enet_guard.specs.Guarding.{HasLearned, ruling}
use Rattle.enet_guard.proofs.guarded.learn.Given as goal

abbrev pub invariant-loop-slot : goal.invariant-loop-slot
invariant-loop-slot l = HasLearned l.fn.guard l.guard × (ruling l.guard ≡ ruling l.fn.guard)
