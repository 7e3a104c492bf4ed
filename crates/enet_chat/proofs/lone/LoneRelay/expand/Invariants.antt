use Rattle.std.specs.Prelude.{length}
use Rattle.enet_chat.specs.Lone.{Expands}
use Rattle.enet_chat.proofs.lone.LoneRelay.expand.Given as goal

abbrev pub invariant-loop-self : goal.invariant-loop-self
invariant-loop-self l = Expands l.fn.self l.self

abbrev pub decreases-loop-self : goal.decreases-loop-self
decreases-loop-self l = length l.self.events
