use Rattle.std.proofs.Common.{sym, subst}
use Rattle.enet_receiver.specs.Blocks.{AreMarked}
use Rattle.enet_receiver.proofs.Marks.{Blocks, AreMarked-new}
use Rattle.enet_receiver.proofs.held.Held.clear.Goals as goal

pub invariant_of-self : goal.invariant_of-self
invariant_of-self c = subst (λ (b : Blocks). AreMarked b c.clear.new.self) (sym c.clear-2.ensures.items) (AreMarked-new c.clear.new.self c.clear.ensures)
