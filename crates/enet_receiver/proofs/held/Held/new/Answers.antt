use Rattle.std.proofs.Common.{sym, subst}
use Rattle.enet_receiver.specs.Blocks.{AreMarked}
use Rattle.enet_receiver.proofs.Marks.{Blocks, AreMarked-new}
use Rattle.enet_receiver.proofs.held.Held.new.Goals as goal

pub invariant_of-result : goal.invariant_of-result
invariant_of-result c = subst (λ (b : Blocks). AreMarked b c.new.result) (sym c.new-2.ensures.items) (AreMarked-new c.new.result c.new.ensures)
