use Rattle.std.proofs.Common.{Bool, List, get_or, false, sym, ap, ◌∙◌}
use borrow.Author.Tests.{eqb-true}
use Rattle.enet_receiver.proofs.Marks.{none_set}
use Rattle.enet_receiver.proofs.block.Block.is_clear.Goals as goal

pub returns : goal.returns
returns c = λ clear k.
    sym (ap (λ (marks : List Bool). get_or marks k false) c.self.view_is)
    ∙ none_set c.self.inside.marks k (sym c.self.invariant.counted ∙ eqb-true c.self.inside.missing 4096 clear ∙ sym c.self.invariant.many)
