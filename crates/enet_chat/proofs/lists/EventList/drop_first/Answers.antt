use Rattle.std.proofs.Common.{arith}
use Rattle.std.proofs.lemmas.List.Sums.{sum_by-take-drop}
use Rattle.enet_chat.specs.Lists.{length_of}
use Rattle.enet_chat.proofs.lists.EventList.drop_first.Goals as goal

pub invariant_of-self-else-is_empty : goal.invariant_of-self-else-is_empty
invariant_of-self-else-is_empty c = λ few.
    let kept = c.self.invariant few in
    let sum = sum_by-take-drop length_of c.self.inside.events.items c.args.count in
    rw (c.drop_first.ensures) (omega (arith, kept, sum))
